-- The rows before l are raised.
use Rattle.std.proofs.Common.{length}
use Rattle.desk.specs.Working.{Raised, change}
use Rattle.desk.proofs.above.raise.Given as goal

abbrev pub invariant-loop-l : goal.invariant-loop-l
invariant-loop-l l =
    Raised l.field.degree l.lengths l.basis (change l.field.degree (length l.basis) l.column l.factor l.array l.symbols) l.l l.fn.above l.above
