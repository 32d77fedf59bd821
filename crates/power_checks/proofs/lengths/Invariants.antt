-- `lengths` are the message lengths of the powers 1 to s.
use Rattle.std.proofs.Common.{suc}
use Rattle.patch.proofs.Loops.{Filling}
use Rattle.power_checks.specs.Powers.{power_length}
use Rattle.power_checks.proofs.lengths.Given as goal

abbrev pub invariant-loop-i : goal.invariant-loop-i
invariant-loop-i l = Filling 0 l.powers (λ j. power_length l.k (suc j)) l.initial.ks l.ks l.i
