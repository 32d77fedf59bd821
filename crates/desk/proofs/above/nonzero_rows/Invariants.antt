-- What is left to count completes the count.
use Rattle.std.proofs.Common.{◌*◌, ℕ}
use Rattle.patch.specs.Parts.{part}
use Rattle.refusal.specs.Refusal.{some_outside}
use Rattle.desk.proofs.Raising.{Counts}
use Rattle.desk.proofs.above.nonzero_rows.Given as goal

abbrev pub invariant-loop-l : goal.invariant-loop-l
invariant-loop-l l = Counts (λ (k : ℕ). some_outside 0 0 (part (k * l.n) l.n l.above)) l.r l.count l.l
