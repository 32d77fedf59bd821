-- `conditions::row_counts` writes n − k for each row, one after the other.
use Rattle.std.proofs.Common.{◌-◌, length, get_or}
use Rattle.patch.proofs.Loops.{Filling}
use Rattle.conditions.proofs.row_counts.Given as goal

abbrev pub invariant-loop-l : goal.invariant-loop-l
invariant-loop-l l = Filling 0 (length l.lengths) (λ j. length l.points - get_or l.lengths j 0) l.fn.counts l.counts l.l
