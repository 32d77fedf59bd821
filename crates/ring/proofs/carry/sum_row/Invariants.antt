-- The sums of the sectors so far are written.
use Rattle.std.proofs.Common.{◌*◌}
use Rattle.patch.proofs.Loops.{Filling}
use Rattle.ring.specs.Working.{sector_sum}
use Rattle.ring.proofs.carry.sum_row.Given as goal

abbrev pub invariant-loop-x : goal.invariant-loop-x
invariant-loop-x l = Filling l.at (l.q * l.q) (sector_sum l.q l.v) l.initial.array l.array l.x
