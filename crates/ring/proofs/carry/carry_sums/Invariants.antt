-- The rows from row j on are made.
use Rattle.std.proofs.Common.{◌-◌, ◌<◌}
use Rattle.ring.proofs.Summing.{Going}
use Rattle.ring.proofs.carry.carry_sums.Given as goal

abbrev pub invariant-loop-j : goal.invariant-loop-j
invariant-loop-j l = record {
  some : 0 < l.j;
  going : Going l.field.degree l.ys l.ring l.v l.array (l.j - 1);
}
