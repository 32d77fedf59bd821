-- The rows from row j on are in.
use Rattle.std.proofs.Common.{◌<◌}
use Rattle.ring.proofs.Horner.{Raised}
use Rattle.ring.proofs.carry.carry_rows.Given as goal

abbrev pub invariant-loop-j : goal.invariant-loop-j
invariant-loop-j l = record {
  some : 0 < l.j;
  risen : Raised l.field.degree l.ys l.array l.ring l.j;
}
