-- The first i inverses are in w.
use Rattle.std.proofs.Common.{◌+◌, ◌-◌, length}
use Rattle.patch.proofs.Loops.{Filling}
use Rattle.rows.specs.Working.Rows.{inverse}
use Rattle.rows.proofs.inverses.Given as goal

abbrev pub invariant-loop-i : goal.invariant-loop-i
invariant-loop-i l = Filling l.at (length l.points - (l.j + 1)) (inverse l.field.degree l.points l.j) l.fn.w l.w l.i
