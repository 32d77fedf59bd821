-- The symbols of w so far are added.
use Rattle.std.proofs.Common.{length}
use Rattle.patch.proofs.Loops.{Filling}
use Rattle.lists.specs.Working.Lists.{summed}
use Rattle.lists.proofs.add.Given as goal

abbrev pub invariant-loop-i : goal.invariant-loop-i
invariant-loop-i l = Filling l.at (length l.w) (summed l.w l.fn.s l.at) l.fn.s l.s l.i
