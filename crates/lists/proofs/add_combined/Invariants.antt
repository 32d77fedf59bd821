-- The combined symbols of w so far are added.
use Rattle.std.proofs.Common.{length}
use Rattle.patch.proofs.Loops.{Filling}
use Rattle.lists.specs.Working.Combining.{added_by}
use Rattle.lists.proofs.add_combined.Given as goal

abbrev pub invariant-loop-i : goal.invariant-loop-i
invariant-loop-i l = Filling l.at (length l.w) (added_by l.r l.w l.fn.s l.at) l.fn.s l.s l.i
