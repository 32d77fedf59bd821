-- The products so far are written.
use Rattle.std.proofs.Common.{length}
use Rattle.patch.proofs.Loops.{Filling}
use Rattle.lists.specs.Working.Lists.{multiplied}
use Rattle.lists.proofs.multiply_by_bits.Given as goal

abbrev pub invariant-loop-i : goal.invariant-loop-i
invariant-loop-i l = Filling l.at (length l.w) (multiplied l.reducer.degree l.w l.a l.fn.s l.at l.b) l.fn.s l.s l.i
