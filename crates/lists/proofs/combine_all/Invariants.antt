-- The symbols of the part so far are combined.
use Rattle.std.proofs.Common.{◌+◌}
use Rattle.std.specs.List.{between}
use Rattle.patch.proofs.Loops.{Filling}
use Rattle.lists.specs.Working.Combining.{combined_by}
use Rattle.lists.proofs.combine_all.Given as goal

abbrev pub invariant-loop-a : goal.invariant-loop-a
invariant-loop-a l = Filling 0 l.n (combined_by l.r l.fn.s l.at) (between l.at (l.at + l.n) l.fn.s) l.a-items l.a-index
