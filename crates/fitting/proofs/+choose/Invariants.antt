-- The measure is the number of columns left.
use Rattle.std.proofs.Common.{◌-◌, length}
use Rattle.fitting.proofs.+choose.Given as goal

abbrev pub decreases-choose : goal.decreases-choose
decreases-choose l = length l.points.now - l.next
