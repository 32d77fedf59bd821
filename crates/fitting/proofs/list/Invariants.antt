-- The sets of fewer columns are tried.
use Rattle.std.proofs.Common.{◌*◌, ◌≤◌, length}
use Rattle.codes.specs.Factors.{description_of}
use Rattle.fitting.specs.Working.{Turned}
use Rattle.fitting.proofs.Sets.{sets_from}
use Rattle.fitting.proofs.list.Given as goal

abbrev pub invariant-loop-size : goal.invariant-loop-size
invariant-loop-size l =
    (l.count ≤ l.size * 65536)
    × Turned (description_of l.degree l.points l.factors l.lengths) l.array (sets_from 0 l.size (length l.points)) 0 l.fn.room l.count
    l.room
