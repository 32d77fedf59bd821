-- What is stored and what the rest gives make up the whole.
use Rattle.std.proofs.Common.{◌≡◌, ◌≤◌, ◌+◌, length, drop}
use Rattle.patch.specs.Parts.{lay}
use Rattle.codes.specs.Code.{total}
use Rattle.finish.specs.Working.{put, zeros_in}
use Rattle.finish.proofs.merge.Given as goal

abbrev pub invariant-loop-i : goal.invariant-loop-i
invariant-loop-i l =
    (l.j + total (zeros_in (drop l.i l.marks)) ≤ length l.vs)
    × (lay (l.at + l.i) (put (drop l.i l.marks) (drop l.j l.vs) (drop l.i l.row)) l.s ≡ lay l.at (put l.marks l.vs l.row) l.fn.s)
