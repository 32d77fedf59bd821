-- What is gathered and what the rest gives make up the whole.
use Rattle.std.proofs.Common.{◌≡◌, ◌+◌, ◌≤◌, length, drop}
use Rattle.patch.specs.Parts.{lay}
use Rattle.codes.specs.Lost.{right}
use Rattle.finish.proofs.gather.Given as goal

abbrev pub invariant-loop-flag : goal.invariant-loop-flag
invariant-loop-flag l =
    let i = length l.yielded in
    (l.j ≤ i) × (l.j + length (right (drop i l.flags) (drop i l.row)) ≡ length (right l.flags l.row))
    × (lay l.j (right (drop i l.flags) (drop i l.row)) l.s ≡ lay 0 (right l.flags l.row) l.fn.s)
