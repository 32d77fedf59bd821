-- `remaining::gather_rows` gathers one row after the other.
use Rattle.std.proofs.Common.{◌≡◌, ◌≤◌, length, drop}
use Rattle.patch.specs.Parts.{lay}
use Rattle.codes.specs.Lost.{right_rows}
use Rattle.conditions.proofs.Places.{RowAt}
use Rattle.remaining.proofs.gather_rows.Given as goal

abbrev pub invariant-loop : goal.invariant-loop
invariant-loop l =
    RowAt (length l.gone) l.lengths l.counter l.from × (l.at ≤ l.from)
    × (lay l.at (right_rows l.gone (length l.gone) (length (drop l.counter l.lengths)) (drop l.from l.received)) l.s
    ≡ lay 0 (right_rows l.gone (length l.gone) (length l.lengths) l.received) l.fn.s)
