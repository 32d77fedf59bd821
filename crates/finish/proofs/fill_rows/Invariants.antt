-- The rows filled in and what the rest gives make up the whole.
use Rattle.std.proofs.Common.{◌≡◌, length, drop}
use Rattle.patch.specs.Parts.{lay}
use Rattle.field.specs.Arithmetic.{gf}
use Rattle.ending.proofs.Model.{filled_rows}
use Rattle.conditions.proofs.Places.{RowAt}
use Rattle.finish.proofs.fill_rows.Given as goal

abbrev pub invariant-loop-k : goal.invariant-loop-k
invariant-loop-k l =
    RowAt (length l.points) l.lengths l.k-index l.at
    × (lay l.at (filled_rows (gf l.field.degree) l.flags l.points (drop l.k-index l.lengths) (drop l.at l.received)) l.s
    ≡ lay 0 (filled_rows (gf l.field.degree) l.flags l.points l.lengths l.received) l.fn.s)
