-- `reading::read_rows` reads row after row, as long as the rows are rows of the code.
use Rattle.std.proofs.Common.{◌≡◌, ◌↔◌, ℕ, drop, length}
use Rattle.field.specs.Arithmetic.{gf}
use Rattle.codes.specs.Code.{code_of}
use Rattle.codes.proofs.Messages.{message_rows, ReducedRows}
use Rattle.mark.proofs.Rows.{Laid, Left}
use Rattle.mark.proofs.reading.read_rows.Given as goal

-- row i, which comes next, begins at symbol q
abbrev pub invariant-loop-k : goal.invariant-loop-k
invariant-loop-k l =
    (i : ℕ) × (q : ℕ) × Left l.lengths l.array i q l.k-iterator.a.rest.now l.k-iterator.b.rest.now
    × (l.k-iterator.b.size ≡ length l.points)
    × Laid (code_of l.field.degree l.points l.lengths) i l.at q l.at (message_rows (gf l.field.degree) l.points (drop i l.lengths) (drop q l.array))
    (message_rows (gf l.field.degree) l.points l.lengths l.array) l.fn.s l.s
    × (ReducedRows (gf l.field.degree) l.points (drop i l.lengths) (drop q l.array) ↔ ReducedRows (gf l.field.degree) l.points l.lengths l.array)
