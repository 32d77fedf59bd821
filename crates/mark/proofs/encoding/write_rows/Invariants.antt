-- `encoding::write_rows` lays the values of each row behind those of the row before.
use Rattle.std.proofs.Common.{drop}
use Rattle.field.specs.Arithmetic.{gf}
use Rattle.codes.specs.Code.{code_of, encoded_rows}
use Rattle.mark.proofs.Rows.{Laid}
use Rattle.mark.proofs.encoding.write_rows.Given as goal

abbrev pub invariant-loop-k : goal.invariant-loop-k
invariant-loop-k l =
    Laid (code_of l.reducer.degree l.points l.lengths) l.k-index l.from l.at l.at
    (encoded_rows (gf l.reducer.degree) l.points (drop l.k-index l.lengths) (drop l.from l.message))
    (encoded_rows (gf l.reducer.degree) l.points l.lengths l.message) l.fn.s l.s
