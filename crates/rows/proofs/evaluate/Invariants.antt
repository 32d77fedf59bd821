-- The values at the points of the first chunks are in s.
use Rattle.std.proofs.Common.{◌≡◌, ◌*◌, length}
use Rattle.std.specs.Slice.Iter.{chunks_rest, chunks_size}
use Rattle.std.specs.Iterator.Adapters.{enumerate_count, enumerate_source}
use Rattle.field.specs.Arithmetic.{gf}
use Rattle.poly.proofs.Forms.{newton_value_lem}
use Rattle.rows.proofs.Pieces.{Evaluated}
use Rattle.rows.proofs.evaluate.Given as goal

abbrev pub invariant-loop-i : goal.invariant-loop-i
invariant-loop-i l =
    let chunks = enumerate_source l.i-iterator in
    (chunks_size chunks ≡ 96)
    × Evaluated (newton_value_lem (gf l.reducer.degree) (length l.us) l.nodes l.us) l.xs l.at l.fn.s (96 * enumerate_count l.i-iterator)
    (chunks_rest chunks) l.s
