-- `decode_mark` lends the mark's parts, and has the space cleared behind the last mark.
use Rattle.std.proofs.Common.{◌≡◌, ℕ, ◌+◌, ◌*◌, length, ap, ◌∙◌}
use lib.Dec.{eqb}
use Rattle.patch.proofs.Parts.{length_part, length-lay}
use Rattle.codes.specs.Factors.{description_of}
use Rattle.tray.specs.Promises.{cells}
use Rattle.tray.specs.Working.{cleared_if}
use Rattle.tray.proofs.Places.{lent_row, row_back}
use Rattle.tray.proofs.Filled.{marked}
use Rattle.tray.proofs.decode_mark.Goals as goal

pub returns : goal.returns
returns c =
    let s = c.args in
    let D = description_of s.degree s.points.now s.factors.now s.lengths.now in
    let n = cells D.code in
    let m = c.end_mark-ending in
    let at = s.k * n in
    let sized : length m.new.array ≡ n = m.auto.array ∙ ap length (lent_row at n s.arrays.now)
    ∙ length_part at n s.arrays.now c.requires.array in
    let long = ap length (row_back at n m.new.array s.arrays.now sized c.requires.array) ∙ length-lay at m.new.array s.arrays.now in
    marked D s.limit s.k s.received.now s.arrays.now s.flags.now s.space.now c.requires m.result m.new.array m.new.flags
    c.clear_behind.new.space m.auto.array m.auto.flags m.ensures
    (c.clear_behind.ensures ∙ ap (λ (z : ℕ). cleared_if (eqb (at + n) z) s.space.now) long)
