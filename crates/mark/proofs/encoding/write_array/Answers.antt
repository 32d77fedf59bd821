-- `encoding::write_array` releases the rows that were made: they are the code array.
use Rattle.std.proofs.Common.{replicate, sym, ◌∙◌, arith}
use Rattle.codes.specs.Code.{code_of, encoded}
use Rattle.codes.proofs.Messages.{encoded_array}
use Rattle.patch.proofs.Parts.{take_copied}
use Rattle.mark.proofs.Rows.{copied_lay}
use Rattle.mark.proofs.encoding.write_array.Goals as goal

pub returns : goal.returns
returns c =
    let a = c.args in
    let p = c.requires in
    let size = (encoded_array p.proper p.message).count in
    copied_lay (encoded (code_of a.degree a.points.now a.lengths.now) a.message.now) (replicate 384 0) a.array.now
    (rw (c.new-reducer.ensures, take_copied a.points.now (replicate 96 0) c.copy.ensures) at c.write_rows.ensures)
    (size ∙ sym p.array) (omega (arith, size, p.counts.cells)) c.copy-2.ensures
