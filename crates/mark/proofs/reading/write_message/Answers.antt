-- `reading::write_message` releases the message that was made, where the array is a code array, and nothing otherwise.
use Rattle.std.proofs.Common.{sym, replicate, ◌∙◌, arith}
use mathlib.Core.Bool.{true≢false}
use Rattle.patch.proofs.Parts.{take_copied}
use Rattle.mark.proofs.Rows.{copied_lay}
use Rattle.mark.proofs.reading.write_message.Goals as goal

pub returns-then-good : goal.returns-then-good
returns-then-good c =
    let a = c.args in
    let p = c.requires in
    -- what was said of it, at the caller's points
    let said = rw (c.new-field.ensures, take_copied a.points.now (replicate 96 0) c.copy.ensures) at c.read_array-good.ensures in
    let (m, message, codes, laid) = said.found c.if-good.true in
    let is = copied_lay m (replicate 384 0) a.message.now laid (message.count ∙ sym p.message)
    (omega (arith, message.count, p.counts.fits, p.counts.cells)) c.copy-then-good.ensures in
    record { found = λ e. (rw is message, rw is codes); none = λ e. absurd (true≢false (sym c.if-good.true ∙ e)) }
