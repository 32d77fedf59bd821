-- `remaining::complete` releases the answer, with the lost and the wrong columns filled in, and its flags.
use Rattle.std.proofs.Common.{◌≡◌, ◌≤◌, List, ℕ, sym, ap, ◌∙◌, arith, length, take, replicate}
use lib.Seq.{length-take-le}
use Rattle.patch.specs.Parts.{lay}
use Rattle.patch.proofs.Parts.{take-lay, length-lay}
use Rattle.codes.specs.Code.{Code, code_of}
use Rattle.codes.specs.Lost.{lost_flags}
use Rattle.codes.proofs.Lost.{lost_length}
use Rattle.ending.proofs.Model.{filled}
use Rattle.conditions.proofs.Places.{copied}
use Rattle.finish.proofs.Filled.{rows-length}
use Rattle.remaining.specs.Working.{merged, to_fill}
use Rattle.remaining.proofs.Fronts.{merged-count, fill_count}
use Rattle.remaining.proofs.complete.Goals.{After-fill_flagged}
use Rattle.remaining.proofs.complete.Goals as goal

module _ (c : After-fill_flagged) where
  abbrev code : Code
  code = code_of c.args.field.now.degree c.args.points.now c.args.lengths.now

  abbrev n : ℕ
  n = length c.args.points.now

  abbrev y : List ℕ
  y = c.args.received.now

  abbrev marks : List ℕ
  marks = merged (lost_flags n c.args.lost.now) c.args.wrong.now

  abbrev own : List ℕ
  own = c.fill_flagged.new.s

  front : take n c.merge_flags-marks.result ≡ marks
  front = c.merge_flags-marks.ensures.1

  marks_size : length marks ≡ n
  marks_size = merged-count (lost_flags n c.args.lost.now) c.args.wrong.now ∙ lost_length n c.args.lost.now

  cells : length y ≤ 384
  cells = omega (arith, c.requires.ready.received.count, c.requires.ready.counts.cells)

  answer_size : length (filled code y (to_fill marks)) ≡ length y
  answer_size =
      rows-length c.args.field.now.degree (to_fill marks) c.args.points.now (fill_count marks ∙ marks_size)
      c.args.lengths.now y c.requires.ready.received.count
      ∙ sym c.requires.ready.received.count

  filled_own : own ≡ lay 0 (filled code y (to_fill marks)) (replicate 384 0)
  filled_own = rw front at c.fill_flagged.ensures

  long : length own ≡ 384
  long = ap length filled_own ∙ length-lay 0 _ (replicate 384 0)

  answer : take (length y) own ≡ filled code y (to_fill marks)
  answer = take-lay (filled code y (to_fill marks)) (replicate 384 0) filled_own answer_size (omega (arith, cells))

  answer_long : length (take (length y) own) ≡ length y
  answer_long = length-take-le _ own (omega (arith, long, cells))

pub returns : goal.returns
returns c =
    let f = (goal.at.returns c).After-fill_flagged in
    let sizes = c.requires.answer_len in (
      copied _ _ (answer_long f ∙ sym sizes.0) c.copy.ensures ∙ answer f,
      copied _ _ (ap length (front f) ∙ marks_size f ∙ sym sizes.1) c.copy-2.ensures ∙ front f,
    )
