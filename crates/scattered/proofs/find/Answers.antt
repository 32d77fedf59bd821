-- To a word the two runs answer the word itself, as a word within the limit.
use Rattle.std.proofs.Common.{◌≤◌, length, sym, arith, ◌∙◌}
use lib.Seq.{length-take-le}
use Rattle.curve.proofs.Complete.{near_answer}
use Rattle.ring_checks.proofs.Ordinates.{y_room}
use Rattle.scattered.proofs.Flagged.{none_wrong}
use Rattle.scattered.proofs.find.Goals.{After-ordinates-ys}
use Rattle.scattered.proofs.find.Goals as goal

room : (c : After-ordinates-ys) → length c.args.received.now ≤ length c.ordinates-ys.result
room c = omega (arith, c.requires.1.count, y_room c.args.q c.requires.0.size c.ordinates-ys.result c.ordinates-ys.ensures)

pub returns-then-is_word : goal.returns-then-is_word
returns-then-is_word c =
    let y = c.args.received.now in
    let word = c.is_word.ensures.0 c.if-is_word.true in
    c.copy_from_slice.ensures.after
    ∙ sym (near_answer c.args.q c.requires.0.size c.args.m c.requires.0.order y c.requires.1 0
    (λ h. c.requires.3 (omega (arith, h))) word (omega (arith, none_wrong c.args.q y)))

pub slice_bounds-ys-end : goal.slice_bounds-ys-end
slice_bounds-ys-end c = room (goal.at.slice_bounds-ys-end c).After-ordinates-ys

pub slice_bounds-answer-end : goal.slice_bounds-answer-end
slice_bounds-answer-end c =
    sym (length-take-le _ c.ordinates-ys.result (room (goal.at.slice_bounds-answer-end c).After-ordinates-ys))
