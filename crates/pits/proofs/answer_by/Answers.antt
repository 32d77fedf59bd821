-- The first line is added to the received symbols, of which there are at most 64.
use Rattle.std.proofs.Common.{◌≤◌, List, ℕ, length, take, sym, ap, refl, arith, ◌∙◌}
use lib.Seq.{length-take-le}
use Rattle.lists.specs.Working.Lists.{summed_at}
use Rattle.hermitian.proofs.Sizes.{sides}
use Rattle.pits.proofs.Answered.{answered}
use Rattle.pits.proofs.answer_by.Goals.{After-solve}
use Rattle.pits.proofs.answer_by.Goals as goal

room : (c : After-solve) → length c.args.ring.now ≤ length c.solve.new.slots
room c =
    let g = c.requires.given in
    omega (arith, c.solve.ensures.slots_len_unchanged, g.ring.count, sides c.args.field.now.degree c.args.field.now.degree g.size refl)

pub slice_bounds-slots-end : goal.slice_bounds-slots-end
slice_bounds-slots-end c = room (goal.at.slice_bounds-slots-end c).After-solve

pub slice_bounds-add-end : goal.slice_bounds-add-end
slice_bounds-add-end c = sym (length-take-le _ c.solve.new.slots (room (goal.at.slice_bounds-add-end c).After-solve))

pub returns : goal.returns
returns c =
    let g = c.requires.given in
    let front : List ℕ = take (length c.args.ring.now) c.solve.new.slots in
    answered _ _ _ g.size g.ring _ _ _ c.solve.ensures.slots_len_unchanged c.solve.ensures.solved
    (c.add.ensures ∙ ap (λ (v : List ℕ). summed_at front v 0) c.copy_from_slice.ensures.after)
