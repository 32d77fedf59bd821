-- `decode_lost` refuses by the first check that applies; else it lends the worker the front of the working space, and clears it.
use Rattle.std.proofs.Common.{◌≡◌, ℕ, ◌≤◌, List, ◌++◌, length, take, drop, refl, sym, ◌∙◌, arith}
use Rattle.refusal.specs.Refusal.{first}
use Rattle.codes.specs.Factors.{description_of}
use Rattle.codes.specs.Checks.{space_bytes}
use Rattle.codes.proofs.Factors.{Factors}
use Rattle.codes.proofs.Lost.{PassedLost, lost_passed}
use Rattle.joint.specs.Promises.{Given, given, buffers}
use Rattle.joint.specs.Lost.{checks_lost}
use Rattle.joint.proofs.Promised.{front_length, leaves}
use Rattle.joint.proofs.Cleared.{cleared_by, cleared_behind, front_room}
use Rattle.joint.proofs.decode_lost.Goals.{In_default}
use Rattle.joint.proofs.decode_lost.Goals as goal

-- where the checks let the call pass
module _ (c : In_default) where
  abbrev g : Given
  g = given (description_of c.args.degree c.args.points.now c.args.factors.now c.args.lengths.now) c.args.limit c.args.received.now
      (buffers c.args.answer.now c.args.flags.now) c.args.space.now

  clear : 0 ≡ first (checks_lost c.args.lost.now g)
  clear = c.in_default.ensures c.args.answer.now c.args.flags.now c.args.space.now refl refl refl

  passed : PassedLost g.description.code g.limit c.args.lost.now g.received g.lent.array g.lent.flags g.space × Factors g.description
  passed = lost_passed g.description g.limit c.args.lost.now g.received g.lent.array g.lent.flags g.space clear

  -- the front of the working space
  front : length (take space_bytes g.space) ≡ space_bytes
  front = front_length g.space passed.0.array.space

  -- the space, with a front as long that was used
  module _ (used : List ℕ) (kept : length used ≡ length (take space_bytes g.space)) where
    room : space_bytes ≤ length (used ++ drop space_bytes g.space)
    room = front_room used (drop space_bytes g.space) (kept ∙ front)

pub new-field-requires : goal.new-field-requires
new-field-requires c = (passed c).0.array.counts.degree

pub slice_bounds-decode_struck-end-2 : goal.slice_bounds-decode_struck-end-2
slice_bounds-decode_struck-end-2 c = (passed (goal.at.slice_bounds-decode_struck-end-2 c).In_default).0.array.space

pub slice_bounds-decode_struck-end-3 : goal.slice_bounds-decode_struck-end-3
slice_bounds-decode_struck-end-3 c = sym (front (goal.at.slice_bounds-decode_struck-end-3 c).In_default)

pub decode_struck-ending-requires-clause-ready_lost : goal.decode_struck-ending-requires-clause-ready_lost
decode_struck-ending-requires-clause-ready_lost c = let k = (goal.at.decode_struck-ending-requires-clause-ready_lost c).In_default in
    let p = (passed k).0 in
    rw c.new-field.ensures
    (record { counts = p.array.counts; proper = p.array.proper; received = p.array.received; remain = p.remain }, omega (arith, front k))

pub decode_struck-ending-requires-clause-answer_len : goal.decode_struck-ending-requires-clause-answer_len
decode_struck-ending-requires-clause-answer_len c =
    let p = (passed (goal.at.decode_struck-ending-requires-clause-answer_len c).In_default).0.array in
    (p.answer ∙ sym p.received.count, p.flags)

pub decode_struck-ending-requires-clause-factors : goal.decode_struck-ending-requires-clause-factors
decode_struck-ending-requires-clause-factors c =
    rw c.new-field.ensures (passed (goal.at.decode_struck-ending-requires-clause-factors c).In_default).1

pub clear-requires : goal.clear-requires
clear-requires c = room (goal.at.clear-requires c).In_default c.decode_struck-ending.new.space c.decode_struck-ending.auto.space

pub returns : goal.returns
returns c = let k = (goal.at.returns c).In_default in
    let used = c.decode_struck-ending.new.space in
    let kept = c.decode_struck-ending.auto.space in
    leaves (checks_lost c.args.lost.now (g k)) (g k).lent (g k).space _ (clear k) c.decode_struck-ending.result
    (buffers c.decode_struck-ending.new.answer c.decode_struck-ending.new.flags) _ (rw c.new-field.ensures at c.decode_struck-ending.ensures)
    (cleared_by _ c.clear.ensures (room k used kept) ∙ cleared_behind used (g k).space (kept ∙ front k))
