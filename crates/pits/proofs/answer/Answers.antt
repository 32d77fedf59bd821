-- `answer` is the model's answer: the points that are used come from the first run, and the answer from the second.
use Rattle.std.proofs.Common.{◌*◌, ◌≤◌, length, take, refl, sym, arith, ◌∙◌}
use lib.Seq.{length-take-le}
use Rattle.hermitian.proofs.Sizes.{sides, tested}
use Rattle.pits.specs.Working.Rings.{Given}
use Rattle.pits.proofs.Points.{ordinates_count}
use Rattle.pits.proofs.Answered.{given, answer_taken}
use Rattle.pits.proofs.answer.Goals.{Start, After-twice-ys}
use Rattle.pits.proofs.answer.Goals as goal

few : (c : Start) → length c.args.ring.now ≤ 64
few c = omega (arith, c.requires.ring.count, (sides c.args.q c.args.q c.requires.size refl).most)

-- the points, twice
all_given : (c : After-twice-ys) → Given c.new-field.result.degree c.args.m
    (take (2 * length c.args.ring.now) c.columns_twice-xs.result) (take (2 * length c.args.ring.now) c.twice-ys.result) c.args.ring.now
all_given c =
    let across = c.columns_twice-xs.ensures in
    let up = c.twice-ys.ensures in
    rw c.new-field.ensures (given c.args.q c.args.m c.args.ring.now c.args.ys.now _ _ _ c.requires across.result_len up.result_len
    across.twice up.twice (ordinates_count c.args.q c.requires.size c.requires.ordinates ∙ sym c.requires.ring.count))

pub new-field-requires : goal.new-field-requires
new-field-requires c = (tested _ c.requires.size).degree

pub columns_twice-xs-requires : goal.columns_twice-xs-requires
columns_twice-xs-requires c = (c.requires.size, few (goal.at.columns_twice-xs-requires c).Start)

pub twice-ys-requires : goal.twice-ys-requires
twice-ys-requires c =
    omega (
      arith,
      few (goal.at.twice-ys-requires c).Start,
      c.requires.ring.count,
      ordinates_count c.args.q c.requires.size c.requires.ordinates,
    )

pub weights-used-requires : goal.weights-used-requires
weights-used-requires c = all_given (goal.at.weights-used-requires c).After-twice-ys

pub slice_bounds-used-end : goal.slice_bounds-used-end
slice_bounds-used-end c = omega (arith, few (goal.at.slice_bounds-used-end c).Start, c.weights-used.ensures.result_len)

pub slice_bounds-answer_by-end-3 : goal.slice_bounds-answer_by-end-3
slice_bounds-answer_by-end-3 c =
    sym (length-take-le (length c.args.ring.now) c.weights-used.result
    (omega (arith, few (goal.at.slice_bounds-answer_by-end-3 c).Start, c.weights-used.ensures.result_len)))

pub answer_by-requires : goal.answer_by-requires
answer_by-requires c =
    let at = goal.at.answer_by-requires c in
    let r = c.args.ring.now in
    let taken = length-take-le (length r) c.weights-used.result (omega (arith, few at.Start, c.weights-used.ensures.result_len)) in
    let same = c.new-field.ensures in
    record {
      given = all_given at.After-twice-ys;
      flags = rw same (taken ∙ c.requires.ring.count);
      room = rw same c.requires.room;
    }

pub returns : goal.returns
returns c =
    let same = c.new-field.ensures in
    let weighs = c.weights-used.ensures.weighs in
    rw same at c.answer_by.ensures
    ∙ answer_taken c.args.q c.args.m c.args.ring.now c.requires.ring c.weights-used.result (rw same at weighs)
