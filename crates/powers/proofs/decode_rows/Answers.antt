-- `decode_rows` leaves what joint decoding of the powers leaves.
use Rattle.std.proofs.Common.{◌≡◌, ◌*◌, ◌≤◌, ◌∙◌, List, ℕ, sym, ap, arith, length, take, drop, replicate}
use Rattle.patch.specs.Parts.{lay}
use Rattle.patch.proofs.Parts.{take-lay, length-lay}
use Rattle.codes.specs.Checks.{space_bytes}
use Rattle.codes.proofs.Parts.{take-replicate}
use Rattle.codes.proofs.Factors.{each-one, ones_factors}
use Rattle.joint.specs.Promises.{buffers}
use Rattle.joint.proofs.Promised.{front_length}
use Rattle.joint.proofs.Cleared.{cleared_by, cleared_behind, front_room as space-room}
use Rattle.power_checks.specs.Powers.{power_lengths, power_rows}
use Rattle.power_checks.proofs.Sizes.{length_powers, front_room}
use Rattle.powers.specs.Working.{Ready}
use Rattle.powers.proofs.Rows.{length-rows}
use Rattle.powers.proofs.Passed.{ready_short, ready_cells, ready_room}
use Rattle.powers.proofs.Ended.{joint_ready, struck_ended}
use Rattle.powers.proofs.decode_rows.Goals.{After-raise}
use Rattle.powers.proofs.decode_rows.Goals as goal

-- where the powers are written
module _ (c : After-raise) where
  ready : Ready c.args.degree c.args.k c.args.powers c.args.points.now c.args.limit c.args.row.now c.args.own.now c.args.flags.now
      c.args.space.now
  ready = c.requires

  lengths_are : take c.args.powers c.lengths-ks.result ≡ power_lengths c.args.k c.args.powers
  lengths_are = c.lengths-ks.ensures

  count : length (power_lengths c.args.k c.args.powers) ≡ c.args.powers
  count = length_powers c.args.k 1 c.args.powers

  few : length c.args.points.now ≤ 96
  few = ready.counts.most_columns

  abbrev rows : List ℕ
  rows = c.raise.new.rows

  rows_laid : rows ≡ lay 0 (power_rows c.args.degree c.args.powers c.args.row.now) (replicate 384 0)
  rows_laid = rw c.new-field.ensures at c.raise.ensures

  size : length (power_rows c.args.degree c.args.powers c.args.row.now) ≡ length c.args.own.now
  size = length-rows c.args.degree 1 c.args.powers c.args.row.now
      ∙ ap (λ (m : ℕ). c.args.powers * m) ready.row.count ∙ sym ready.answer

  room : length c.args.own.now ≤ 384
  room = omega (arith, ready.answer, ready_cells ready)

  rows_room : length c.args.own.now ≤ length rows
  rows_room = omega (arith, room, ap length rows_laid ∙ length-lay 0 _ (replicate 384 0))

  rows_are : take (length c.args.own.now) rows ≡ power_rows c.args.degree c.args.powers c.args.row.now
  rows_are = take-lay _ (replicate 384 0) rows_laid size room

  -- the front of the working space
  front : length (take space_bytes c.args.space.now) ≡ space_bytes
  front = front_length c.args.space.now ready.space

pub lengths-ks-requires : goal.lengths-ks-requires
lengths-ks-requires c = ready_short c.requires

pub raise-requires : goal.raise-requires
raise-requires c =
    let p = c.requires in
    rw c.new-field.ensures (record {
      symbols = p.row.symbols;
      most = omega (arith, p.row.count, p.counts.most_columns);
      room = ready_room p;
    })

pub slice_bounds-ks-end : goal.slice_bounds-ks-end
slice_bounds-ks-end c =
    let r = (goal.at.slice_bounds-ks-end c).After-raise in front_room c.args.powers c.lengths-ks.result (lengths_are r) (count r)

pub slice_bounds-decode_struck-end : goal.slice_bounds-decode_struck-end
slice_bounds-decode_struck-end c =
    let r = (goal.at.slice_bounds-decode_struck-end c).After-raise in sym (ap length (lengths_are r) ∙ count r)

pub slice_bounds-rows-end : goal.slice_bounds-rows-end
slice_bounds-rows-end c = rows_room (goal.at.slice_bounds-rows-end c).After-raise

pub slice_bounds-decode_struck-end-5 : goal.slice_bounds-decode_struck-end-5
slice_bounds-decode_struck-end-5 c =
    let r = (goal.at.slice_bounds-decode_struck-end-5 c).After-raise in sym (ap length (rows_are r) ∙ size r)

pub decode_struck-ending-requires-clause-ready_lost : goal.decode_struck-ending-requires-clause-ready_lost
decode_struck-ending-requires-clause-ready_lost c =
    let r = (goal.at.decode_struck-ending-requires-clause-ready_lost c).After-raise in
    rw (c.new-field.ensures, lengths_are r, rows_are r) (joint_ready (ready r), omega (arith, front r))

pub decode_struck-ending-requires-clause-answer_len : goal.decode_struck-ending-requires-clause-answer_len
decode_struck-ending-requires-clause-answer_len c =
    let r = (goal.at.decode_struck-ending-requires-clause-answer_len c).After-raise in
    (sym (ap length (rows_are r) ∙ size r), c.requires.flags)

pub decode_struck-ending-requires-clause-factors : goal.decode_struck-ending-requires-clause-factors
decode_struck-ending-requires-clause-factors c =
    let r = (goal.at.decode_struck-ending-requires-clause-factors c).After-raise in
    rw (c.new-field.ensures, lengths_are r, take-replicate (length c.args.points.now) 96 1 (few r))
    (ones_factors _ c.requires.shape.proper)

pub decode_struck-ending-requires-clause-all : goal.decode_struck-ending-requires-clause-all
decode_struck-ending-requires-clause-all c =
    let r = (goal.at.decode_struck-ending-requires-clause-all c).After-raise in
    rw (take-replicate (length c.args.points.now) 96 1 (few r)) (λ e. each-one (length c.args.points.now))

pub returns : goal.returns
returns c =
    let r = (goal.at.returns c).After-raise in
    let b = buffers c.decode_struck-ending.new.answer c.decode_struck-ending.new.flags in
    let used : List ℕ = c.decode_struck-ending.new.space in
    let used_size : length used ≡ space_bytes = c.decode_struck-ending.auto.space ∙ front r in (
      struck_ended (ready r) c.decode_struck-ending.result b
          (rw (c.new-field.ensures, lengths_are r, take-replicate (length c.args.points.now) 96 1 (few r), rows_are r)
          at c.decode_struck-ending.ensures),
      cleared_by _ c.clear.ensures (space-room used (drop space_bytes c.args.space.now) used_size)
          ∙ cleared_behind used c.args.space.now used_size,
    )
