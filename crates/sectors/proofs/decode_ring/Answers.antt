-- `sectors::decode_ring` leaves what the decoding of the ring's array leaves, with the answer carried back.
use Rattle.std.proofs.Common.{◌≡◌, ◌≤◌, ◌++◌, List, ℕ, refl, sym, ◌∙◌, arith, length, take, drop}
use lib.Seq.{length-take-le}
use Rattle.joint.specs.Promises.{buffers, left, cleared}
use Rattle.joint.specs.Lost.{LostEnds}
use Rattle.hermitian.specs.Ring.{ring_code}
use Rattle.hermitian.proofs.Passed.{PassedLost, losing}
use Rattle.ring_checks.proofs.Lent.{Front, lent, Shape, shape, array_front, blank, given_back}
use Rattle.sectors.proofs.Promised.{lost_ended, lost_answer, lost_ring_ends}
use Rattle.sectors.proofs.decode_ring.Goals.{After-side-n, After-array_of-array, After-decode_lost-ending}
use Rattle.sectors.proofs.decode_ring.Goals as goal

passed : (c : After-side-n) → PassedLost c.args.q c.args.m c.args.limit c.args.lost.now c.args.received.now
    c.args.answer.now c.args.flags.now c.args.space.now
passed c = losing _ _ _ _ _ _ _ _ c.requires

-- the message lengths, points and array that are lent
module _ (c : After-array_of-array) where
  abbrev y : List ℕ
  y = c.args.received.now

  given : PassedLost c.args.q c.args.m c.args.limit c.args.lost.now y c.args.answer.now c.args.flags.now c.args.space.now
  given = losing _ _ _ _ _ _ _ _ c.requires

  shaped : Shape c.args.q c.args.m c.side-n.result c.lengths-ks.result c.columns-xs.result
  shaped = shape given.word.ring.size c.side-n.ensures c.lengths-ks.ensures c.columns-xs.ensures

  array : Front (length y) c.array_of-array.result (take (length y) c.array_of-array.result)
  array = array_front given.word.received c.array_of-array.ensures

  -- a part of 64 symbols that is as long as the ring
  short : length y ≤ 64
  short = omega (arith, given.word.received.count, shaped.counts)

  size : length (take (length y) blank) ≡ length y
  size = length-take-le _ blank short

-- what the array's decoding left of the array lent for its answer
module _ (c : After-decode_lost-ending) where
  abbrev z : List ℕ
  z = c.args.received.now

  allowed : PassedLost c.args.q c.args.m c.args.limit c.args.lost.now z c.args.answer.now c.args.flags.now c.args.space.now
  allowed = losing _ _ _ _ _ _ _ _ c.requires

  parts : Shape c.args.q c.args.m c.side-n.result c.lengths-ks.result c.columns-xs.result
  parts = shape allowed.word.ring.size c.side-n.ensures c.lengths-ks.ensures c.columns-xs.ensures

  abbrev lent_answer : List ℕ
  lent_answer = take (length z) blank

  own_size : length lent_answer ≡ length z
  own_size = length-take-le _ blank (omega (arith, allowed.word.received.count, parts.counts))

  abbrev own : List ℕ
  own = c.decode_lost-ending.new.answer

  abbrev flags : List ℕ
  flags = c.decode_lost-ending.new.flags

  abbrev space : List ℕ
  space = c.decode_lost-ending.new.space

  answer : Front (length z) (own ++ drop (length z) blank) own
  answer = given_back (length z) (drop (length z) blank) refl (c.decode_lost-ending.auto.answer ∙ own_size)

  -- how it ended
  ended : LostEnds (ring_code c.args.q c.args.m) c.args.lost.now (take (length z) c.array_of-array.result)
      c.args.limit (buffers lent_answer c.args.flags.now) c.decode_lost-ending.result (buffers own flags)
      × (space ≡ cleared c.args.space.now)
  ended = lost_ended allowed c.array_of-array.ensures lent_answer (own_size ∙ allowed.word.received.count)
      (left c.decode_lost-ending.result (buffers own flags) space)
      (rw (parts.lengths.is, parts.points.is, parts.factors.is) at c.decode_lost-ending.ensures)

pub lengths-ks-requires-clause-q_value : goal.lengths-ks-requires-clause-q_value
lengths-ks-requires-clause-q_value c = (passed (goal.at.lengths-ks-requires-clause-q_value c).After-side-n).word.ring.size

pub lengths-ks-requires-clause-m_value : goal.lengths-ks-requires-clause-m_value
lengths-ks-requires-clause-m_value c = (passed (goal.at.lengths-ks-requires-clause-m_value c).After-side-n).word.ring.order

pub columns-xs-requires : goal.columns-xs-requires
columns-xs-requires c = (passed (goal.at.columns-xs-requires c).After-side-n).word.ring.size

pub array_of-array-requires : goal.array_of-array-requires
array_of-array-requires c = let p = (passed (goal.at.array_of-array-requires c).After-side-n).word in
    record { size = p.ring.size; ring = p.received }

pub slice_bounds-xs-end : goal.slice_bounds-xs-end
slice_bounds-xs-end c = (shaped (goal.at.slice_bounds-xs-end c).After-array_of-array).points.room

pub slice_bounds-decode_lost-end-2 : goal.slice_bounds-decode_lost-end-2
slice_bounds-decode_lost-end-2 c = lent (shaped (goal.at.slice_bounds-decode_lost-end-2 c).After-array_of-array).points

pub slice_bounds-ones-end : goal.slice_bounds-ones-end
slice_bounds-ones-end c = omega (arith, (shaped (goal.at.slice_bounds-ones-end c).After-array_of-array).counts)

pub slice_bounds-decode_lost-end-3 : goal.slice_bounds-decode_lost-end-3
slice_bounds-decode_lost-end-3 c = lent (shaped (goal.at.slice_bounds-decode_lost-end-3 c).After-array_of-array).factors

pub slice_bounds-array-end : goal.slice_bounds-array-end
slice_bounds-array-end c = (array (goal.at.slice_bounds-array-end c).After-array_of-array).room

pub slice_bounds-decode_lost-end-4 : goal.slice_bounds-decode_lost-end-4
slice_bounds-decode_lost-end-4 c = lent (array (goal.at.slice_bounds-decode_lost-end-4 c).After-array_of-array)

pub slice_bounds-own-end : goal.slice_bounds-own-end
slice_bounds-own-end c = short (goal.at.slice_bounds-own-end c).After-array_of-array

pub slice_bounds-decode_lost-end-5 : goal.slice_bounds-decode_lost-end-5
slice_bounds-decode_lost-end-5 c = sym (size (goal.at.slice_bounds-decode_lost-end-5 c).After-array_of-array)

pub slice_bounds-own-end-2 : goal.slice_bounds-own-end-2
slice_bounds-own-end-2 c = (answer (goal.at.slice_bounds-own-end-2 c).After-decode_lost-ending).room

pub slice_bounds-carry_back-end : goal.slice_bounds-carry_back-end
slice_bounds-carry_back-end c = lent (answer (goal.at.slice_bounds-carry_back-end c).After-decode_lost-ending)

pub carry_back-requires : goal.carry_back-requires
carry_back-requires c =
    let d = (goal.at.carry_back-requires c).After-decode_lost-ending in
    let p = allowed d in
    record {
      size = p.word.ring.size;
      array = rw (answer d).is (lost_answer p c.array_of-array.ensures (lent_answer d) c.decode_lost-ending.result
          (buffers (own d) (flags d)) (ended d).0);
      room = p.word.answer;
    }

pub returns : goal.returns
returns c =
    let d = (goal.at.returns c).After-decode_lost-ending in (
      lost_ring_ends (allowed d) c.array_of-array.ensures (lent_answer d) (own d) (flags d) c.carry_back.new.answer
          c.decode_lost-ending.result (ended d).0 (rw (answer d).is at (c.carry_back.ensures (flags d))),
      (ended d).1,
    )
