-- `ring::read_word` leaves what the mark's reading leaves of the ring's array.
use Rattle.std.proofs.Common.{length}
use lib.ListN.{take}
use Rattle.mark.specs.Promises.{left}
use Rattle.hermitian.proofs.Passed.{PassedReading, reading}
use Rattle.ring_checks.proofs.Lent.{Front, lent, Shape, shape, array_front}
use Rattle.ring.proofs.Promised.{read_by}
use Rattle.ring.proofs.read_word.Goals.{Start, After-array_of-array}
use Rattle.ring.proofs.read_word.Goals as goal

passed : (s : Start) → PassedReading s.args.q s.args.m s.args.word.now s.args.message.now
passed s = reading s.args.q s.args.m s.args.word.now s.args.message.now s.requires

pub lengths-ks-requires-clause-q_value : goal.lengths-ks-requires-clause-q_value
lengths-ks-requires-clause-q_value c = (passed (goal.at.lengths-ks-requires-clause-q_value c).Start).ring.size

pub lengths-ks-requires-clause-m_value : goal.lengths-ks-requires-clause-m_value
lengths-ks-requires-clause-m_value c = (passed (goal.at.lengths-ks-requires-clause-m_value c).Start).ring.order

pub columns-xs-requires : goal.columns-xs-requires
columns-xs-requires c = (passed (goal.at.columns-xs-requires c).Start).ring.size

pub array_of-array-requires : goal.array_of-array-requires
array_of-array-requires c = let p = passed (goal.at.array_of-array-requires c).Start in record { size = p.ring.size; ring = p.word }

-- the message lengths, points and array that are lent
module _ (c : After-array_of-array) where
  given : PassedReading c.args.q c.args.m c.args.word.now c.args.message.now
  given = reading c.args.q c.args.m c.args.word.now c.args.message.now c.requires

  shaped : Shape c.args.q c.args.m c.side-n.result c.lengths-ks.result c.columns-xs.result
  shaped = shape given.ring.size c.side-n.ensures c.lengths-ks.ensures c.columns-xs.ensures

  array : Front (length c.args.word.now) c.array_of-array.result (take (length c.args.word.now) c.array_of-array.result)
  array = array_front given.word c.array_of-array.ensures

pub slice_bounds-xs-end : goal.slice_bounds-xs-end
slice_bounds-xs-end c = (shaped (goal.at.slice_bounds-xs-end c).After-array_of-array).points.room

pub slice_bounds-read-end-2 : goal.slice_bounds-read-end-2
slice_bounds-read-end-2 c = lent (shaped (goal.at.slice_bounds-read-end-2 c).After-array_of-array).points

pub slice_bounds-ones-end : goal.slice_bounds-ones-end
slice_bounds-ones-end c = (shaped (goal.at.slice_bounds-ones-end c).After-array_of-array).factors.room

pub slice_bounds-read-end-3 : goal.slice_bounds-read-end-3
slice_bounds-read-end-3 c = lent (shaped (goal.at.slice_bounds-read-end-3 c).After-array_of-array).factors

pub slice_bounds-array-end : goal.slice_bounds-array-end
slice_bounds-array-end c = (array (goal.at.slice_bounds-array-end c).After-array_of-array).room

pub slice_bounds-read-end-4 : goal.slice_bounds-read-end-4
slice_bounds-read-end-4 c = lent (array (goal.at.slice_bounds-read-end-4 c).After-array_of-array)

pub returns : goal.returns
returns c =
    let a = (goal.at.returns c).After-array_of-array in
    read_by c.requires (given a) c.array_of-array.ensures (left c.read.result c.read.new.message)
    (rw ((shaped a).lengths.is, (shaped a).points.is, (shaped a).factors.is) at c.read.ensures)
