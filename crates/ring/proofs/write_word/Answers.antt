-- `ring::write_word` writes the ring of the array that the mark's encoding leaves.
use Rattle.std.proofs.Common.{◌≡◌, ℕ, ◌≤◌, List, ◌++◌, length, sym, ap, ◌∙◌, refl, arith}
use lib.ListN.{take, drop}
use lib.Seq.{length-take-le}
use Rattle.codes.specs.Code.{encoded}
use Rattle.mark.specs.Promises.{left}
use Rattle.hermitian.specs.Ring.{ring_code, ring_of}
use Rattle.hermitian.proofs.Passed.{PassedEncoding, encoding}
use Rattle.hermitian.proofs.Sizes.{sides}
use Rattle.ring_checks.proofs.Lent.{Front, lent, Shape, shape, blank, given_back}
use Rattle.ring.proofs.Promised.{encoded_by_lem, encoded_array, written}
use Rattle.ring.proofs.write_word.Goals.{Start, After-columns-xs, After-encode}
use Rattle.ring.proofs.write_word.Goals as goal

module _ (s : Start) where
  passed : PassedEncoding s.args.q s.args.m s.args.message.now s.args.word.now
  passed = encoding s.args.q s.args.m s.args.message.now s.args.word.now s.requires

  short : length s.args.word.now ≤ 64
  short = omega (arith, passed.word, sides s.args.q s.args.q passed.ring.size refl)

  -- an array as long as the word
  size : length (take (length s.args.word.now) blank) ≡ length s.args.word.now
  size = length-take-le _ blank short

-- the message lengths and the points that are lent
shaped : (c : After-columns-xs) → Shape c.args.q c.args.m c.side-n.result c.lengths-ks.result c.columns-xs.result
shaped c = shape (encoding c.args.q c.args.m c.args.message.now c.args.word.now c.requires).ring.size
    c.side-n.ensures c.lengths-ks.ensures c.columns-xs.ensures

pub lengths-ks-requires-clause-q_value : goal.lengths-ks-requires-clause-q_value
lengths-ks-requires-clause-q_value c = (passed (goal.at.lengths-ks-requires-clause-q_value c).Start).ring.size

pub lengths-ks-requires-clause-m_value : goal.lengths-ks-requires-clause-m_value
lengths-ks-requires-clause-m_value c = (passed (goal.at.lengths-ks-requires-clause-m_value c).Start).ring.order

pub columns-xs-requires : goal.columns-xs-requires
columns-xs-requires c = (passed (goal.at.columns-xs-requires c).Start).ring.size

pub slice_bounds-ks-end : goal.slice_bounds-ks-end
slice_bounds-ks-end c = (shaped (goal.at.slice_bounds-ks-end c).After-columns-xs).lengths.room

pub slice_bounds-encode-end : goal.slice_bounds-encode-end
slice_bounds-encode-end c = lent (shaped (goal.at.slice_bounds-encode-end c).After-columns-xs).lengths

pub slice_bounds-xs-end : goal.slice_bounds-xs-end
slice_bounds-xs-end c = (shaped (goal.at.slice_bounds-xs-end c).After-columns-xs).points.room

pub slice_bounds-encode-end-2 : goal.slice_bounds-encode-end-2
slice_bounds-encode-end-2 c = lent (shaped (goal.at.slice_bounds-encode-end-2 c).After-columns-xs).points

pub slice_bounds-ones-end : goal.slice_bounds-ones-end
slice_bounds-ones-end c = (shaped (goal.at.slice_bounds-ones-end c).After-columns-xs).factors.room

pub slice_bounds-encode-end-3 : goal.slice_bounds-encode-end-3
slice_bounds-encode-end-3 c = lent (shaped (goal.at.slice_bounds-encode-end-3 c).After-columns-xs).factors

pub slice_bounds-array-end : goal.slice_bounds-array-end
slice_bounds-array-end c = short (goal.at.slice_bounds-array-end c).Start

pub slice_bounds-encode-end-4 : goal.slice_bounds-encode-end-4
slice_bounds-encode-end-4 c = sym (size (goal.at.slice_bounds-encode-end-4 c).Start)

-- what the mark's encoding left in the part that it was lent, and that part in its array
module _ (c : After-encode) where
  abbrev q : ℕ
  q = c.args.q

  abbrev word : List ℕ
  word = c.args.word.now

  given : PassedEncoding q c.args.m c.args.message.now word
  given = encoding q c.args.m c.args.message.now word c.requires

  abbrev made : List ℕ
  made = encoded (ring_code q c.args.m) c.args.message.now

  long : length (take (length word) blank) ≡ length word
  long = length-take-le _ blank (omega (arith, given.word, sides q q given.ring.size refl))

  is_made : c.encode.new.array ≡ made
  is_made =
      let h = shape given.ring.size c.side-n.ensures c.lengths-ks.ensures c.columns-xs.ensures in
      encoded_by_lem given (take (length word) blank) (left c.encode.result c.encode.new.array)
      (long ∙ given.word) (rw (h.lengths.is, h.points.is, h.factors.is) at c.encode.ensures)

  array : Front (length word) (c.encode.new.array ++ drop (length word) blank) made
  array = given_back (length word) (drop (length word) blank) is_made ((encoded_array given).count ∙ sym given.word)

pub slice_bounds-array-end-2 : goal.slice_bounds-array-end-2
slice_bounds-array-end-2 c = (array (goal.at.slice_bounds-array-end-2 c).After-encode).room

pub slice_bounds-to_ring-end : goal.slice_bounds-to_ring-end
slice_bounds-to_ring-end c = lent (array (goal.at.slice_bounds-to_ring-end c).After-encode)

pub to_ring-requires : goal.to_ring-requires
to_ring-requires c =
    let e = (goal.at.to_ring-requires c).After-encode in
    let p = given e in
    record { size = p.ring.size; array = rw (array e).is (encoded_array p); room = p.word }

pub returns : goal.returns
returns c =
    let e = (goal.at.returns c).After-encode in
    c.to_ring.ensures ∙ ap (ring_of c.args.q) (array e).is ∙ written (given e)
