-- `scattered::mend` ends as the promise says.
use Rattle.std.proofs.Common.{◌≡◌, ◌≤◌, ◌*◌, ◌++◌, List, ℕ, refl, sym, ap, ◌∙◌, arith, length, take, drop}
use lib.Seq.{length-take-le}
use Rattle.codes.specs.Code.{flags_from, total}
use Rattle.codes.proofs.Flags.{flags-length}
use Rattle.joint.specs.Promises.{buffers}
use Rattle.hermitian.specs.Ring.{IsRing}
use Rattle.hermitian.specs.Pits.{wrong_at, symbol_flags}
use Rattle.hermitian.proofs.Sizes.{sides}
use Rattle.ring_checks.proofs.Lent.{Front, lent, blank, given_back}
use Rattle.curve.proofs.Model as Model
use Rattle.curve.proofs.Complete.{answer_ring}
use Rattle.scattered.specs.Working.{Answerable}
use Rattle.scattered.proofs.Flagged.{count_most}
use Rattle.scattered.proofs.Ended.{settled}
use Rattle.scattered.proofs.mend.Goals as goal

module _ {q m τ : ℕ} {y a f : List ℕ} (h : Answerable q m τ y a f) where
  abbrev found : List ℕ
  found = Model.answer q m y

  short : length y ≤ 64
  short = omega (arith, h.received.count, (sides q q h.ring.size refl).most)

  -- a part of 64 symbols that is as long as the ring
  size : length (take (length y) blank) ≡ length y
  size = length-take-le (length y) blank short

  is_ring : IsRing q found
  is_ring = answer_ring q h.ring.size m h.ring.order y h.received τ h.room

  -- what the runs left in the part that they were lent, and that part in its array
  own : {v : List ℕ} → v ≡ found → Front (length y) (v ++ drop (length y) blank) found
  own e = given_back (length y) (drop (length y) blank) e (is_ring.count ∙ sym h.received.count)

  -- the flags of what was found, and how many are 1
  module _ {v w : List ℕ} (e : v ≡ found)
      (g : w ≡ flags_from (wrong_at y (take (length y) (v ++ drop (length y) blank))) 0 (length y)) where
    flagged : w ≡ symbol_flags q y found
    flagged = g ∙ rw ((own e).is, h.received.count)

    wrong : Front (length y) (w ++ drop (length y) blank) (symbol_flags q y found)
    wrong = given_back (length y) (drop (length y) blank) flagged (flags-length _ 0 _ ∙ sym h.received.count)

    few : {n : ℕ} → n ≡ total w → n ≤ 64
    few t = omega (arith, t, ap total flagged, count_most (wrong_at y found) 0 (q * q * q), short, h.received.count)

pub slice_bounds-own-end : goal.slice_bounds-own-end
slice_bounds-own-end c = short c.requires

pub slice_bounds-find-end : goal.slice_bounds-find-end
slice_bounds-find-end c = sym (size c.requires)

pub find-requires : goal.find-requires
find-requires c = let h = c.requires in (h.ring, h.received, size h, λ k. h.room (omega (arith, k)))

pub slice_bounds-own-end-2 : goal.slice_bounds-own-end-2
slice_bounds-own-end-2 c = (own c.requires c.find.ensures).room

pub slice_bounds-flag_wrong-end : goal.slice_bounds-flag_wrong-end
slice_bounds-flag_wrong-end c = lent (own c.requires c.find.ensures)

pub slice_bounds-wrong-end : goal.slice_bounds-wrong-end
slice_bounds-wrong-end c = short c.requires

pub slice_bounds-flag_wrong-end-2 : goal.slice_bounds-flag_wrong-end-2
slice_bounds-flag_wrong-end-2 c = sym (size c.requires)

pub flag_wrong-count-requires : goal.flag_wrong-count-requires
flag_wrong-count-requires c = (sym (lent (own c.requires c.find.ensures)), size c.requires)

pub slice_bounds-own-end-3 : goal.slice_bounds-own-end-3
slice_bounds-own-end-3 c = (own c.requires c.find.ensures).room

pub slice_bounds-judge-end : goal.slice_bounds-judge-end
slice_bounds-judge-end c = lent (own c.requires c.find.ensures)

pub judge-ending-requires : goal.judge-ending-requires
judge-ending-requires c = let h = c.requires in
    (h.ring, rw (own h c.find.ensures).is (is_ring h), few h c.find.ensures c.flag_wrong-count.ensures.0 c.flag_wrong-count.ensures.1)

pub slice_bounds-own-end-4 : goal.slice_bounds-own-end-4
slice_bounds-own-end-4 c = (own c.requires c.find.ensures).room

pub slice_bounds-release-end : goal.slice_bounds-release-end
slice_bounds-release-end c = lent (own c.requires c.find.ensures)

pub slice_bounds-wrong-end-2 : goal.slice_bounds-wrong-end-2
slice_bounds-wrong-end-2 c = (wrong c.requires c.find.ensures c.flag_wrong-count.ensures.0).room

pub slice_bounds-release-end-2 : goal.slice_bounds-release-end-2
slice_bounds-release-end-2 c = lent (wrong c.requires c.find.ensures c.flag_wrong-count.ensures.0)

pub release-requires : goal.release-requires
release-requires c =
    let h = c.requires in
    let size = h.received.count in (
      sym (lent (own h c.find.ensures)) ∙ size ∙ sym h.answer,
      sym (lent (wrong h c.find.ensures c.flag_wrong-count.ensures.0)) ∙ size ∙ sym h.flags,
    )

pub returns : goal.returns
returns c =
    let a = c.args in
    let h = c.requires in
    let o = own h c.find.ensures in
    let g = c.flag_wrong-count.ensures in
    settled a.q a.m a.limit a.received.now h.ring h.received h.room
    (buffers a.answer.now a.flags.now) (found h) (symbol_flags a.q a.received.now (found h)) _ refl refl
    (g.1 ∙ ap total (flagged h c.find.ensures g.0)) c.judge-ending.result _
    (rw o.is at c.judge-ending.ensures) (rw (o.is, (wrong h c.find.ensures g.0).is) at c.release.ensures)
