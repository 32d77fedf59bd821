-- `scattered::is_word` is true of the words of H(m) alone.
use Rattle.std.proofs.Common.{◌≡◌, ℕ, ◌≤◌, false, List, length, take, refl, sym, ◌∙◌, arith}
use lib.Seq.{length-take-le}
use Rattle.codes.specs.Code.{total}
use Rattle.hermitian.specs.Ring.{ring_lengths}
use Rattle.hermitian.specs.Checks.{bad_size, bad_order}
use Rattle.hermitian.proofs.Sizes.{sides, ring_counts, ring_cells}
use Rattle.hermitian.proofs.Passed.{reads_on}
use Rattle.mark.specs.Promises.{left}
use Rattle.mark.proofs.Promised.{is_done}
use Rattle.ring_checks.proofs.Lent.{blank}
use Rattle.ring.proofs.Demands.{read_done}
use Rattle.scattered.proofs.is_word.Goals.{After-total-k}
use Rattle.scattered.proofs.is_word.Goals as goal

-- a message has no more symbols than a ring
fits : (q m k : ℕ) → bad_size q ≡ false → bad_order q m ≡ false → k ≡ total (ring_lengths q m) → k ≤ 64
fits q m k size order e =
    omega (arith, e, (ring_counts q m size order).fits, ring_cells q m, (sides q q size refl).most)

-- what the reading is lent
module _ (c : After-total-k) where
  small : c.total-k.result ≤ 64
  small = fits c.args.q c.args.m c.total-k.result c.requires.0.size c.requires.0.order c.total-k.ensures

  size : length (take c.total-k.result blank) ≡ c.total-k.result
  size = length-take-le c.total-k.result blank small

pub slice_bounds-message-end : goal.slice_bounds-message-end
slice_bounds-message-end c = small c

pub slice_bounds-read-end : goal.slice_bounds-read-end
slice_bounds-read-end c = sym (size (goal.at.slice_bounds-read-end c).After-total-k)

-- reading is done exactly when the ring is a word
pub returns : goal.returns
returns c = let k = (goal.at.returns c).After-total-k in
    let lent : List ℕ = take c.total-k.result blank in
    let (is, was) = is_done c.read.result in
    let (there, back) = read_done c.args.q c.args.m c.args.ring.now lent (left c.read.result c.read.new.message) c.read.ensures in (
      λ e. (there (is (sym c.is_ok.ensures.value ∙ e))).1,
      λ h. c.is_ok.ensures.value ∙ was (back
          (reads_on c.requires.0 lent c.args.ring.now c.requires.1 (size k ∙ c.total-k.ensures), h)),
    )
