-- What the two runs leave, as the functions read it from the table.
--
--   twice_taken      the front of a list that has n symbols twice
--   given            what both runs ask for
--   weights_room     the L of a line lies in the table
--   weighed          the L of a line of least lead, copied
--   answered         the received symbols plus the first line
--   answer_taken     which is the model's, if the flags are the L of the first run
-- Assumes nothing.
use mathlib.Core.Path.{◌≡◌, refl, sym, ap, ◌∙◌}
use mathlib.Core.Bool.{true, false, not}
use mathlib.Core.List.{List, ◌++◌}
use Prim.Native.Nat.{ℕ, ◌+◌, ◌*◌, ◌-◌, ◌/◌, ◌≤◌, ◌<◌}
use native.Mathlib.Omega.{arith}
use lib.Dec.{eqb}
use lib.ListN.{length, get_or, take, drop, replicate, get_or-append, get_or-replicate}
use lib.Seq.{get_or-take, length-take-le}
use Rattle.patch.specs.Parts.{part}
use Rattle.patch.proofs.Parts.{length_part, get_d_part}
use Rattle.lists.specs.Working.Lists.{summed_at}
use Rattle.hermitian.specs.Ring.{IsRing}
use Rattle.hermitian.specs.Checks.{bad_size}
use Rattle.hermitian.proofs.Sizes.{sides, each}
use Rattle.basis.proofs.Basis.{Entry}
use Rattle.curve.proofs.Model.{used, used_by, least_of, answer}
use Rattle.pits.specs.Working.Table.{Least}
use Rattle.pits.specs.Working.Rings.{flagged, Twice, Given, Received, Solved, Weighs, answer_over}
use Rattle.pits.proofs.Slots.{line_below}
use Rattle.pits.proofs.Points.{point_column, point_ordinate}
use Rattle.pits.proofs.Runs.{ran_same, weights_used, answer_over_lem, answer_is}

pub twice_taken : (n k : ℕ) (f g : ℕ → ℕ) (l : List ℕ) → k ≡ n → Twice k f l → ((i : ℕ) → i < n → g i ≡ f i) → Twice n g (take (2 * k) l)
twice_taken n k f g l e h same = record {
  first = λ i lt. get_or-take (2 * k) l i 0 (omega (arith, e)) ∙ h.first i (omega (arith, e)) ∙ sym (same i lt);
  second = λ i lt. get_or-take (2 * k) l (n + i) 0 (omega (arith, e)) ∙ ap (λ (j : ℕ). get_or l (j + i) 0) (sym e)
      ∙ h.second i (omega (arith, e)) ∙ sym (same i lt);
}

module _ (q m : ℕ) (r : List ℕ) where
  pub given : (ys out xs₂ ys₂ : List ℕ) → Received q m ys r out → length xs₂ ≡ 128 → length ys₂ ≡ 128
      → Twice (length r) (λ i. i / q) xs₂ → Twice (length ys) (λ i. get_or ys i 0) ys₂
      → length ys ≡ length r → Given q m (take (2 * length r) xs₂) (take (2 * length r) ys₂) r
  given ys out xs₂ ys₂ h long-x long-y across up same =
      let n = h.ring.count in
      let most = (sides q q h.size refl).most in
      record {
        size = h.size;
        order = h.order;
        ring = h.ring;
        wide = length-take-le (2 * length r) xs₂ (omega (arith, n, most, long-x)) ∙ omega (arith, n);
        high = length-take-le (2 * length r) ys₂ (omega (arith, n, most, long-y)) ∙ omega (arith, n);
        columns = twice_taken (q * q * q) (length r) _ _ xs₂ n across (λ i lt. point_column q h.size i lt);
        ordinates = rw (← same) (twice_taken (q * q * q) (length ys) _ _ ys₂ (same ∙ n) up
            (λ i lt. point_ordinate q h.size i lt h.ordinates));
      }

  module _ (size : bad_size q ≡ false) (ring : IsRing q r) where
    pub weights_room : (p : ℕ) → p < 2 * q → 2 * length r * p + length r + length r ≤ 1024
    weights_room p lt =
        rw ring.count (omega (arith, line_below (2 * (q * q * q)) (2 * q) p lt, most))
      where
        most : 2 * (q * q * q) * (2 * q) ≤ 1024
        most = each (λ q. 2 * (q * q * q) * (2 * q) ≤ 1024) q size (omega arith) (omega arith)

    -- the points that are all flagged
    all_flagged : (i : ℕ) → i < q * q * q → flagged (take (length r) (replicate 64 1)) i ≡ true
    unfolding flagged
    all_flagged i lt =
        ap (λ (a : ℕ). not (eqb a 0)) (get_or-take (length r) (replicate 64 1) i 0 (omega (arith, ring.count))
        ∙ get_or-replicate 64 i 1 0 (omega (arith, (sides q q size refl).most)))

    module _ (l : List ℕ) (long : length l ≡ 1024) (p : ℕ) (below : p < 2 * q) where
      abbrev at : ℕ
      at = 2 * length r * p + length r

      cut : at + length r - at ≡ length r
      cut = omega arith

      count : length (part at (length r) l) ≡ length r
      count = length_part at (length r) l (omega (arith, weights_room p below, long))

      weight_at : {v : List ℕ} (z : List ℕ) → v ≡ part at (length r) l
          → (i : ℕ) → i < q * q * q → get_or (v ++ z) i 0 ≡ get_or l ((q * q * q + q * q * q) * p + (q * q * q + i)) 0
      weight_at {v} z e i lt =
          get_or-append v z 0 i (omega (arith, ap length e, count, ring.count)) ∙ ap (λ (u : List ℕ). get_or u i 0) e
          ∙ get_d_part at (length r) l i (omega (arith, ring.count)) ∙ ap (λ (k : ℕ). get_or l k 0) place
        where
          double : 2 * (q * q * q) ≡ q * q * q + q * q * q
          double = omega arith

          place : at + i ≡ (q * q * q + q * q * q) * p + (q * q * q + i)
          place = rw (ring.count, double) (omega arith)

      weighed_by : (leads : List ℕ) {v : List ℕ} (z : List ℕ) → Solved q m r (take (length r) (replicate 64 1)) leads l
          → Least leads (2 * q) p → v ≡ part at (length r) l → Weighs q m r (v ++ z)
      unfolding used
      weighed_by leads {v} z h least e i lt =
          weights_used q m r size _ leads l (h size) p least (v ++ z) (weight_at z e) i lt
          ∙ ap (λ (es : List (Entry ℕ)). used_by q m (least_of es) i) (ran_same q m r _ _ all_flagged)

      pub weighed : (leads : List ℕ) {v : List ℕ} (z : List ℕ) → Solved q m r (take (length r) (replicate 64 1)) leads l
          → Least leads (2 * q) p
          → v ≡ take (2 * length r * p + length r + length r - (2 * length r * p + length r)) (drop (2 * length r * p + length r) l)
          → Weighs q m r (v ++ z)
      unfolding part
      weighed leads z h least e = weighed_by leads z h least (rw cut at e)

    pub answered : (us leads l : List ℕ) {s : List ℕ} → length l ≡ 1024 → Solved q m r us leads l
        → s ≡ summed_at (take (length r) l) r 0 → s ≡ answer_over q m r us
    unfolding answer_over
    answered us leads l long h e =
        answer_over_lem q m r size _ leads l (h size) ring (take (length r) l)
        (length-take-le (length r) l (omega (arith, long, ring.count, (sides q q size refl).most)) ∙ ring.count)
        (λ i lt. get_or-take (length r) l i 0 (omega (arith, ring.count))) e

-- flags of which only those of the points are taken
pub answer_taken : (q m : ℕ) (r : List ℕ) → IsRing q r → (w : List ℕ) → Weighs q m r w → answer_over q m r (take (length r) w) ≡ answer q m r
unfolding flagged
answer_taken q m r ring w h =
    answer_is q m r (take (length r) w)
    (λ i lt. ap (λ (a : ℕ). not (eqb a 0)) (get_or-take (length r) w i 0 (omega (arith, ring.count))) ∙ h i lt)
