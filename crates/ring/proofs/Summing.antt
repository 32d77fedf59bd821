-- The array of a ring from its last row to its first, by sums over the sectors.
--
--   Going q ys w v a j    v has the symbols of w times y^(q − 1 − j), and the rows of a behind j are made
--   cut_summed            only the first q³ of the array count
--   going_start, going_row, going_end    before the last row; a row; behind the first
--   multiplied_in         what a row multiplies are symbols
-- Assumes nothing.
use mathlib.Core.Path.{◌≡◌, refl, sym, ap, ap₂, ◌∙◌}
use mathlib.Core.Bool.{false}
use mathlib.Core.List.{List}
use Prim.Native.Nat.{ℕ, suc, ◌+◌, ◌-◌, ◌*◌, ◌≤◌, ◌<◌}
use native.Mathlib.Nat.{zero-add, zero-mul, suc-mul, mul-le-mul_right}
use native.Mathlib.Decide.{ℕ_discrete}
use native.Mathlib.Omega.{arith}
use lib.ListN.{length, get_or, take}
use lib.Seq.{get_or-take}
use Rattle.patch.specs.Patch.{patch}
use Rattle.patch.proofs.Laws.{length-patch, get_or-patch, get_or-patch_above}
use Rattle.field.specs.Symbols.{plus, times}
use Rattle.field.specs.Arithmetic.{gf}
use Rattle.field.proofs.Laws.{Field}
use Rattle.lists.specs.Working.Lists.{summed, summed_at, multiplied, multiplied_at, SymbolsAt}
use Rattle.poly.proofs.Ring.{plus-zero}
use Rattle.rows.proofs.Symbols.{symbol_at}
use Rattle.hermitian.specs.Ring.{sector}
use Rattle.hermitian.proofs.Numbers.{part_fits}
use Rattle.hermitian.specs.Checks.{bad_size}
use Rattle.hermitian.proofs.Sizes.{sides}
use Rattle.hermitian.proofs.Rings.{ring_field}
use Rattle.hermitian.proofs.Kernel.{sum_to, powered, sum_cong, powered_in, Summed}
use Rattle.ring.specs.Working.{SectorsGiven, Holds, sector_sum, row_summed}
use Rattle.ring_checks.proofs.Ordinates.{all_y, y_at}

pub record Going (q : ℕ) (ys w v a : List ℕ) (j : ℕ) : Type 0 where
  pub room : q * q * q ≤ length v
  pub held : (i : ℕ) → i < q * q * q → get_or v i 0 ≡ powered q (get_or ys i 0) (get_or w i 0) (q - 1 - j)
  pub rows : (k x : ℕ) → j < k → k < q → x < q * q
      → get_or a (k * (q * q) + x) 0 ≡ sum_to (λ i. powered q (get_or (sector q x) i 0) (get_or w (x * q + i) 0) (q - 1 - k)) q

module _ {q : ℕ} (size : bad_size q ≡ false) where
  pub row_room : (j : ℕ) → j < q → j * (q * q) + q * q ≤ q * q * q
  row_room j h = omega (arith, part_fits (q * q) q j h, (sides q q size refl).cells)

  pub cut_summed : {w a : List ℕ} → Summed q w a → Summed q w (take (q * q * q) a)
  cut_summed {a} s = record {
    first = λ x hx. get_or-take (q * q * q) a x 0 (omega (arith, rw (zero-mul (q * q)) at (row_room 0 (sides q q size refl).some))) ∙ s.first x hx;
    later = λ k x positive below hx. get_or-take (q * q * q) a (k * (q * q) + x) 0 (omega (arith, row_room k below))
        ∙ s.later k x positive below hx;
  }

module _ {q : ℕ} {ys w a₀ : List ℕ} (g : SectorsGiven q ys w a₀) where
  count : length ys ≡ q * q * q
  count = all_y q g.size g.ordinates

  some : 0 < q
  some = (sides q q g.size refl).some

  place : (x i : ℕ) → x < q * q → i < q → x * q + i < q * q * q
  place x i hx hi = omega (arith, part_fits q (q * q) x hx)

  pub multiplied_in : {v a : List ℕ} {j : ℕ} → Going q ys w v a j → SymbolsAt q v 0 (length ys)
  multiplied_in {j = j} t i h =
      rw (zero-add i, t.held i (omega (arith, count)))
      (powered_in q (ring_field q g.size) _ _ (q - 1 - j) (symbol_at q w i g.ring.symbols (omega (arith, count, g.ring.count))))

  pub going_start : {v : List ℕ} (a : List ℕ) {j : ℕ} → j ≡ q - 1 → Holds q w v → Going q ys w v a j
  unfolding powered
  going_start a {j} e h =
      let none : q - 1 - j ≡ 0 = omega arith in
      record {
        room = h.room;
        held = λ i k. h.same i k ∙ ap (powered q (get_or ys i 0) (get_or w i 0)) (sym none);
        rows = λ k x above below hx. absurd (omega arith);
      }

  -- the sums of a list that goes with w
  sum_at : (v : List ℕ) (f : ℕ → ℕ → ℕ) → ((i : ℕ) → i < q * q * q → get_or v i 0 ≡ f (get_or ys i 0) (get_or w i 0)) → (x : ℕ) → x < q * q
      → sector_sum q v x ≡ sum_to (λ i. f (get_or (sector q x) i 0) (get_or w (x * q + i) 0)) q
  sum_at v f h x hx =
      sum_cong _ _ q (λ i k. h (x * q + i) (place x i hx k)
      ∙ ap (λ (y : ℕ). f y (get_or w (x * q + i) 0)) (y_at q g.size g.ordinates x i hx k))

  pub going_row : {v v' a a' : List ℕ} (j : ℕ) {at : ℕ} → 0 < j → j < q → at ≡ j * (q * q) → length a ≡ length a₀ → Going q ys w v a j
      → a' ≡ row_summed q v at a → v' ≡ multiplied_at q ys 0 v 0 0 → Going q ys w v' a' (j - 1)
  unfolding multiplied powered
  going_row {v} {v'} {a} {a'} j {at} positive h e long t made times-y = record {
    room = rw (times-y, length-patch) t.room;
    held = λ i k.
        let one : suc (q - 1 - j) ≡ q - 1 - (j - 1) = omega arith in
        let stood : get_or v (0 + i) 0 ≡ powered q (get_or ys i 0) (get_or w i 0) (q - 1 - j) = rw zero-add (t.held i k) in
        ap (λ (k : ℕ). get_or v' k 0) (sym (zero-add i))
        ∙ rw times-y (get_or-patch 0 (multiplied q ys 0 v 0 0) v (length ys) i 0 (omega (arith, count)) (omega (arith, count, t.room)))
        ∙ ap₂ (times q) (plus-zero (gf q) 𝓕 (get_or ys i 0)) (plus-zero (gf q) 𝓕 (get_or v (0 + i) 0) ∙ stood)
        ∙ ap (powered q (get_or ys i 0) (get_or w i 0)) one;
    rows = λ k x above below hx. rw made (by k x above below hx (ℕ_discrete k j));
  }
    where
      𝓕 : Field (gf q)
      𝓕 = ring_field q g.size

      by : (k x : ℕ) → j - 1 < k → k < q → x < q * q → Dec (k ≡ j) → get_or (patch at (q * q) (sector_sum q v) a) (k * (q * q) + x) 0
          ≡ sum_to (λ i. powered q (get_or (sector q x) i 0) (get_or w (x * q + i) 0) (q - 1 - k)) q
      by k x above below hx (yes f) =
          let here : get_or (patch at (q * q) (sector_sum q v) a) (k * (q * q) + x) 0 ≡ sector_sum q v x =
          rw (f, ← e) (get_or-patch at (sector_sum q v) a (q * q) x 0 hx (omega (arith, row_room g.size j h, g.room))) in
          here ∙ sum_at v (λ y u. powered q y u (q - 1 - j)) t.held x hx
          ∙ ap (λ (m : ℕ). sum_to (λ i. powered q (get_or (sector q x) i 0) (get_or w (x * q + i) 0) (q - 1 - m)) q) (sym f)
      by k x above below hx (no f) =
          let higher : suc j ≤ k = omega arith in
          get_or-patch_above at (sector_sum q v) a (q * q) (k * (q * q) + x) 0 (omega (
            arith,
            suc-mul j (q * q),
            mul-le-mul_right (q * q) higher,
          ))
          ∙ t.rows k x (omega arith) below hx

  pub going_end : {v v' a a' : List ℕ} {j : ℕ} → j ≡ 0 → length a ≡ length a₀ → Going q ys w v a j → v' ≡ summed_at w v 0
      → a' ≡ row_summed q v' 0 a → Summed q w a'
  unfolding summed
  going_end {v} {v'} {a} {a'} {j} none long t added made = record {
    first = λ x hx. rw made (rw zero-add at (get_or-patch 0 (sector_sum q v') a (q * q) x 0 hx (omega (
      arith,
      rw (zero-mul (q * q)) at (row_room g.size 0 some),
      g.room,
    ))))
        ∙ sum_at v' (λ y u. plus (powered q y u (q - 1)) u) both x hx;
    later = λ k x positive below hx.
        let higher : 1 ≤ k = positive in
        rw made (get_or-patch_above 0 (sector_sum q v') a (q * q) (k * (q * q) + x) 0 (omega (arith, mul-le-mul_right (q * q) higher)))
        ∙ t.rows k x (omega arith) below hx;
  }
    where
      both : (i : ℕ) → i < q * q * q → get_or v' i 0 ≡ plus (powered q (get_or ys i 0) (get_or w i 0) (q - 1)) (get_or w i 0)
      both i k =
          let all : q - 1 - j ≡ q - 1 = omega arith in
          let stood : get_or v (0 + i) 0 ≡ powered q (get_or ys i 0) (get_or w i 0) (q - 1 - j) = rw zero-add (t.held i k) in
          ap (λ (k : ℕ). get_or v' k 0) (sym (zero-add i))
          ∙ rw added (get_or-patch 0 (summed w v 0) v (length w) i 0 (omega (arith, g.ring.count)) (omega (arith, g.ring.count, t.room)))
          ∙ ap (λ (s : ℕ). plus s (get_or w i 0)) (stood ∙ ap (powered q (get_or ys i 0) (get_or w i 0)) all)
