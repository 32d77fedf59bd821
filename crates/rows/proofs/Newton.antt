-- The coefficients from Newton's form, from the last to the first.
--
--   get_or_lin       what stands at a place of c + (x − a)·q
--   take_copied    a copy of a part
--   get_or-zeros     zeros are zeros, beyond the end too
--   newton_from d nodes us j    the polynomial of the Newton form from coefficient j on
--   Rising         what the list has when the loop comes to coefficient j; rising_start, rising_step, rising-end
-- Assumes nothing.
use mathlib.Core.Path.{◌≡◌, refl, sym, ap, ap₂, ◌∙◌}
use mathlib.Core.Bool.{false}
use mathlib.Core.List.{List, [], ◌∷◌}
use Prim.Native.Nat.{ℕ, zero, suc, ◌+◌, ◌-◌, ◌≤◌, ◌<◌}
use native.Mathlib.Nat.{sub_self, sub-zero, add-zero, zero-add}
use native.Mathlib.Decide.{dec_lt}
use native.Mathlib.Omega.{arith}
use lib.ListN.{length, get_or, take, drop, replicate, length-drop, length-replicate, get_or-replicate, get_or-eq_default}
use lib.Seq.{drop-cons, length-take-le, get_or-take, ext_get_or}
use Rattle.patch.specs.Patch.{patch}
use Rattle.patch.specs.Parts.{part, lay}
use Rattle.patch.proofs.Laws.{get_or-patch, get_or-patch_below, get_or-patch_above}
use Rattle.patch.proofs.Parts.{get_or-lay, get_or-lay_above, length_part, take-lay}
use Rattle.refusal.specs.Refusal.{bad_degree}
use Rattle.field.specs.Symbols.{plus, times}
use Rattle.lists.specs.Working.Lists.{carried, carried_at}
use Rattle.field.specs.Arithmetic.{gf}
use Rattle.field.proofs.Instance.{field}
use Rattle.poly.proofs.Forms.{lin, from_newton}
use Rattle.poly.proofs.Ring.{plus-zero, times_zero, times_comm}
use Rattle.poly.proofs.Newton.{length_newton}

pub get_or-zeros : (n i : ℕ) → get_or (replicate {A = ℕ} n 0) i 0 ≡ 0
get_or-zeros n i = by (dec_lt i n)
  where
    by : Dec (i < n) → get_or (replicate {A = ℕ} n 0) i 0 ≡ 0
    by (yes h) = get_or-replicate n i 0 0 h
    by (no h) = get_or-eq_default (replicate {A = ℕ} n 0) 0 (omega (arith, length-replicate {A = ℕ} n 0))

unfoldable pub newton_from : ℕ → List ℕ → List ℕ → ℕ → List ℕ
newton_from d nodes us j = from_newton (gf d) (length us - j) (drop j nodes) (drop j us)

module _ (d : ℕ) (good : bad_degree d ≡ false) where
  pub get_or_lin : (a c : ℕ) (q : List ℕ) (k : ℕ)
      → get_or (lin (gf d) a c q) k 0 ≡ plus (get_or (c ∷ q) k 0) (times d a (get_or q k 0))
  unfolding lin
  get_or_lin a c [] zero = sym (rw (times_zero (gf d) (field d good) a) (plus-zero (gf d) (field d good) c))
  get_or_lin a c [] (suc k) = sym (rw (times_zero (gf d) (field d good) a) (plus-zero (gf d) (field d good) 0))
  get_or_lin a c (b ∷ q) zero = refl
  get_or_lin a c (b ∷ q) (suc k) = get_or_lin a b q k

-- m numbers, copied to the front of z
pub take_copied : (at m : ℕ) (l z : List ℕ) {p : List ℕ} → m ≤ length z → at + m ≤ length l → p ≡ lay 0 (take (at + m - at) (drop at l)) z
    → take m p ≡ part at m l
unfolding part
take_copied at m l z {p} room fits is =
    let q : List ℕ = part at m l in
    let size : length q ≡ m = length_part at m l fits in
    let all : at + m - at ≡ m = omega arith in
    take-lay q z (rw all at is) size room

-- the coefficients before j, and behind them the polynomial of the Newton form from j on
pub record Rising (d : ℕ) (nodes us : List ℕ) (j : ℕ) (w : List ℕ) : Type 0 where
  pub low : (i : ℕ) → i < j → get_or w i 0 ≡ get_or us i 0
  pub high : (k : ℕ) → get_or w (j + k) 0 ≡ get_or (newton_from d nodes us j) k 0

module _ (d : ℕ) (good : bad_degree d ≡ false) (nodes us : List ℕ) (enough : length us ≤ length nodes) where
  newton_cons : (j : ℕ) → j < length us
      → newton_from d nodes us j ≡ lin (gf d) (get_or nodes j 0) (get_or us j 0) (newton_from d nodes us (suc j))
  unfolding newton_from from_newton
  newton_cons j h =
      let e : length us - j ≡ suc (length us - suc j) = omega arith in
      rw (e, drop-cons us j 0 h, drop-cons nodes j 0 (omega arith))

  length_newton_from : (j : ℕ) → j ≤ length us → length (newton_from d nodes us j) ≡ length us - j
  unfolding newton_from
  length_newton_from j h =
      length_newton (gf d) (field d good) (length us - j) (drop j nodes) (drop j us) (omega (arith, length-drop j nodes))
      (omega (arith, length-drop j us))

  pub rising_start : (n : ℕ) {w : List ℕ} → length us ≤ n → w ≡ lay 0 us (replicate n 0) → Rising d nodes us (length us) w
  unfolding newton_from from_newton
  rising_start n {w} fits is = record {
    low = λ i h. rw is (rw zero-add at (get_or-lay 0 us (replicate n 0) i h (omega (arith, size))));
    high = λ k. rw (is, sub_self (length us)) (get_or-lay_above 0 us (replicate n 0) (length us + k) (omega arith)
        ∙ get_or-zeros n (length us + k));
  }
    where
      size : length (replicate {A = ℕ} n 0) ≡ n
      size = length-replicate n 0

  -- what stands at a place from j on, and a times what stands behind it
  rising_step : (j m : ℕ) {v w : List ℕ} → suc j ≤ length us → length us - suc j ≤ m → j + m < length w → Rising d nodes us (suc j) w
      → v ≡ carried_at d (get_or nodes j 0) w j m → Rising d nodes us j v
  unfolding carried
  rising_step j m {v} {w} h most fits before is = record {
    low = λ i k. rw is (get_or-patch_below j f w m i 0 k) ∙ before.low i (omega arith);
    high = λ k. at_place k ∙ sym (rw (newton_cons j h) (get_or_lin d good a c q k));
  }
    where
      a : ℕ
      a = get_or nodes j 0

      c : ℕ
      c = get_or us j 0

      q : List ℕ
      q = newton_from d nodes us (suc j)

      f : ℕ → ℕ
      f = carried d a w j

      behind : (k : ℕ) → get_or w (j + (k + 1)) 0 ≡ get_or q k 0
      behind k = let e : j + (k + 1) ≡ suc j + k = omega arith in rw e (before.high k)

      here : (k : ℕ) → get_or w (j + k) 0 ≡ get_or (c ∷ q) k 0
      here zero = rw add-zero (before.low j (omega arith))
      here (suc k) = let e : j + suc k ≡ suc j + k = omega arith in rw e (before.high k)

      at_place : (k : ℕ) → get_or v (j + k) 0 ≡ plus (get_or (c ∷ q) k 0) (times d a (get_or q k 0))
      at_place k = rw is (by (dec_lt k m))
        where
          by : Dec (k < m) → get_or (patch j m f w) (j + k) 0 ≡ plus (get_or (c ∷ q) k 0) (times d a (get_or q k 0))
          by (yes g) =
              get_or-patch j f w m k 0 g (omega arith)
              ∙ ap₂ plus (here k) (ap (λ (x : ℕ). times d x a) (behind k) ∙ times_comm (gf d) (field d good) (get_or q k 0) a)
          by (no g) =
              let end : get_or q k 0 ≡ 0 = get_or-eq_default q 0 (omega (arith, length_newton_from (suc j) h)) in
              get_or-patch_above j f w m (j + k) 0 (omega arith) ∙ here k
              ∙ sym (rw (end, times_zero (gf d) (field d good) a) (plus-zero (gf d) (field d good) (get_or (c ∷ q) k 0)))

  -- the same as the code has it
  pub rising_less : {j m : ℕ} {v w : List ℕ} → 0 < j → j ≤ length us → length us - j ≤ m → j - 1 + m < length w → Rising d nodes us j w
      → v ≡ carried_at d (get_or nodes (j - 1) 0) w (j - 1) m → Rising d nodes us (j - 1) v
  rising_less {j} {m} h k most fits before is =
      let e : suc (j - 1) ≡ j = omega arith in
      rising_step (j - 1) m (omega arith) (omega arith) fits (rw e before) is

  newton_whole : newton_from d nodes us 0 ≡ from_newton (gf d) (length us) nodes us
  unfolding newton_from
  newton_whole = rw (sub-zero (length us))

  pub rising-end : {j : ℕ} {w : List ℕ} → j ≡ 0 → length us ≤ length w → Rising d nodes us j w
      → take (length us) w ≡ from_newton (gf d) (length us) nodes us
  rising-end {j} {w} none fits all =
      let size : length (take (length us) w) ≡ length us = length-take-le (length us) w fits in
      ext_get_or 0 (take (length us) w) (newton_from d nodes us 0) (size ∙ sym (length_newton_from 0 (omega arith) ∙ sub-zero (length us)))
      (λ k h. get_or-take (length us) w k 0 (omega arith) ∙ rw (none, zero-add) at (all.high k))
      ∙ newton_whole
