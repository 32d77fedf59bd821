-- A product combined from doublings is the product.
--
--   combined-times     combined (doublings d c) s = s·c
--   four_combined_lem, combined-zero    four bits more; no bit
--   combined_none      entries that are zero combine to nothing
--   short, products    doublings that the code holds end with the degree; a loop that combines them writes products
-- Assumes nothing.
use mathlib.Core.Path.{◌≡◌, refl, sym, ap, ap₂, ◌∙◌}
use mathlib.Core.Bool.{false}
use mathlib.Core.List.{List}
use Prim.Native.Nat.{ℕ, zero, suc, ◌+◌, ◌*◌, ◌/◌, ◌%◌, ◌^◌, ◌<◌}
use native.Mathlib.Nat.{zero-mul, mul-zero, mul-one, mul_assoc, mul_comm, pow-suc, add-zero, zero-add}
use native.Mathlib.Omega.{arith}
use lib.ListN.{get_or}
use lib.Arith.{lt-one}
use Rattle.patch.specs.Patch.{patch}
use Rattle.patch.proofs.Laws.{patch_cong}
use Rattle.refusal.specs.Refusal.{bad_degree}
use Rattle.field.specs.Symbols.{plus, times}
use Rattle.field.specs.Working.Doublings.{doublings_from}
use Rattle.field.proofs.Sums.{plus_comm, plus_self, plus_shift, top, Additive, additive_zero, additive_bit}
use Rattle.field.proofs.Products.{plus_times}
use Rattle.field.proofs.BitByBit.{half_below}
use Rattle.field.proofs.Instance.{tested}
use Rattle.field.proofs.Doublings.{doublings_at, doublings_short}
use Rattle.lists.specs.Working.Combining.{combined_from, combined, four_combined, Short}

-- four bits more
pub four_combined_lem : (r : List ℕ) (i n s : ℕ) {v higher : ℕ}
    → v ≡ four_combined (get_or r i 0) (get_or r (suc i) 0) (get_or r (suc (suc i)) 0) (get_or r (suc (suc (suc i))) 0) s higher
    → higher ≡ combined_from r (suc (suc (suc (suc i)))) n (s / 2 / 2 / 2 / 2) → v ≡ combined_from r i (suc (suc (suc (suc n)))) s
unfolding combined_from
four_combined_lem r i n s is e =
    is ∙ ap (four_combined (get_or r i 0) (get_or r (suc i) 0) (get_or r (suc (suc i)) 0) (get_or r (suc (suc (suc i))) 0) s) e

pub combined-zero : (r : List ℕ) (i s : ℕ) → combined_from r i 0 s ≡ 0
unfolding combined_from
combined-zero r i s = refl

pub combined_none : (r : List ℕ) (i n s : ℕ) → ((k : ℕ) → get_or r (i + k) 0 ≡ 0) → combined_from r i n s ≡ 0
unfolding combined_from
combined_none r i zero s e = refl
combined_none r i (suc n) s e =
    ap₂ plus (ap (λ (x : ℕ). s % 2 * x) (rw (add-zero i) at (e 0)))
    (combined_none r (suc i) n (s / 2) (λ k. rw (← (suc_out k)) (e (suc k))))
    ∙ ap (λ (x : ℕ). plus x 0) (mul-zero (s % 2)) ∙ plus_self 0
  where
    suc_out : (k : ℕ) → i + suc k ≡ suc i + k
    suc_out k = omega arith

-- s·2^i bit by bit
bits : (s i : ℕ) → s * 2 ^ i ≡ plus (s % 2 * 2 ^ i) (s / 2 * 2 ^ suc i)
bits s i =
    ap (λ (x : ℕ). x * 2 ^ i) (top 1 s) ∙ plus_shift i (s / 2 * 2) (s % 2) ∙ plus_comm (s / 2 * 2 * 2 ^ i) (s % 2 * 2 ^ i)
    ∙ ap (plus (s % 2 * 2 ^ i)) (mul_assoc (s / 2) 2 (2 ^ i) ∙ ap (λ (x : ℕ). s / 2 * x) (mul_comm 2 (2 ^ i) ∙ sym (pow-suc 2 i)))

-- an additive function's values at powers of two, combined by the bits of s, are its value at s
module _ (f : ℕ → ℕ) (af : Additive f) (r : List ℕ) where
  combined_from_lem : (i n s : ℕ) → ((k : ℕ) → k < n → get_or r (i + k) 0 ≡ f (2 ^ (i + k))) → s < 2 ^ n → combined_from r i n s ≡ f (s * 2 ^ i)
  unfolding combined_from
  combined_from_lem i zero s e h = sym (rw (lt-one h) (rw (zero-mul (2 ^ i)) (additive_zero f af)))
  combined_from_lem i (suc n) s e h =
      ap₂ plus
      (ap (λ (x : ℕ). s % 2 * x) (rw (add-zero i) at (e 0 (omega arith))) ∙ sym (additive_bit f af (2 ^ i) s))
      (combined_from_lem (suc i) n (s / 2) (λ k k<n. rw (← (shift_one k)) (e (suc k) (omega arith))) (half_below n s h))
      ∙ sym (af (s % 2 * 2 ^ i) (s / 2 * 2 ^ suc i)) ∙ ap f (sym (bits s i))
    where
      shift_one : (k : ℕ) → i + suc k ≡ suc i + k
      shift_one k = omega arith

pub combined-times : (d c s : ℕ) → s < 256 → combined_from (doublings_from d c 0 8) 0 8 s ≡ times d s c
combined-times d c s h =
    combined_from_lem (λ x. times d x c) (plus_times d c) (doublings_from d c 0 8) 0 8 s
    (λ k k<n. rw (zero-add k) (doublings_at d c 0 8 k k<n ∙ ap (λ (x : ℕ). times d (2 ^ x) c) (zero-add k))) h
    ∙ ap (λ (x : ℕ). times d x c) (mul-one s)

pub short : (d c : ℕ) {r : List ℕ} → bad_degree d ≡ false → r ≡ doublings_from d c 0 8 → Short d r
short d c good doubled = rw doubled (doublings_short d (tested d good) c)

-- g says what a loop makes of the combined symbol, and read which symbol it combines
pub products : (d c : ℕ) {r : List ℕ} → r ≡ doublings_from d c 0 8 → (g : ℕ → ℕ → ℕ) (read : ℕ → ℕ) → ((k : ℕ) → read k < 256)
    → (at n : ℕ) (l : List ℕ) {s : List ℕ} → s ≡ patch at n (λ k. g k (combined r (read k))) l
    → s ≡ patch at n (λ k. g k (times d (read k) c)) l
products d c doubled g read small at n l is =
    is ∙ patch_cong at n _ _ l (λ k h. ap (g k) (rw doubled (combined-times d c (read k) (small k))))
