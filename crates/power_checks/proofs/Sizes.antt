-- The message lengths of the powers.
--
--   length_powers        there are s of them
--   get_or_powers          what stands there
--   lengths_written      a list to the front of which they are written begins with them
--   front_room           a list that begins with s numbers has them
--   length_one           the first is k
--   length_most          none is above the largest, s(k−1)+1
--   lengths_within, lengths_below    so they are from 1 to n where it is, and below n where it is
-- Assumes nothing.
use mathlib.Core.Path.{◌≡◌, refl, sym, ap, ◌∙◌}
use mathlib.Core.Bool.{false}
use mathlib.Core.List.{List}
use Prim.Native.Nat.{ℕ, zero, suc, ◌+◌, ◌-◌, ◌≤◌, ◌<◌}
use native.Mathlib.Nat.{mul-le-mul_right, one-mul}
use native.Mathlib.Omega.{arith}
use lib.ListN.{length, get_or, take, length-take}
use Rattle.patch.specs.Patch.{patch}
use Rattle.patch.proofs.Parts.{patch_is_lay, take-lay}
use Rattle.refusal.specs.Refusal.{is_in}
use Rattle.refusal.proofs.Repeats.{stands_not}
use Rattle.codes.proofs.Proper.{Within}
use Rattle.codes.specs.Code.{up_from}
use Rattle.power_checks.specs.Powers.{power_length, power_lengths}
use Rattle.power_checks.specs.Working.{power_lengths_from}

pub length_powers : (k i s : ℕ) → length (power_lengths_from k i s) ≡ s
unfolding up_from
length_powers k i zero = refl
length_powers k i (suc s) = ap suc (length_powers k (suc i) s)

pub get_or_powers : (k i s j : ℕ) → j < s → get_or (power_lengths_from k i s) j 0 ≡ power_length k (i + j)
unfolding up_from
get_or_powers k i zero j h = absurd (omega arith)
get_or_powers k i (suc s) zero h = ap (power_length k) (omega arith)
get_or_powers k i (suc s) (suc j) h = get_or_powers k (suc i) s j (omega arith) ∙ ap (power_length k) (omega arith)

pub lengths_written : (k s : ℕ) (l : List ℕ) {r : List ℕ} → r ≡ patch 0 s (λ j. power_length k (suc j)) l → s ≤ length l
    → take s r ≡ power_lengths k s
lengths_written k s l is room = take-lay (power_lengths k s) l
    (is ∙ patch_is_lay 0 s (λ j. power_length k (suc j)) (power_lengths k s) l (length_powers k 1 s)
    (λ j h. sym (get_or_powers k 1 s j h ∙ ap (power_length k) (omega arith))))
    (length_powers k 1 s) room

pub front_room : (s : ℕ) (r : List ℕ) {v : List ℕ} → take s r ≡ v → length v ≡ s → s ≤ length r
front_room s r e k = omega (arith, length-take s r, ap length e)

pub length_one : (k : ℕ) → 1 ≤ k → power_length k 1 ≡ k
length_one k h = omega (arith, one-mul (k - 1))

pub length_most : (k i s : ℕ) → i ≤ s → power_length k i ≤ power_length k s
length_most k i s h = omega (arith, mul-le-mul_right (k - 1) h)

module _ (k n : ℕ) where
  within_from : (i s : ℕ) → ((j : ℕ) → j < i + s → power_length k j ≤ n) → Within 1 n (power_lengths_from k i s)
  unfolding up_from
  within_from i zero h = tt
  within_from i (suc s) h = ((omega arith, h i (omega arith)), within_from (suc i) s (λ j q. h j (omega arith)))

  pub lengths_within : (s : ℕ) → power_length k s ≤ n → Within 1 n (power_lengths k s)
  lengths_within s h = within_from 1 s (λ j q. omega (arith, length_most k j s (omega arith)))

  pub lengths_below : (s : ℕ) → power_length k s < n → is_in n (power_lengths k s) ≡ false
  lengths_below s h = stands_not n (power_lengths k s) (λ j q e.
      let size : length (power_lengths k s) ≡ s = length_powers k 1 s in
      omega (arith, get_or_powers k 1 s j (omega arith), length_most k (1 + j) s (omega arith)))
