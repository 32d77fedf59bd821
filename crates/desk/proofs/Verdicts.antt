-- The number of rows that do not fit: there is one, and it is how often a test holds that fails exactly where a row fits.
--
--   same_count         an array has one number of misfits
--   counted            the misfits of an array, by such a test
-- Assumes nothing.
use mathlib.Core.Path.{◌≡◌, refl, ap}
use mathlib.Core.Logic.{◌↔◌}
use mathlib.Core.Bool.{Bool, true, false, true≢false}
use mathlib.Core.List.{List, [], ◌∷◌}
use Prim.Native.Nat.{ℕ, suc, ◌+◌, ◌*◌, ◌<◌}
use native.Mathlib.Nat.{zero-mul, zero-add, suc-mul, add-zero, suc-add}
use native.Mathlib.Omega.{arith}
use lib.ListN.{length, get_or, take, drop}
use lib.Seq.{drop-drop}
use Rattle.patch.specs.Parts.{part}
use Rattle.codes.specs.Code.{total, flag, flags_from}
use Rattle.desk.specs.Verdict.{IsRow, Misfits, none, fits, fits_not}

module _ {d : ℕ} {xs : List ℕ} where
  pub same_count : {ks a : List ℕ} {v w : ℕ} → Misfits d xs ks a v → Misfits d xs ks a w → v ≡ w
  same_count none none = refl
  same_count (fits p r) (fits q s) = same_count r s
  same_count (fits p r) (fits_not q s) = absurd (q p)
  same_count (fits_not p r) (fits q s) = absurd (p q)
  same_count (fits_not p r) (fits_not q s) = ap suc (same_count r s)

  one_more : {k : ℕ} {ks a : List ℕ} {v : ℕ} (b : Bool) → (b ≡ false) ↔ IsRow d xs k (take (length xs) a)
      → Misfits d xs ks (drop (length xs) a) v → Misfits d xs (k ∷ ks) a (flag b + v)
  one_more {v = v} true test r = rw (suc-add, zero-add) (fits_not (λ p. true≢false (test.1 p)) r)
  one_more {v = v} false test r = rw zero-add (fits (test.0 refl) r)

  pub counted : (ks a : List ℕ) (g : ℕ → Bool) (i : ℕ)
      → ((l : ℕ) → l < length ks → (g (i + l) ≡ false) ↔ IsRow d xs (get_or ks l 0) (part (l * length xs) (length xs) a))
      → Misfits d xs ks a (total (flags_from g i (length ks)))
  unfolding total flags_from part
  counted [] a g i test = none
  counted (k ∷ ks) a g i test = one_more (g i) (rw (add-zero, zero-mul) at (test 0 (omega arith)))
      (counted ks (drop (length xs) a) g (suc i) (λ l h. next l (test (suc l) (omega arith))))
    where
      next : (l : ℕ) → (g (i + suc l) ≡ false) ↔ IsRow d xs (get_or ks l 0) (take (length xs) (drop (suc l * length xs) a))
          → (g (suc i + l) ≡ false) ↔ IsRow d xs (get_or ks l 0) (take (length xs) (drop (l * length xs) (drop (length xs) a)))
      next l h =
          let there : suc l * length xs ≡ length xs + l * length xs = omega (arith, suc-mul l (length xs)) in
          let place : suc i + l ≡ i + suc l = omega arith in
          rw (place, drop-drop (l * length xs) (length xs) a, ← there) h
