-- A row that is reduced in an array of our own.
--
--   take-drop           a part of a list, cut at the end first
--   newton_take         only the first k Newton coefficients count
--   reduced_newton, reduced_rest    the row's reduced values stand at the front: the polynomial of the first k; those behind
--   held_front, held_rest    the same where the row was laid there, and reduced then
-- Assumes nothing.
use mathlib.Core.Path.{◌≡◌, refl, sym, ap, ◌∙◌}
use mathlib.Core.List.{List, [], ◌∷◌}
use Prim.Native.Nat.{ℕ, zero, suc, ◌-◌, ◌≤◌}
use native.Mathlib.Omega.{arith}
use lib.ListN.{length, take, drop}
use lib.Seq.{length-take-le, take-nil, take-take}
use Rattle.patch.specs.Parts.{lay}
use Rattle.patch.proofs.Parts.{take-lay}
use Rattle.field.specs.Arithmetic.{Arithmetic, gf}
use Rattle.field.proofs.Laws.{Field}
use Rattle.poly.proofs.Forms.{reduce, from_newton}
use Rattle.poly.proofs.Differences.{length_reduce}

take-drop : {K : Type 0} (k n : ℕ) (l : List K) → take (n - k) (drop k l) ≡ drop k (take n l)
take-drop zero n l = let e : n - 0 ≡ n = omega arith in rw e
take-drop (suc k) zero l = let e : 0 - suc k ≡ 0 = omega arith in rw e
take-drop (suc k) (suc n) [] = take-nil (suc n - suc k)
take-drop (suc k) (suc n) (a ∷ l) = let e : suc n - suc k ≡ n - k = omega arith in rw e (take-drop k n l)

newton_take : {K : Type 0} (A : Arithmetic K) (k : ℕ) (xs us : List K) → from_newton A k xs (take k us) ≡ from_newton A k xs us
unfolding from_newton
newton_take A zero xs us = refl
newton_take A (suc k) [] us = refl
newton_take A (suc k) (x ∷ xs) [] = refl
newton_take A (suc k) (x ∷ xs) (u ∷ us) = rw (newton_take A k xs us)

module _ (d k : ℕ) (xs row s : List ℕ) (size : length row ≡ length xs) (front : take (length xs) s ≡ reduce (gf d) k xs row) where
  pub reduced_newton : Field (gf d) → k ≤ length xs
      → from_newton (gf d) (length (take k s)) xs (take k s) ≡ from_newton (gf d) k xs (reduce (gf d) k xs row)
  reduced_newton 𝓕 most =
      let u : List ℕ = reduce (gf d) k xs row in
      let same : take k s ≡ take k u = sym (take-take k (length xs) s most) ∙ ap (take k) front in
      let count : length (take k u) ≡ k = length-take-le k u (omega (arith, length_reduce (gf d) 𝓕 k xs row size)) in
      rw (same, count) (newton_take (gf d) k xs u)

  pub reduced_rest : {n : ℕ} → n ≡ length xs → take (n - k) (drop k s) ≡ drop k (reduce (gf d) k xs row)
  reduced_rest {n} e = take-drop k n s ∙ rw e (ap (drop k) front)

-- a row that was laid at the front, and reduced there
module _ (d k : ℕ) (xs row l s : List ℕ) {held : List ℕ} (size : length row ≡ length xs) (fits : length xs ≤ length l)
    (is : held ≡ lay 0 row l) (reduced : take (length xs) s ≡ reduce (gf d) k xs (take (length xs) held)) where
  pub held_front : take (length xs) s ≡ reduce (gf d) k xs row
  held_front = reduced ∙ ap (reduce (gf d) k xs) (take-lay row l is size fits)

  pub held_rest : {n : ℕ} → n ≡ length xs → take (n - k) (drop k s) ≡ drop k (reduce (gf d) k xs row)
  held_rest = reduced_rest d k xs row s size held_front
