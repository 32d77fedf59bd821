-- Divided differences: how many there are, and that they are symbols.
--
--   length_apart, symbols_apart      one round
--   length_reduce, symbols_reduce    k rounds
--   last_round                       of as many rounds as there are points, the last has nothing to do
--   length-left, symbols_left        the reduced values, which k rounds leave behind the Newton coefficients
-- Assumes nothing.
use mathlib.Core.Path.{◌≡◌, refl, ap, ◌∙◌}
use mathlib.Core.List.{List, [], ◌∷◌}
use Prim.Native.Nat.{ℕ, zero, suc}
use native.Mathlib.Omega.{arith}
use lib.ListN.{length, drop, length-drop}
use Rattle.field.specs.Arithmetic.{Arithmetic}
use Rattle.field.proofs.Laws.{Field}
use Rattle.poly.specs.Poly.{All}
use Rattle.poly.proofs.Forms.{apart, reduce}

module _ {K : Type 0} (A : Arithmetic K) (𝓕 : Field A) where
  open A use {In}

  pub length_apart : (x y : K) (xs ys : List K) → length ys ≡ length xs → length (apart A x y xs ys) ≡ length xs
  unfolding apart
  length_apart x y [] ys l = refl
  length_apart x y (x' ∷ xs) [] l = l
  length_apart x y (x' ∷ xs) (y' ∷ ys) l = ap suc (length_apart x y xs ys (omega arith))

  pub symbols_apart : (x y : K) (xs ys : List K) → All In (apart A x y xs ys)
  unfolding apart
  symbols_apart x y [] ys = tt
  symbols_apart x y (x' ∷ xs) [] = tt
  symbols_apart x y (x' ∷ xs) (y' ∷ ys) = (𝓕.over_in (A.plus y' y) (A.plus x' x), symbols_apart x y xs ys)

  pub length_reduce : (k : ℕ) (xs ys : List K) → length ys ≡ length xs → length (reduce A k xs ys) ≡ length xs
  unfolding reduce
  length_reduce zero xs ys l = l
  length_reduce (suc k) [] ys l = l
  length_reduce (suc k) (x ∷ xs) [] l = l
  length_reduce (suc k) (x ∷ xs) (y ∷ ys) l =
      ap suc (length_reduce k xs (apart A x y xs ys) (length_apart x y xs ys (omega arith)))

  pub last_round : (k : ℕ) (xs ys : List K) → length xs ≡ suc k → length ys ≡ suc k → reduce A k xs ys ≡ reduce A (suc k) xs ys
  unfolding apart reduce
  last_round k [] ys h l = absurd (omega arith)
  last_round k (x ∷ xs) [] h l = absurd (omega arith)
  last_round zero (x ∷ []) (y ∷ []) h l = refl
  last_round zero (x ∷ []) (y ∷ y' ∷ ys) h l = absurd (omega arith)
  last_round zero (x ∷ x' ∷ xs) (y ∷ ys) h l = absurd (omega arith)
  last_round (suc k) (x ∷ xs) (y ∷ ys) h l =
      ap (λ (us : List K). y ∷ us)
      (last_round k xs (apart A x y xs ys) (omega arith) (length_apart x y xs ys (omega arith) ∙ omega arith))

  pub symbols_reduce : (k : ℕ) (xs ys : List K) → All In ys → All In (reduce A k xs ys)
  unfolding reduce
  symbols_reduce zero xs ys s = s
  symbols_reduce (suc k) [] ys s = s
  symbols_reduce (suc k) (x ∷ xs) [] s = tt
  symbols_reduce (suc k) (x ∷ xs) (y ∷ ys) s = (s.0, symbols_reduce k xs (apart A x y xs ys) (symbols_apart x y xs ys))

  symbols_drop : (k : ℕ) (l : List K) → All In l → All In (drop k l)
  symbols_drop zero l h = h
  symbols_drop (suc k) [] h = h
  symbols_drop (suc k) (a ∷ l) h = symbols_drop k l h.1

  pub length-left : (k : ℕ) (xs ys : List K) → length ys ≡ length xs → length (drop k (reduce A k xs ys)) ≡ length (drop k xs)
  length-left k xs ys l = omega (arith, length-drop k xs, length-drop k (reduce A k xs ys), length_reduce k xs ys l)

  pub symbols_left : (k : ℕ) (xs ys : List K) → All In ys → All In (drop k (reduce A k xs ys))
  symbols_left k xs ys s = symbols_drop k (reduce A k xs ys) (symbols_reduce k xs ys s)
