-- A polynomial from Newton's form, and a row from its divided differences.
--
--   poly_newton     k Newton coefficients give k coefficients
--   newton_value    the value from Newton's form is the value of the polynomial
--   newton_row      the polynomial of a row's first k divided differences has the row's values exactly when the rest are zero
--   newton_all      with as many divided differences as points it always has
--   newton_unique   of the values of a polynomial with k coefficients it is that polynomial
-- Assumes nothing.
use mathlib.Core.Path.{◌≡◌, refl, sym, ap, ap₂, ◌∙◌}
use mathlib.Core.Logic.Iff
use mathlib.Core.Logic.{◌↔◌}
use mathlib.Core.List.{List, [], ◌∷◌}
use Prim.Native.Nat.{ℕ, zero, suc, ◌≤◌}
use native.Mathlib.Omega.{arith}
use lib.ListN.{length, drop, drop_of_length-le}
use Rattle.field.specs.Arithmetic.{Arithmetic}
use Rattle.field.proofs.Laws.{Field}
use Rattle.poly.specs.Poly.{All, Zero, Poly, value, values_at}
use Rattle.poly.proofs.Forms.{lin, apart, reduce, from_newton, newton_value_lem}
use Rattle.poly.proofs.Ring.{ring, plus_comm, times_one}
use Rattle.poly.proofs.Values.{value_const, values_nil, length-values, symbols_values}
use Rattle.poly.proofs.Division.{length_lin, symbols_lin, value_lin}
use Rattle.poly.proofs.Roots.{Mem, Distinct, interpolation}
use Rattle.poly.proofs.Differences.{length_apart, symbols_apart, length_reduce, symbols_reduce}
use Rattle.poly.proofs.OneOff.{Above, fits_apart, fits_one, row_exactly}

module _ {K : Type 0} (A : Arithmetic K) (𝓕 : Field A) where
  infixl 65 ◌⊕◌
  infixl 70 ◌⊗◌
  open A use {In, one as 𝟏, plus as ◌⊕◌, times as ◌⊗◌}

  pub symbols_newton : (k : ℕ) (xs us : List K) → All In us → All In (from_newton A k xs us)
  unfolding from_newton
  symbols_newton zero xs us s = tt
  symbols_newton (suc k) [] us s = tt
  symbols_newton (suc k) (x ∷ xs) [] s = tt
  symbols_newton (suc k) (x ∷ xs) (u ∷ us) s =
      symbols_lin A 𝓕 x u (from_newton A k xs us) s.0 (symbols_newton k xs us s.1)

  pub length_newton : (k : ℕ) (xs us : List K) → k ≤ length xs → k ≤ length us → length (from_newton A k xs us) ≡ k
  unfolding from_newton
  length_newton zero xs us h l = refl
  length_newton (suc k) [] us h l = absurd (omega arith)
  length_newton (suc k) (x ∷ xs) [] h l = absurd (omega arith)
  length_newton (suc k) (x ∷ xs) (u ∷ us) h l =
      length_lin A 𝓕 x u (from_newton A k xs us)
      ∙ ap suc (length_newton k xs us (omega arith) (omega arith))

  pub poly_newton : (k : ℕ) (xs us : List K) → k ≤ length xs → k ≤ length us → All In us → Poly A k (from_newton A k xs us)
  poly_newton k xs us h l s = record { count = length_newton k xs us h l; symbols = symbols_newton k xs us s }

  pub newton_value : (k : ℕ) (xs us : List K) (y : K) → newton_value_lem A k xs us y ≡ value A (from_newton A k xs us) y
  unfolding newton_value_lem from_newton
  newton_value zero xs us y = unfold value in refl
  newton_value (suc k) [] us y = unfold value in refl
  newton_value (suc k) (x ∷ xs) [] y = unfold value in refl
  newton_value (suc k) (x ∷ xs) (u ∷ us) y =
      ap (λ (v : K). u ⊕ (y ⊕ x) ⊗ v) (newton_value k xs us y)
      ∙ sym (value_lin A 𝓕 x u (from_newton A k xs us) y)

  above_one : (x₀ y₀ : K) (p : List K) → In y₀ → Above A x₀ y₀ (𝟏 ∷ []) (lin A x₀ y₀ p) p
  above_one x₀ y₀ p j x = value_lin A 𝓕 x₀ y₀ p x ∙ plus_comm A 𝓕 y₀ _ ∙ sym (rw value_const (rw (times_one A 𝓕 j)))

  lin_first : (x₀ y₀ v : K) → y₀ ⊕ (x₀ ⊕ x₀) ⊗ v ≡ y₀
  lin_first x₀ y₀ v = simp ring

  -- y₀ + (x − x₀)·p has the values y₀, ys at x₀, xs exactly when p has the divided differences at xs
  pub lin_row : (x₀ y₀ : K) (p xs ys : List K) → All In (x₀ ∷ xs) → All In (y₀ ∷ ys) → All In p
      → length ys ≡ length xs → ¬ Mem x₀ xs
      → (values_at A (x₀ ∷ xs) (lin A x₀ y₀ p) ≡ y₀ ∷ ys) ↔ (values_at A xs p ≡ apart A x₀ y₀ xs ys)
  lin_row x₀ y₀ p xs ys i j s l h = Iff.trans first (Iff.trans
      (Iff.symm (fits_one A 𝓕 xs ys (lin A x₀ y₀ p) j.1 l))
      (Iff.trans
      (fits_apart A 𝓕 x₀ y₀ (𝟏 ∷ []) (lin A x₀ y₀ p) p xs ys i.0 j.0 s (above_one x₀ y₀ p j.0) i.1 j.1 h)
      (fits_one A 𝓕 xs (apart A x₀ y₀ xs ys) p (symbols_apart A 𝓕 x₀ y₀ xs ys) (length_apart A 𝓕 x₀ y₀ xs ys l))))
    where
      first : (values_at A (x₀ ∷ xs) (lin A x₀ y₀ p) ≡ y₀ ∷ ys) ↔ (values_at A xs (lin A x₀ y₀ p) ≡ ys)
      first = unfold values_at in (λ e. cc, λ e. ap₂ ◌∷◌ (value_lin A 𝓕 x₀ y₀ p x₀ ∙ lin_first x₀ y₀ _) e)

  pub newton_row : (k : ℕ) (xs ys : List K) → Distinct xs → All In xs → All In ys
      → length ys ≡ length xs → k ≤ length xs
      → (values_at A xs (from_newton A k xs (reduce A k xs ys)) ≡ ys) ↔ Zero A (drop k (reduce A k xs ys))
  unfolding from_newton reduce
  newton_row zero xs ys d i j l h = values_nil A 𝓕 xs ys l
  newton_row (suc k) [] ys d i j l h = absurd (omega arith)
  newton_row (suc k) (x ∷ xs) [] d i j l h = absurd (omega arith)
  newton_row (suc k) (x ∷ xs) (y ∷ ys) d i j l h =
      let zs : List K = apart A x y xs ys in
      let s : All In zs = symbols_apart A 𝓕 x y xs ys in
      let p : List K = from_newton A k xs (reduce A k xs zs) in
      let s' : All In p = symbols_newton k xs (reduce A k xs zs) (symbols_reduce A 𝓕 k xs zs s) in
      let l' : length zs ≡ length xs = length_apart A 𝓕 x y xs ys (omega arith) in
      Iff.trans (lin_row x y p xs ys i j s' (omega arith) d.0) (newton_row k xs zs d.1 i.1 s l' (omega arith))

  pub newton_all : (xs ys : List K) → Distinct xs → All In xs → All In ys → length ys ≡ length xs
      → values_at A xs (from_newton A (length xs) xs (reduce A (length xs) xs ys)) ≡ ys
  newton_all xs ys d i j l =
      let n : ℕ = length xs in
      let us : List K = reduce A n xs ys in
      let left : drop n us ≡ [] = drop_of_length-le us {i = n} (omega (arith, length_reduce A 𝓕 n xs ys l)) in
      (newton_row n xs ys d i j l (omega arith)).1 (rw left tt)

  pub newton_unique : (k : ℕ) (xs f : List K) → Distinct xs → All In xs → k ≤ length xs → Poly A k f
      → from_newton A k xs (reduce A k xs (values_at A xs f)) ≡ f
  newton_unique k xs f d i h p =
      let ys : List K = values_at A xs f in
      let j : All In ys = symbols_values A 𝓕 xs f p.symbols in
      let l : length ys ≡ length xs = length-values A 𝓕 xs f in
      let us : List K = reduce A k xs ys in
      let q = poly_newton k xs us h (omega (arith, length_reduce A 𝓕 k xs ys l)) (symbols_reduce A 𝓕 k xs ys j) in
      let zeros : Zero A (drop k us) = (row_exactly A 𝓕 k xs ys d i j l h).0 (f, p, refl) in
      interpolation A 𝓕 xs d i h q p ((newton_row k xs ys d i j l h).1 zeros)
