-- Division by x − a.
--
--   lin a c q       c + (x − a)·q: its value, length, symbols; it is zero exactly when c and q are
--   lin_mul         (x − a)·(p·q) is ((x − a)·p)·q
--   quo a p         the quotient of p by x − a, one coefficient shorter
--   lin_quo         p is p(a) + (x − a)·(quo a p)
-- Assumes nothing.
use mathlib.Core.Path.{◌≡◌, refl, sym, ap, ap₂, ◌∙◌}
use mathlib.Core.List.{List, [], ◌∷◌}
use Prim.Native.Nat.{ℕ, suc, ◌≤◌, ◌<◌}
use native.Mathlib.Omega.{arith}
use lib.ListN.{length}
use Rattle.field.specs.Arithmetic.{Arithmetic}
use Rattle.field.proofs.Laws.{Field}
use Rattle.poly.specs.Poly.{All, Zero, Poly, value, add, scale, mul}
use Rattle.poly.proofs.Forms.{lin}
use Rattle.poly.proofs.Ring.{ring, plus_twice, plus-zero, times_zero}
use Rattle.poly.proofs.Sums.{zero-scale, add-zero, length-scale}
use Rattle.poly.proofs.Products.{add-mul, scale-mul, length-mul-right}
use Rattle.poly.proofs.Values.{value_in, value_const}

module _ {K : Type 0} (A : Arithmetic K) where
  -- the quotient of p by x − a: the values at a of what is left when coefficients are taken off below
  unfoldable pub quo : K → List K → List K
  quo a [] = []
  quo a (c ∷ []) = []
  quo a (c ∷ b ∷ p) = value A (b ∷ p) a ∷ quo a (b ∷ p)

module _ {K : Type 0} (A : Arithmetic K) (𝓕 : Field A) where
  infixl 65 ◌⊕◌
  infixl 70 ◌⊗◌
  open A use {In, zero as 𝟎, plus as ◌⊕◌, times as ◌⊗◌}

  pub length_lin : (a c : K) (q : List K) → length (lin A a c q) ≡ suc (length q)
  unfolding lin
  length_lin a c [] = refl
  length_lin a c (b ∷ q) = ap suc (length_lin a b q)

  pub symbols_lin : (a c : K) (q : List K) → In c → All In q → All In (lin A a c q)
  unfolding lin
  symbols_lin a c [] h k = (h, tt)
  symbols_lin a c (b ∷ q) h k = (𝓕.plus_in c (a ⊗ b) h (𝓕.times_in a b), symbols_lin a b q k.0 k.1)

  pub poly_lin : {m : ℕ} {q : List K} (a c : K) → In c → Poly A m q → Poly A (suc m) (lin A a c q)
  poly_lin {q = q} a c i h = record { count = length_lin a c q ∙ ap suc h.count; symbols = symbols_lin a c q i h.symbols }

  lin_step : (a c b x v w : K) → w ≡ b ⊕ (x ⊕ a) ⊗ v → c ⊕ a ⊗ b ⊕ x ⊗ w ≡ c ⊕ (x ⊕ a) ⊗ (b ⊕ x ⊗ v)
  lin_step a c b x v w h = simp (h, ring)

  pub value_lin : (a c : K) (q : List K) (x : K) → value A (lin A a c q) x ≡ c ⊕ (x ⊕ a) ⊗ value A q x
  unfolding lin value
  value_lin a c [] x = simp ring
  value_lin a c (b ∷ q) x = lin_step a c b x (value A q x) _ (value_lin a b q x)

  pub lin_zero : (a c : K) (q : List K) → Zero A (lin A a c q) → (c ≡ 𝟎) × Zero A q
  unfolding lin
  lin_zero a c [] h = (h.0, tt)
  lin_zero a c (b ∷ q) h =
      let t : (b ≡ 𝟎) × Zero A q = lin_zero a b q h.1 in
      (sym (rw (t.0, times_zero A 𝓕 a, plus-zero A 𝓕 c)) ∙ h.0, t)

  pub zero_lin : (a c : K) (q : List K) → c ≡ 𝟎 → Zero A q → Zero A (lin A a c q)
  unfolding lin
  zero_lin a c [] e h = (e, tt)
  zero_lin a c (b ∷ q) e h = (rw (e, h.0, times_zero A 𝓕 a, plus-zero A 𝓕 𝟎), zero_lin a b q h.0 h.1)

  lin_sum : (a c : K) (q : List K) → lin A a c q ≡ add A (c ∷ q) (scale A a q)
  unfolding lin add scale
  lin_sum a c [] = refl
  lin_sum a c (b ∷ q) = ap (◌∷◌ (c ⊕ a ⊗ b)) (lin_sum a b q)

  shift_mul : (p q : List K) → 0 < length p → mul A (𝟎 ∷ p) q ≡ 𝟎 ∷ mul A p q
  unfolding mul
  shift_mul p q h =
      let l : length q ≤ length (mul A p q) = length-mul-right A 𝓕 p q h in
      let short : length (scale A 𝟎 q) ≤ suc (length (mul A p q)) = omega (arith, length-scale A 𝓕 𝟎 q) in
      add-zero A 𝓕 (scale A 𝟎 q) (𝟎 ∷ mul A p q) (zero-scale A 𝓕 q) short

  pub lin_mul : (a : K) (p q : List K) → 0 < length p → mul A (lin A a 𝟎 p) q ≡ lin A a 𝟎 (mul A p q)
  lin_mul a p q h =
      ap (λ (t : List K). mul A t q) (lin_sum a 𝟎 p)
      ∙ add-mul A 𝓕 (𝟎 ∷ p) (scale A a p) q
      ∙ ap₂ (add A) (shift_mul p q h) (scale-mul A 𝓕 a p q)
      ∙ sym (lin_sum a 𝟎 (mul A p q))

  pub length_quo : (a c : K) (p : List K) → length (quo A a (c ∷ p)) ≡ length p
  unfolding quo
  length_quo a c [] = refl
  length_quo a c (b ∷ p) = ap suc (length_quo a b p)

  pub symbols_quo : (a : K) (p : List K) → All In p → All In (quo A a p)
  unfolding quo
  symbols_quo a [] h = tt
  symbols_quo a (c ∷ []) h = tt
  symbols_quo a (c ∷ b ∷ p) h = (value_in A 𝓕 (b ∷ p) a h.1, symbols_quo a (b ∷ p) h.1)

  pub poly_quo : (a : K) {m : ℕ} (p : List K) → Poly A (suc m) p → Poly A m (quo A a p)
  poly_quo a [] h = absurd (omega (arith, h.count))
  poly_quo a (c ∷ p) h = record { count = omega (arith, h.count, length_quo a c p); symbols = symbols_quo a (c ∷ p) h.symbols }

  pub lin_quo : (a c : K) (p : List K) → lin A a (value A (c ∷ p) a) (quo A a (c ∷ p)) ≡ c ∷ p
  unfolding lin value quo
  lin_quo a c [] = ap (λ (t : K). t ∷ []) (value_const A 𝓕 c a)
  lin_quo a c (b ∷ p) = ap₂ ◌∷◌ (plus_twice A 𝓕 c (a ⊗ value A (b ∷ p) a)) (lin_quo a b p)

  pub value_quo : (a : K) (p : List K) (x : K) → value A p x ≡ value A p a ⊕ (x ⊕ a) ⊗ value A (quo A a p) x
  value_quo a [] x = unfold value quo in simp ring
  value_quo a (c ∷ p) x =
      ap (λ (t : List K). value A t x) (sym (lin_quo a c p))
      ∙ value_lin a (value A (c ∷ p) a) (quo A a (c ∷ p)) x
