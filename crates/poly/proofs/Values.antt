-- Values of sums, multiples and products.
--
--   value-add, value-scale, value-mul    the value of a sum, a multiple, a product
--   value_const                          the value of a constant
--   value-zero, value-append             zeros have the value zero, and change no value behind a list
--   value_in                             the value of a list of symbols is a symbol
--   get_or_values                          the value at a point, among the values at all
-- Assumes nothing.
use mathlib.Core.Path.{◌≡◌, refl, sym, ap, ap₂, ◌∙◌}
use mathlib.Core.List.{List, [], ◌∷◌, ◌++◌}
use mathlib.Core.Logic.{◌↔◌}
use Prim.Native.Nat.{ℕ, zero, suc, ◌<◌}
use native.Mathlib.Omega.{arith}
use lib.ListN.{length, get_or, length-map}
use Rattle.field.specs.Arithmetic.{Arithmetic}
use Rattle.field.proofs.Laws.{Field}
use Rattle.poly.specs.Poly.{All, Zero, value, values_at, add, scale, mul}
use Rattle.poly.proofs.Ring.{ring, zero_plus, plus-zero, times_zero}

pub get_or_values : {K : Type 0} (A : Arithmetic K) (xs f : List K) (i : ℕ) (d : K) → i < length xs
    → get_or (values_at A xs f) i d ≡ value A f (get_or xs i d)
unfolding values_at
get_or_values A [] f i d h = absurd (omega arith)
get_or_values A (x ∷ xs) f zero d h = refl
get_or_values A (x ∷ xs) f (suc i) d h = get_or_values A xs f i d (omega arith)

module _ {K : Type 0} (A : Arithmetic K) (𝓕 : Field A) where
  infixl 65 ◌⊕◌
  infixl 70 ◌⊗◌
  open A use {In, zero as 𝟎, plus as ◌⊕◌, times as ◌⊗◌}

  pub value_in : (p : List K) (x : K) → All In p → In (value A p x)
  unfolding value
  value_in [] x h = 𝓕.zero_in
  value_in (c ∷ p) x h = 𝓕.plus_in c (x ⊗ value A p x) h.0 (𝓕.times_in x (value A p x))

  zero_step : (x c v : K) → c ≡ 𝟎 → v ≡ 𝟎 → c ⊕ x ⊗ v ≡ 𝟎
  zero_step x c v h k = simp (h, k, ring)

  const_step : (x c : K) → c ⊕ x ⊗ 𝟎 ≡ c
  const_step x c = simp ring

  pub value_const : (c x : K) → value A (c ∷ []) x ≡ c
  unfolding value
  value_const c x = const_step x c

  pub value-zero : (p : List K) (x : K) → Zero A p → value A p x ≡ 𝟎
  unfolding value
  value-zero [] x h = refl
  value-zero (c ∷ p) x h = zero_step x c (value A p x) h.0 (value-zero p x h.1)

  pub value-append : (p z : List K) (x : K) → Zero A z → value A (p ++ z) x ≡ value A p x
  unfolding value
  value-append [] z x h = value-zero z x h
  value-append (c ∷ p) z x h = ap (λ (v : K). c ⊕ x ⊗ v) (value-append p z x h)

  add_step : (x a b u v w : K) → w ≡ u ⊕ v → a ⊕ b ⊕ x ⊗ w ≡ a ⊕ x ⊗ u ⊕ (b ⊕ x ⊗ v)
  add_step x a b u v w h = simp (h, ring)

  pub value-add : (p q : List K) (x : K) → value A (add A p q) x ≡ value A p x ⊕ value A q x
  unfolding value add
  value-add [] q x = sym (zero_plus A 𝓕 (value A q x))
  value-add (a ∷ p) [] x = sym (plus-zero A 𝓕 (value A (a ∷ p) x))
  value-add (a ∷ p) (b ∷ q) x = add_step x a b (value A p x) (value A q x) _ (value-add p q x)

  scale_step : (x c a u v : K) → v ≡ c ⊗ u → c ⊗ a ⊕ x ⊗ v ≡ c ⊗ (a ⊕ x ⊗ u)
  scale_step x c a u v h = simp (h, ring)

  pub value-scale : (c : K) (p : List K) (x : K) → value A (scale A c p) x ≡ c ⊗ value A p x
  unfolding value scale
  value-scale c [] x = sym (times_zero A 𝓕 c)
  value-scale c (a ∷ p) x = scale_step x c a (value A p x) _ (value-scale c p x)

  pub value-add-scale : (p : List K) (c : K) (q : List K) (x : K)
      → value A (add A p (scale A c q)) x ≡ value A p x ⊕ c ⊗ value A q x
  value-add-scale p c q x = value-add p (scale A c q) x ∙ ap (◌⊕◌ (value A p x)) (value-scale c q x)

  mul-step : (x a u v w m : K) → m ≡ a ⊗ v → w ≡ u ⊗ v → m ⊕ (𝟎 ⊕ x ⊗ w) ≡ (a ⊕ x ⊗ u) ⊗ v
  mul-step x a u v w m h k = simp (h, k, ring)

  pub value-mul : (p q : List K) (x : K) → value A (mul A p q) x ≡ value A p x ⊗ value A q x
  unfolding value mul
  value-mul [] q x = simp ring
  value-mul (a ∷ p) q x =
      value-add (scale A a q) (𝟎 ∷ mul A p q) x ∙
      mul-step x a (value A p x) (value A q x) _ _ (value-scale a q x) (value-mul p q x)

  pub length-values : (xs p : List K) → length (values_at A xs p) ≡ length xs
  unfolding values_at
  length-values xs p = length-map xs (value A p)

  pub symbols_values : (xs p : List K) → All In p → All In (values_at A xs p)
  unfolding values_at
  symbols_values [] p h = tt
  symbols_values (x ∷ xs) p h = (value_in p x h, symbols_values xs p h)

  -- the values of the polynomial without coefficients
  pub values_nil : (xs ys : List K) → length ys ≡ length xs → (values_at A xs [] ≡ ys) ↔ Zero A ys
  unfolding values_at value
  values_nil [] [] l = (λ e. tt, λ z. refl)
  values_nil [] (y ∷ ys) l = absurd (omega arith)
  values_nil (x ∷ xs) [] l = absurd (omega arith)
  values_nil (x ∷ xs) (y ∷ ys) l =
      let ih : (values_at A xs [] ≡ ys) ↔ Zero A ys = values_nil xs ys (omega arith) in
      (λ e. (cc, ih.0 (cc)), λ z. ap₂ ◌∷◌ (sym z.0) (ih.1 z.1))
