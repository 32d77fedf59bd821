-- Products of lists of coefficients. A product of two lists, neither empty, is one shorter than both together.
--
--   mul-add, add-mul        distributivity
--   mul-scale, scale-mul    products with a multiple
--   const_mul, mul-const    products with a constant
--   mul_comm, mul_assoc     commutativity and associativity, where lists are not empty
--   length-mul, symbols_mul    how long a product is; it is always of symbols
-- Assumes nothing.
use mathlib.Core.Path.{◌≡◌, refl, sym, ap, ap₂, ◌∙◌}
use mathlib.Core.List.{List, [], ◌∷◌}
use Prim.Native.Nat.{ℕ, suc, ◌+◌, ◌≤◌, ◌<◌}
use native.Mathlib.Omega.{arith}
use lib.ListN.{length}
use Rattle.field.specs.Arithmetic.{Arithmetic}
use Rattle.field.proofs.Laws.{Field}
use Rattle.poly.specs.Poly.{All, Zero, add, scale, mul}
use Rattle.poly.proofs.Ring.{plus-zero, zero_plus, times_comm, times_zero}
use Rattle.poly.proofs.Sums.{sums, length-add, length-scale, symbols_add, symbols_scale, add-nil, add_comm}
use Rattle.poly.proofs.Sums.{add_left_comm, add_assoc, scale-add, plus-scale, scale-scale, zero-scale, add-zero}

module _ {K : Type 0} (A : Arithmetic K) (𝓕 : Field A) where
  infixl 70 ◌⊗◌
  open A use {In, zero as 𝟎, times as ◌⊗◌}

  pub length-mul : (p q : List K) {m n : ℕ} → length p ≡ suc m → length q ≡ suc n → length (mul A p q) ≡ suc (m + n)
  unfolding mul
  length-mul [] q {m} {n} h k = absurd (omega arith)
  length-mul (a ∷ []) q {m} {n} h k = omega (arith, length-add A 𝓕 (scale A a q) (𝟎 ∷ []), length-scale A 𝓕 a q)
  length-mul (a ∷ b ∷ p) q {m} {n} h k = omega (
    arith,
    length-add A 𝓕 (scale A a q) (𝟎 ∷ mul A (b ∷ p) q),
    length-scale A 𝓕 a q,
    length-mul (b ∷ p) q refl k,
  )

  pub symbols_mul : (p q : List K) → All In (mul A p q)
  unfolding mul
  symbols_mul [] q = tt
  symbols_mul (a ∷ p) q = symbols_add A 𝓕 (scale A a q) (𝟎 ∷ mul A p q) (symbols_scale A 𝓕 a q) (𝓕.zero_in, symbols_mul p q)

  shift_add : (u v : List K) → add A (𝟎 ∷ u) (𝟎 ∷ v) ≡ 𝟎 ∷ add A u v
  unfolding add
  shift_add u v = ap₂ ◌∷◌ (zero_plus A 𝓕 𝟎) refl

  spread : (x y u v w : List K) → w ≡ add A u v → add A (add A x y) (𝟎 ∷ w) ≡ add A (add A x (𝟎 ∷ u)) (add A y (𝟎 ∷ v))
  spread x y u v w h = rw (h, ← shift_add u v) (simp sums)

  pub add-mul : (p q r : List K) → mul A (add A p q) r ≡ add A (mul A p r) (mul A q r)
  unfolding mul add
  add-mul [] q r = refl
  add-mul (a ∷ p) [] r = sym (add-nil A 𝓕 (mul A (a ∷ p) r))
  add-mul (a ∷ p) (b ∷ q) r =
      ap (λ (t : List K). add A t (𝟎 ∷ mul A (add A p q) r)) (plus-scale A 𝓕 a b r)
      ∙ spread (scale A a r) (scale A b r) (mul A p r) (mul A q r) _ (add-mul p q r)

  pub mul-add : (p q r : List K) → mul A p (add A q r) ≡ add A (mul A p q) (mul A p r)
  unfolding mul add
  mul-add [] q r = refl
  mul-add (a ∷ p) q r =
      ap (λ (t : List K). add A t (𝟎 ∷ mul A p (add A q r))) (scale-add A 𝓕 a q r)
      ∙ spread (scale A a q) (scale A a r) (mul A p q) (mul A p r) _ (mul-add p q r)

  shift_scale : (c : K) (u : List K) → scale A c (𝟎 ∷ u) ≡ 𝟎 ∷ scale A c u
  unfolding scale
  shift_scale c u = ap₂ ◌∷◌ (times_zero A 𝓕 c) refl

  pull : (a c : K) (q u v : List K) → v ≡ scale A c u
      → add A (scale A (c ⊗ a) q) (𝟎 ∷ v) ≡ scale A c (add A (scale A a q) (𝟎 ∷ u))
  pull a c q u v h = rw (h, scale-add A 𝓕 c, scale-scale A 𝓕 c a q, shift_scale)

  pub scale-mul : (c : K) (p q : List K) → mul A (scale A c p) q ≡ scale A c (mul A p q)
  unfolding mul scale
  scale-mul c [] q = refl
  scale-mul c (a ∷ p) q = pull a c q (mul A p q) _ (scale-mul c p q)

  pub mul-scale : (c : K) (p q : List K) → mul A p (scale A c q) ≡ scale A c (mul A p q)
  unfolding mul scale
  mul-scale c [] q = refl
  mul-scale c (a ∷ p) q =
      ap (λ (t : List K). add A t (𝟎 ∷ mul A p (scale A c q))) (scale-scale A 𝓕 a c q ∙ rw (times_comm A 𝓕 a c))
      ∙ pull a c q (mul A p q) _ (mul-scale c p q)

  pub const_mul : (c : K) (p : List K) → 0 < length p → mul A (c ∷ []) p ≡ scale A c p
  unfolding mul
  const_mul c p h = add_comm A 𝓕 (scale A c p) (𝟎 ∷ []) ∙ add-zero A 𝓕 (𝟎 ∷ []) (scale A c p) (refl, tt) (rw length-scale h)

  pub mul-const : (p : List K) (c : K) → mul A p (c ∷ []) ≡ scale A c p
  unfolding mul scale add
  mul-const [] c = refl
  mul-const (a ∷ p) c = ap₂ ◌∷◌ (plus-zero A 𝓕 (a ⊗ c) ∙ times_comm A 𝓕 a c) (mul-const p c)

  -- the product with b + x·q, where q is not empty
  pub mul-cons : (a : K) (p : List K) (b c : K) (q : List K)
      → mul A (a ∷ p) (b ∷ c ∷ q) ≡ add A (scale A b (a ∷ p)) (𝟎 ∷ mul A (a ∷ p) (c ∷ q))
  unfolding mul scale add
  mul-cons a [] b c q = ap₂ ◌∷◌ (rw (times_comm A 𝓕 a b)) (sym (ap₂ ◌∷◌ (plus-zero A 𝓕 (a ⊗ c)) (add-nil A 𝓕 (scale A a q))))
  mul-cons a (d ∷ p) b c q =
      let rest : List K = 𝟎 ∷ mul A (d ∷ p) (c ∷ q) in
      ap₂ ◌∷◌
      (rw (times_comm A 𝓕 a b))
      (ap (add A (scale A a (c ∷ q))) (mul-cons d p b c q) ∙ add_left_comm A 𝓕 (scale A a (c ∷ q)) (scale A b (d ∷ p)) rest)

  comm_step : (p : List K) (b c : K) (q : List K) → 0 < length p → mul A p (c ∷ q) ≡ mul A (c ∷ q) p
      → mul A p (b ∷ c ∷ q) ≡ mul A (b ∷ c ∷ q) p
  comm_step [] b c q h e = absurd (omega arith)
  comm_step (a ∷ p) b c q h e =
      mul-cons a p b c q
      ∙ ap (λ (t : List K). add A (scale A b (a ∷ p)) (𝟎 ∷ t)) e
      ∙ unfold mul in refl

  pub mul_comm : (p q : List K) → 0 < length p → 0 < length q → mul A p q ≡ mul A q p
  mul_comm p [] h k = absurd (omega arith)
  mul_comm p (b ∷ []) h k = mul-const p b ∙ sym (const_mul b p h)
  mul_comm p (b ∷ c ∷ q) h k = comm_step p b c q h (mul_comm p (c ∷ q) h (omega arith))

  drop-zeros : (s z t : List K) → Zero A z → length z ≤ length s → add A s (add A z t) ≡ add A s t
  drop-zeros s z t h l =
      add_left_comm A 𝓕 s z t
      ∙ sym (add_assoc A 𝓕 z s t)
      ∙ ap (λ (u : List K). add A u t) (add-zero A 𝓕 z s h l)

  pub length-mul-right : (q r : List K) → 0 < length q → length r ≤ length (mul A q r)
  unfolding mul
  length-mul-right [] r h = absurd (omega arith)
  length-mul-right (b ∷ q) r h = omega (arith, length-add A 𝓕 (scale A b r) (𝟎 ∷ mul A q r), length-scale A 𝓕 b r)

  pub mul_assoc : (p q r : List K) → 0 < length q → mul A (mul A p q) r ≡ mul A p (mul A q r)
  unfolding mul
  mul_assoc [] q r h = refl
  mul_assoc (a ∷ p) q r h =
      let rest : List K = mul A (mul A p q) r in
      let short : length (scale A 𝟎 r) ≤ length (scale A a (mul A q r)) = simp length-scale (length-mul-right q r h) in
      add-mul (scale A a q) (𝟎 ∷ mul A p q) r
      ∙ ap (λ (t : List K). add A t (add A (scale A 𝟎 r) (𝟎 ∷ rest))) (scale-mul a q r)
      ∙ drop-zeros (scale A a (mul A q r)) (scale A 𝟎 r) (𝟎 ∷ rest) (zero-scale A 𝓕 r) short
      ∙ ap (λ (t : List K). add A (scale A a (mul A q r)) (𝟎 ∷ t)) (mul_assoc p q r h)
