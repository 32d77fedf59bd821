-- A polynomial has no more roots than its degree, and what follows.
--
--   Mem x xs, Distinct xs    x is one of xs; no two of xs are equal
--   distinct-take, distinct-drop    parts of distinct points are distinct
--   Vanishes p xs   p is zero at every point of xs
--   roots           p with at most n coefficients that vanishes at n distinct points is zero
--   few_roots       p other than zero with at most t + 1 coefficients vanishes at t distinct points at most
--   interpolation   two polynomials with k coefficients and the same values at k or more distinct points are equal
--   zero_factor     a product is zero only if a factor is
--   mul-cancel      a factor other than zero can be taken away
-- Assumes nothing.
use mathlib.Core.Path.{◌≡◌, refl, sym, ap, ◌∙◌, subst}
use mathlib.Core.Logic.{◌⊎◌, inl, inr}
use mathlib.Core.List.{List, [], ◌∷◌}
use Prim.Native.Nat.{ℕ, zero, suc, ◌≤◌}
use native.Mathlib.Omega.{arith}
use native.Mathlib.Decide.{dec_le}
use lib.ListN.{length, take, drop}
use Rattle.field.specs.Arithmetic.{Arithmetic}
use Rattle.field.proofs.Laws.{Field}
use Rattle.poly.specs.Poly.{All, Zero, Poly, value, values_at, add, scale, mul}
use Rattle.poly.proofs.Forms.{lin}
use Rattle.poly.proofs.Ring.{zero_plus, plus-zero, plus_self, plus_apart, no_divisors}
use Rattle.poly.proofs.Sums.{length-add, symbols_add, zero-scale, zero_summand, same_of_sum, add-self}
use Rattle.poly.proofs.Products.{mul-cons, mul-add}
use Rattle.poly.proofs.Values.{value_in, value-add}
use Rattle.poly.proofs.Division.{quo, zero_lin, lin_quo, length_quo, symbols_quo, value_quo}

abbrev pub Mem : {K : Type 0} → K → List K → Type 0
Mem x [] = ⊥
Mem x (y ∷ xs) = (x ≡ y) ⊎ Mem x xs

abbrev pub Distinct : {K : Type 0} → List K → Type 0
Distinct [] = Unit {0}
Distinct (x ∷ xs) = ¬ Mem x xs × Distinct xs

mem_take : {K : Type 0} (n : ℕ) (xs : List K) (x : K) → Mem x (take n xs) → Mem x xs
mem_take {K = K} zero xs x x3 = elim x3 [ ]
mem_take {K = K} (suc n) [] x x6 = elim x6 [ ]
mem_take (suc n) (a ∷ xs) x (inl e) = inl e
mem_take (suc n) (a ∷ xs) x (inr m) = inr (mem_take n xs x m)

pub distinct-take : {K : Type 0} (n : ℕ) (xs : List K) → Distinct xs → Distinct (take n xs)
distinct-take zero xs d = tt
distinct-take (suc n) [] d = tt
distinct-take (suc n) (x ∷ xs) d = (λ m. d.0 (mem_take n xs x m), distinct-take n xs d.1)

pub distinct-drop : {K : Type 0} (n : ℕ) (xs : List K) → Distinct xs → Distinct (drop n xs)
distinct-drop zero xs d = d
distinct-drop (suc n) [] d = d
distinct-drop (suc n) (x ∷ xs) d = distinct-drop n xs d.1

module _ {K : Type 0} (A : Arithmetic K) where
  abbrev pub Vanishes : List K → List K → Type 0
  Vanishes p xs = All (λ (x : K). value A p x ≡ A.zero) xs

module _ {K : Type 0} (A : Arithmetic K) (𝓕 : Field A) where
  infixl 65 ◌⊕◌
  infixl 70 ◌⊗◌
  open A use {In, zero as 𝟎, plus as ◌⊕◌, times as ◌⊗◌}

  root_quo : (a : K) (p : List K) (x : K) → In a → In x → All In p → ¬ (a ≡ x) → value A p a ≡ 𝟎 → value A p x ≡ 𝟎
      → value A (quo A a p) x ≡ 𝟎
  root_quo a p x i j s h r₁ r₂ =
      let v : K = value A (quo A a p) x in
      let product : (x ⊕ a) ⊗ v ≡ 𝟎 = sym (value_quo A 𝓕 a p x ∙ rw r₁ (zero_plus A 𝓕 ((x ⊕ a) ⊗ v))) ∙ r₂ in
      let symbol : In v = value_in A 𝓕 (quo A a p) x (symbols_quo A 𝓕 a p s) in
      no_divisors A 𝓕 (𝓕.plus_in x a j i) symbol (plus_apart A 𝓕 (λ e. h (sym e))) product

  -- if p vanishes at a and at other points, its quotient by x − a vanishes at the others
  pub vanishes_quo : (a : K) (p xs : List K) → In a → All In p → All In xs → ¬ Mem a xs → value A p a ≡ 𝟎 → Vanishes A p xs
      → Vanishes A (quo A a p) xs
  vanishes_quo a p [] i s j h r v = tt
  vanishes_quo a p (x ∷ xs) i s j h r v = (
    root_quo a p x i j.0 s (λ e. h (inl e)) r v.0,
    vanishes_quo a p xs i s j.1 (λ m. h (inr m)) r v.1,
  )

  pub factor : (a c : K) (p : List K) → value A (c ∷ p) a ≡ 𝟎 → lin A a 𝟎 (quo A a (c ∷ p)) ≡ c ∷ p
  factor a c p r = ap (λ (t : K). lin A a t (quo A a (c ∷ p))) (sym r) ∙ lin_quo A 𝓕 a c p

  pub roots : (xs p : List K) → Distinct xs → All In xs → All In p → length p ≤ length xs → Vanishes A p xs → Zero A p
  roots [] [] d i s l v = tt
  roots [] (c ∷ p) d i s l v = absurd (omega arith)
  roots (a ∷ xs) [] d i s l v = tt
  roots (a ∷ xs) (c ∷ p) d i s l v =
      let q : List K = quo A a (c ∷ p) in
      let v' : Vanishes A q xs = vanishes_quo a (c ∷ p) xs i.0 s i.1 d.0 v.0 v.1 in
      let s' : All In q = symbols_quo A 𝓕 a (c ∷ p) s in
      let z : Zero A q = roots xs q d.1 i.1 s' (omega (arith, length_quo A 𝓕 a c p)) v' in
      subst (Zero A) (factor a c p v.0) (zero_lin A 𝓕 a 𝟎 q refl z)

  pub few_roots : (p xs : List K) {t : ℕ} → ¬ Zero A p → length p ≤ suc t → Distinct xs → All In xs → All In p → Vanishes A p xs
      → length xs ≤ t
  few_roots p xs {t} z l d i s v = go (dec_le (length xs) t)
    where
      go : Dec (length xs ≤ t) → length xs ≤ t
      go (yes h) = h
      go (no h) = absurd (z (roots xs p d i s (omega arith) v))

  vanishes_add : (p q xs : List K) → values_at A xs p ≡ values_at A xs q → Vanishes A (add A p q) xs
  unfolding values_at
  vanishes_add p q [] e = tt
  vanishes_add p q (x ∷ xs) e =
      let here : value A p x ≡ value A q x = cc in
      (value-add A 𝓕 p q x ∙ rw here (plus_self A 𝓕 (value A q x)), vanishes_add p q xs (cc))

  pub interpolation : (xs : List K) {k : ℕ} {p q : List K} → Distinct xs → All In xs → k ≤ length xs → Poly A k p → Poly A k q
      → values_at A xs p ≡ values_at A xs q → p ≡ q
  interpolation xs {k} {p} {q} d i l h g e =
      let s : All In (add A p q) = symbols_add A 𝓕 p q h.symbols g.symbols in
      let short : length (add A p q) ≤ length xs = omega (arith, length-add A 𝓕 p q) in
      same_of_sum A 𝓕 p q (omega arith) (roots xs (add A p q) d i s short (vanishes_add p q xs e))

  zero-head : (a : K) (p : List K) (b : K) (q : List K) → In a → In b → ¬ (a ≡ 𝟎) → Zero A (mul A (a ∷ p) (b ∷ q)) → b ≡ 𝟎
  unfolding mul scale add
  zero-head a p b q i j h z = no_divisors A 𝓕 i j h (sym (plus-zero A 𝓕 (a ⊗ b)) ∙ z.0)

  -- a product whose first factor begins with a symbol other than zero is zero only if the second factor is
  zero-second : (a : K) (p : List K) (b : K) (q : List K) → In a → All In (b ∷ q) → ¬ (a ≡ 𝟎) → Zero A (mul A (a ∷ p) (b ∷ q))
      → Zero A (b ∷ q)
  zero-second a p b [] i s h z = (zero-head a p b [] i s.0 h z, tt)
  zero-second a p b (c ∷ q) i s h z =
      let e : b ≡ 𝟎 = zero-head a p b (c ∷ q) i s.0 h z in
      let zeros : Zero A (scale A b (a ∷ p)) = rw e (zero-scale A 𝓕 (a ∷ p)) in
      let sum = subst (Zero A) (mul-cons A 𝓕 a p b c q) z in
      let z' = zero_summand A 𝓕 (scale A b (a ∷ p)) (𝟎 ∷ mul A (a ∷ p) (c ∷ q)) zeros sum in
      (e, zero-second a p c q i s.1 h z'.1)

  zero_rest : (a : K) (p q : List K) → a ≡ 𝟎 → Zero A (mul A (a ∷ p) q) → Zero A (mul A p q)
  unfolding mul
  zero_rest a p q e z = (zero_summand A 𝓕 (scale A a q) (𝟎 ∷ mul A p q) (rw e (zero-scale A 𝓕 q)) z).1

  pub zero_factor : (p q : List K) → All In p → All In q → Zero A (mul A p q) → Zero A p ⊎ Zero A q
  zero_factor [] q i j z = inl tt
  zero_factor (a ∷ p) [] i j z = inr tt
  zero_factor (a ∷ p) (b ∷ q) i j z = go (𝓕.same a 𝟎) (zero_factor p (b ∷ q) i.1 j)
    where
      first : a ≡ 𝟎 → Zero A p ⊎ Zero A (b ∷ q) → Zero A (a ∷ p) ⊎ Zero A (b ∷ q)
      first e (inl h) = inl (e, h)
      first e (inr h) = inr h

      go : Dec (a ≡ 𝟎) → (Zero A (mul A p (b ∷ q)) → Zero A p ⊎ Zero A (b ∷ q)) → Zero A (a ∷ p) ⊎ Zero A (b ∷ q)
      go (yes e) f = first e (f (zero_rest a p (b ∷ q) e z))
      go (no h) f = inr (zero-second a p b q i.0 j h z)

  pub mul-cancel : (e p q : List K) → ¬ Zero A e → All In e → All In p → All In q → length p ≡ length q → mul A e p ≡ mul A e q
      → p ≡ q
  mul-cancel e p q n i j k l h =
      let zeros : Zero A (mul A e (add A p q)) = rw (mul-add A 𝓕 e p q, h) (add-self A 𝓕 (mul A e q)) in
      same_of_sum A 𝓕 p q l (go (zero_factor e (add A p q) i (symbols_add A 𝓕 p q j k) zeros))
    where
      go : Zero A e ⊎ Zero A (add A p q) → Zero A (add A p q)
      go (inl z) = absurd (n z)
      go (inr z) = z
