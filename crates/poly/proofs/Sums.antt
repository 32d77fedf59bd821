-- Sums and multiples of lists of coefficients, and lists of zeros.
--
--   sums            add_comm, add_assoc, add_left_comm: reorders sums
--   add-nil, add-zero    what adding nothing, or zeros, leaves
--   scale-add, plus-scale, scale-scale    multiples of sums and of multiples
--   same_of_sum     two lists of one length whose sum is zero are equal
--   is_zero         whether a list is zero can be decided
--   length-…, symbols-…, zero-…    of sums and multiples: how long, of symbols, all zero
-- Assumes nothing.
use mathlib.Core.Path.{◌≡◌, refl, sym, ap, ap₂, ◌∙◌}
use mathlib.Core.List.{List, [], ◌∷◌}
use Prim.Native.Nat.{ℕ, suc, ◌≤◌, max}
use native.Mathlib.Omega.{arith}
use lib.ListN.{length}
use Rattle.field.specs.Arithmetic.{Arithmetic}
use Rattle.field.proofs.Laws.{Field}
use Rattle.poly.specs.Poly.{All, Zero, Poly, add, scale}
use Rattle.poly.proofs.Ring.{plus_comm, plus_assoc, zero_plus, plus_self, plus_times, times_plus}
use Rattle.poly.proofs.Ring.{times_assoc, zero-times, times_zero, plus_cancel, one_times}

module _ {K : Type 0} (A : Arithmetic K) (𝓕 : Field A) where
  infixl 65 ◌⊕◌
  infixl 70 ◌⊗◌
  open A use {In, zero as 𝟎, one as 𝟏, plus as ◌⊕◌, times as ◌⊗◌}

  pub length-add : (p q : List K) → length (add A p q) ≡ max (length p) (length q)
  unfolding add
  length-add [] q = omega arith
  length-add (a ∷ p) [] = omega arith
  length-add (a ∷ p) (b ∷ q) = omega (arith, length-add p q)

  pub length-scale : (c : K) (p : List K) → length (scale A c p) ≡ length p
  unfolding scale
  length-scale c [] = refl
  length-scale c (a ∷ p) = ap suc (length-scale c p)

  pub symbols_add : (p q : List K) → All In p → All In q → All In (add A p q)
  unfolding add
  symbols_add [] q h k = k
  symbols_add (a ∷ p) [] h k = h
  symbols_add (a ∷ p) (b ∷ q) h k = (𝓕.plus_in a b h.0 k.0, symbols_add p q h.1 k.1)

  pub symbols_scale : (c : K) (p : List K) → All In (scale A c p)
  unfolding scale
  symbols_scale c [] = tt
  symbols_scale c (a ∷ p) = (𝓕.times_in c a, symbols_scale c p)

  pub add-nil : (p : List K) → add A p [] ≡ p
  unfolding add
  add-nil [] = refl
  add-nil (a ∷ p) = refl

  pub add_comm : (p q : List K) → add A p q ≡ add A q p
  unfolding add
  add_comm [] q = sym (add-nil q)
  add_comm (a ∷ p) [] = refl
  add_comm (a ∷ p) (b ∷ q) = ap₂ ◌∷◌ (plus_comm A 𝓕 a b) (add_comm p q)

  pub add_assoc : (p q r : List K) → add A (add A p q) r ≡ add A p (add A q r)
  unfolding add
  add_assoc [] q r = refl
  add_assoc (a ∷ p) [] r = refl
  add_assoc (a ∷ p) (b ∷ q) [] = refl
  add_assoc (a ∷ p) (b ∷ q) (c ∷ r) = ap₂ ◌∷◌ (plus_assoc A 𝓕 a b c) (add_assoc p q r)

  pub add_left_comm : (p q r : List K) → add A p (add A q r) ≡ add A q (add A p r)
  add_left_comm p q r = sym (add_assoc p q r) ∙ ap (λ (t : List K). add A t r) (add_comm p q) ∙ add_assoc q p r

  pub ruleset sums = (add_comm, add_assoc, add_left_comm)

  pub scale-add : (c : K) (p q : List K) → scale A c (add A p q) ≡ add A (scale A c p) (scale A c q)
  unfolding add scale
  scale-add c [] q = refl
  scale-add c (a ∷ p) [] = refl
  scale-add c (a ∷ p) (b ∷ q) = ap₂ ◌∷◌ (times_plus A 𝓕 c a b) (scale-add c p q)

  pub plus-scale : (a b : K) (p : List K) → scale A (a ⊕ b) p ≡ add A (scale A a p) (scale A b p)
  unfolding add scale
  plus-scale a b [] = refl
  plus-scale a b (c ∷ p) = ap₂ ◌∷◌ (plus_times A 𝓕 a b c) (plus-scale a b p)

  pub scale-scale : (a b : K) (p : List K) → scale A a (scale A b p) ≡ scale A (a ⊗ b) p
  unfolding scale
  scale-scale a b [] = refl
  scale-scale a b (c ∷ p) = ap₂ ◌∷◌ (sym (times_assoc A 𝓕 a b c)) (scale-scale a b p)

  pub scale_one : (p : List K) → All In p → scale A 𝟏 p ≡ p
  unfolding scale
  scale_one [] h = refl
  scale_one (a ∷ p) h = ap₂ ◌∷◌ (one_times A 𝓕 h.0) (scale_one p h.1)

  pub zero-scale : (p : List K) → Zero A (scale A 𝟎 p)
  unfolding scale
  zero-scale [] = tt
  zero-scale (a ∷ p) = (zero-times A 𝓕 a, zero-scale p)

  pub scale-zero : (c : K) (p : List K) → Zero A p → Zero A (scale A c p)
  unfolding scale
  scale-zero c [] h = tt
  scale-zero c (a ∷ p) h = (rw h.0 (times_zero A 𝓕 c), scale-zero c p h.1)

  pub add-self : (p : List K) → Zero A (add A p p)
  unfolding add
  add-self [] = tt
  add-self (a ∷ p) = (plus_self A 𝓕 a, add-self p)

  pub add-zero : (z p : List K) → Zero A z → length z ≤ length p → add A z p ≡ p
  unfolding add
  add-zero [] p h l = refl
  add-zero (c ∷ z) [] h l = absurd (omega arith)
  add-zero (c ∷ z) (a ∷ p) h l = ap₂ ◌∷◌ (rw h.0 (zero_plus A 𝓕 a)) (add-zero z p h.1 (omega arith))

  pub zero_summand : (z p : List K) → Zero A z → Zero A (add A z p) → Zero A p
  unfolding add
  zero_summand [] p h s = s
  zero_summand (c ∷ z) [] h s = tt
  zero_summand (c ∷ z) (a ∷ p) h s = (sym (plus_cancel A 𝓕 s.0) ∙ h.0, zero_summand z p h.1 s.1)

  pub same_of_sum : (p q : List K) → length p ≡ length q → Zero A (add A p q) → p ≡ q
  unfolding add
  same_of_sum [] [] l h = refl
  same_of_sum [] (b ∷ q) l h = absurd (omega arith)
  same_of_sum (a ∷ p) [] l h = absurd (omega arith)
  same_of_sum (a ∷ p) (b ∷ q) l h = ap₂ ◌∷◌ (plus_cancel A 𝓕 h.0) (same_of_sum p q (omega arith) h.1)

  cons-zero : (a : K) (p : List K) → Dec (a ≡ 𝟎) → Dec (Zero A p) → Dec (Zero A (a ∷ p))
  cons-zero a p (yes h) (yes k) = yes (h, k)
  cons-zero a p (yes h) (no k) = no (λ z. k z.1)
  cons-zero a p (no h) d = no (λ z. h z.0)

  pub is_zero : (p : List K) → Dec (Zero A p)
  is_zero [] = yes tt
  is_zero (a ∷ p) = cons-zero a p (𝓕.same a 𝟎) (is_zero p)

  pub poly_add-scale : {m : ℕ} {p : List K} (c : K) (q : List K) → Poly A m p → length q ≤ m → Poly A m (add A p (scale A c q))
  poly_add-scale {m} {p} c q h l = record {
    count = omega (arith, h.count, length-add p (scale A c q), length-scale c q);
    symbols = symbols_add p (scale A c q) h.symbols (symbols_scale c q);
  }
