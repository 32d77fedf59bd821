-- What is kept of a line, as one list: the values at the conditions still to come, and the locator behind them.
--
--   behind         what stands behind the values
--   later_at, later_length, later_all    without the value at the condition at hand
--   mix_append, mix_length     p + c·q of two lists behind one another
--   lin_mix                    (x − a)·q, with c added, as p + a·q
--   lifted_at, lifted_length, lifted_in  the values of (x + a) times a line
-- Assumes nothing.
use mathlib.Core.Path.{◌≡◌, refl, ap, ◌∙◌}
use mathlib.Core.List.{List, [], ◌∷◌, ◌++◌}
use Prim.Native.Nat.{ℕ, zero, suc, ◌+◌, ◌<◌}
use native.Mathlib.Nat.{suc_inj}
use native.Mathlib.Omega.{arith}
use lib.ListN.{length, get_or}
use lib.Seq.{get_or-append-add}
use Rattle.field.specs.Arithmetic.{Arithmetic}
use Rattle.field.proofs.Laws.{Field}
use Rattle.poly.specs.Poly.{All, add, scale}
use Rattle.poly.proofs.Forms.{lin}
use Rattle.basis.proofs.Vector.{mix}
use Rattle.basis.proofs.Lines.{later, lifted}

module _ {K : Type 0} where
  pub behind : (z : K) (us p : List K) (n k : ℕ) → k ≡ length us + n → get_or (us ++ p) k z ≡ get_or p n z
  behind z us p n k e = ap (λ (x : ℕ). get_or (us ++ p) x z) e ∙ get_or-append-add us p n z

  pub later_at : (z : K) (us p : List K) → 0 < length us → (k : ℕ) → get_or (later us ++ p) k z ≡ get_or (us ++ p) (suc k) z
  later_at z [] p h k = absurd (omega arith)
  later_at z (u ∷ us) p h k = refl

  pub later_length : (us : List K) → 0 < length us → suc (length (later us)) ≡ length us
  later_length [] h = absurd (omega arith)
  later_length (u ∷ us) h = refl

  pub later_all : (P : K → Type 0) (us p : List K) → 0 < length us → All P (us ++ p) → All P (later us ++ p)
  later_all P [] p h a = a
  later_all P (u ∷ us) p h a = a.1

module _ {K : Type 0} (A : Arithmetic K) where
  pub mix_append : (c : K) (p p' q q' : List K) → length p ≡ length p' → mix A c p p' ++ mix A c q q' ≡ mix A c (p ++ q) (p' ++ q')
  unfolding mix add scale
  mix_append c [] [] q q' e = refl
  mix_append c [] (b ∷ p') q q' e = absurd (omega arith)
  mix_append c (a ∷ p) [] q q' e = absurd (omega arith)
  mix_append c (a ∷ p) (b ∷ p') q q' e = ap (λ (l : List K). A.plus a (A.times c b) ∷ l) (mix_append c p p' q q' (suc_inj e))

  pub mix_length : (c : K) (p q : List K) → length p ≡ length q → length (mix A c p q) ≡ length p
  unfolding mix add scale
  mix_length c [] [] e = refl
  mix_length c [] (b ∷ q) e = absurd (omega arith)
  mix_length c (a ∷ p) [] e = refl
  mix_length c (a ∷ p) (b ∷ q) e = ap suc (mix_length c p q (suc_inj e))

  pub lin_mix : (a c : K) (q : List K) → lin A a c q ≡ mix A a (c ∷ q) q
  unfolding lin mix add scale
  lin_mix a c [] = refl
  lin_mix a c (b ∷ q) = ap (λ (l : List K). A.plus c (A.times a b) ∷ l) (lin_mix a b q)

  pub lifted_at : (a : K) (xs us : List K) → length xs ≡ length us → (k : ℕ) → k < length xs
      → get_or (lifted A a xs us) k A.zero ≡ A.times (A.plus (get_or xs k A.zero) a) (get_or us k A.zero)
  unfolding lifted
  lifted_at a [] us e k lt = absurd (omega arith)
  lifted_at a (x ∷ xs) [] e k lt = absurd (omega arith)
  lifted_at a (x ∷ xs) (u ∷ us) e zero lt = refl
  lifted_at a (x ∷ xs) (u ∷ us) e (suc k) lt = lifted_at a xs us (suc_inj e) k (omega arith)

  pub lifted_length : (a : K) (xs us : List K) → length xs ≡ length us → length (lifted A a xs us) ≡ length us
  unfolding lifted
  lifted_length a [] us e = e
  lifted_length a (x ∷ xs) [] e = refl
  lifted_length a (x ∷ xs) (u ∷ us) e = ap suc (lifted_length a xs us (suc_inj e))

  pub lifted_in : Field A → (a : K) (xs us : List K) → All A.In (lifted A a xs us)
  unfolding lifted
  lifted_in 𝓕 a [] us = tt
  lifted_in 𝓕 a (x ∷ xs) [] = tt
  lifted_in 𝓕 a (x ∷ xs) (u ∷ us) = (𝓕.times_in (A.plus x a) u, lifted_in 𝓕 a xs us)
