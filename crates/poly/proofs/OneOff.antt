-- One column off a row: divided differences turn a problem at n points into one at n − 1 points, with the same E.
--
--   Fitting m xs ys E   some N with m coefficients fits
--   Above x₀ y₀ E N N'  N has the values of (x − x₀)·N' + y₀·E
--   fits_apart          then N fits exactly when N' fits the divided differences
--   one_off             m + 1 coefficients fit at x₀ and xs exactly when m fit the divided differences at xs
--   rounds_off          k + t coefficients fit exactly when t fit what k rounds of divided differences leave
--   fits_one            with E = 1, to fit is to have the values ys
--   row_exactly         a row is that of a polynomial with k coefficients exactly when k rounds leave zeros
-- Assumes nothing.
use mathlib.Core.Path.{◌≡◌, refl, sym, ap, ap₂, ◌∙◌}
use mathlib.Core.Logic.Iff
use mathlib.Core.Logic.{inl, inr, ◌↔◌}
use mathlib.Core.List.{List, [], ◌∷◌}
use Prim.Native.Nat.{ℕ, zero, suc, ◌+◌, ◌≤◌}
use native.Mathlib.Nat.{zero-add, suc-add, add-zero}
use native.Mathlib.Omega.{arith}
use lib.ListN.{length, drop}
use Rattle.field.specs.Arithmetic.{Arithmetic}
use Rattle.field.proofs.Laws.{Field}
use Rattle.poly.specs.Poly.{All, Zero, Poly, value, values_at, add, scale, Fits}
use Rattle.poly.proofs.Forms.{lin, apart, reduce}
use Rattle.poly.proofs.Ring.{ring, zero_plus, plus_self, plus_twice, plus_apart, times_cancel, times-over, times_one}
use Rattle.poly.proofs.Sums.{poly_add-scale}
use Rattle.poly.proofs.Values.{value_in, value-add-scale, value_const, values_nil}
use Rattle.poly.proofs.Division.{quo, poly_lin, value_lin, poly_quo, value_quo}
use Rattle.poly.proofs.Roots.{Mem, Distinct}
use Rattle.poly.proofs.Differences.{length_apart, symbols_apart, length-left, symbols_left}

module _ {K : Type 0} (A : Arithmetic K) where
  abbrev pub Fitting : ℕ → List K → List K → List K → Type 0
  Fitting m xs ys E = (N : List K) × Poly A m N × Fits A xs ys E N

  abbrev pub Above : K → K → List K → List K → List K → Type 0
  Above x₀ y₀ E N N' =
      (x : K) → value A N x ≡ A.plus (A.times (A.plus x x₀) (value A N' x)) (A.times y₀ (value A E x))

module _ {K : Type 0} (A : Arithmetic K) (𝓕 : Field A) where
  infixl 65 ◌⊕◌
  infixl 70 ◌⊗◌ ◌⊘◌
  open A use {In, zero as 𝟎, one as 𝟏, plus as ◌⊕◌, times as ◌⊗◌, over as ◌⊘◌}

  off_step : (y y₀ e s : K) → s ⊕ y₀ ⊗ e ≡ y ⊗ e → s ≡ (y ⊕ y₀) ⊗ e
  off_step y y₀ e s h = sym (plus_twice A 𝓕 s (y₀ ⊗ e)) ∙ ap (λ (t : K). t ⊕ y₀ ⊗ e) h ∙ simp ring

  on_step : (y y₀ e s : K) → s ≡ (y ⊕ y₀) ⊗ e → s ⊕ y₀ ⊗ e ≡ y ⊗ e
  on_step y y₀ e s h = rw h (simp ring)

  point : {x₀ y₀ x y n n' : K} (e : K) → In x₀ → In y₀ → In x → In y → In n' → ¬ (x₀ ≡ x)
      → n ≡ (x ⊕ x₀) ⊗ n' ⊕ y₀ ⊗ e → (n ≡ y ⊗ e) ↔ (n' ≡ (y ⊕ y₀) ⊘ (x ⊕ x₀) ⊗ e)
  point {x₀} {y₀} {x} {y} {n} {n'} e i₀ j₀ i j s h a =
      let b : In (x ⊕ x₀) = 𝓕.plus_in x x₀ i i₀ in
      let d≠0 : ¬ (x ⊕ x₀ ≡ 𝟎) = plus_apart A 𝓕 (λ e. h (sym e)) in
      let undo : (x ⊕ x₀) ⊗ ((y ⊕ y₀) ⊘ (x ⊕ x₀) ⊗ e) ≡ (y ⊕ y₀) ⊗ e = times-over A 𝓕 e (𝓕.plus_in y y₀ j j₀) b d≠0 in (
        λ f. times_cancel A 𝓕 b s (𝓕.times_in _ e) d≠0 (off_step y y₀ e ((x ⊕ x₀) ⊗ n') (sym a ∙ f) ∙ sym undo),
        λ f. a ∙ on_step y y₀ e ((x ⊕ x₀) ⊗ n') (ap (◌⊗◌ (x ⊕ x₀)) f ∙ undo),
      )

  pub fits_apart : (x₀ y₀ : K) (E N N' xs ys : List K) → In x₀ → In y₀ → All In N' → Above A x₀ y₀ E N N'
      → All In xs → All In ys → ¬ Mem x₀ xs → Fits A xs ys E N ↔ Fits A xs (apart A x₀ y₀ xs ys) E N'
  unfolding apart
  fits_apart x₀ y₀ E N N' [] ys i₀ j₀ s a i j h = (λ f. f, λ f. f)
  fits_apart x₀ y₀ E N N' (x ∷ xs) [] i₀ j₀ s a i j h = (λ f. f, λ f. f)
  fits_apart x₀ y₀ E N N' (x ∷ xs) (y ∷ ys) i₀ j₀ s a i j h =
      let here = point (value A E x) i₀ j₀ i.0 j.0 (value_in A 𝓕 N' x s) (λ e. h (inl e)) (a x) in
      let rest = fits_apart x₀ y₀ E N N' xs ys i₀ j₀ s a i.1 j.1 (λ m. h (inr m)) in
      (λ f. (here.0 f.0, rest.0 f.1), λ f. (here.1 f.0, rest.1 f.1))

  above_quo : (x₀ y₀ : K) (E N : List K) → value A N x₀ ≡ y₀ ⊗ value A E x₀
      → Above A x₀ y₀ E N (quo A x₀ (add A N (scale A y₀ E)))
  above_quo x₀ y₀ E N f₀ x =
      let D : List K = add A N (scale A y₀ E) in
      let root : value A D x₀ ≡ 𝟎 = value-add-scale A 𝓕 N y₀ E x₀ ∙ rw f₀ (plus_self A 𝓕 _) in
      step (value A D x) (value A D x₀) _ _ _ root (value-add-scale A 𝓕 N y₀ E x) (value_quo A 𝓕 x₀ D x)
    where
      step : (v v₀ n t s : K) → v₀ ≡ 𝟎 → v ≡ n ⊕ t → v ≡ v₀ ⊕ s → n ≡ s ⊕ t
      step v v₀ n t s r h k = sym (plus_twice A 𝓕 n t) ∙ ap (λ (u : K). u ⊕ t) (sym h ∙ k ∙ rw r (zero_plus A 𝓕 s))

  above_lin : (x₀ y₀ : K) (E N' : List K) → Above A x₀ y₀ E (add A (lin A x₀ 𝟎 N') (scale A y₀ E)) N'
  above_lin x₀ y₀ E N' x = value-add-scale A 𝓕 (lin A x₀ 𝟎 N') y₀ E x ∙ rw (value_lin A 𝓕 x₀ 𝟎 N' x, zero_plus)

  above_first : (x₀ y₀ : K) (E N N' : List K) → Above A x₀ y₀ E N N' → value A N x₀ ≡ y₀ ⊗ value A E x₀
  above_first x₀ y₀ E N N' a = a x₀ ∙ simp ring

  pub one_off : (x₀ y₀ : K) (xs ys E : List K) {m : ℕ} → Distinct (x₀ ∷ xs) → All In (x₀ ∷ xs) → All In (y₀ ∷ ys)
      → length E ≤ suc m → Fitting A (suc m) (x₀ ∷ xs) (y₀ ∷ ys) E ↔ Fitting A m xs (apart A x₀ y₀ xs ys) E
  one_off x₀ y₀ xs ys E {m} d i j l = (off, on)
    where
      fits : (N N' : List K) → All In N' → Above A x₀ y₀ E N N' → Fits A xs ys E N ↔ Fits A xs (apart A x₀ y₀ xs ys) E N'
      fits N N' s a = fits_apart x₀ y₀ E N N' xs ys i.0 j.0 s a i.1 j.1 d.0

      off : Fitting A (suc m) (x₀ ∷ xs) (y₀ ∷ ys) E → Fitting A m xs (apart A x₀ y₀ xs ys) E
      off (N, h, f) =
          let p = poly_quo A 𝓕 x₀ (add A N (scale A y₀ E)) (poly_add-scale A 𝓕 y₀ E h l) in
          (quo A x₀ (add A N (scale A y₀ E)), p, (fits N _ p.symbols (above_quo x₀ y₀ E N f.0)).0 f.1)

      on : Fitting A m xs (apart A x₀ y₀ xs ys) E → Fitting A (suc m) (x₀ ∷ xs) (y₀ ∷ ys) E
      on (N', h, f) =
          let N : List K = add A (lin A x₀ 𝟎 N') (scale A y₀ E) in
          let a : Above A x₀ y₀ E N N' = above_lin x₀ y₀ E N' in
          (N, poly_add-scale A 𝓕 y₀ E (poly_lin A 𝓕 x₀ 𝟎 𝓕.zero_in h) l, (above_first x₀ y₀ E N N' a, (fits N N' h.symbols a).1 f))

  pub rounds_off : (k : ℕ) (xs ys E : List K) {t : ℕ} → Distinct xs → All In xs → All In ys
      → length ys ≡ length xs → k ≤ length xs → length E ≤ suc t
      → Fitting A (k + t) xs ys E ↔ Fitting A t (drop k xs) (drop k (reduce A k xs ys)) E
  unfolding reduce
  rounds_off zero xs ys E {t} d i j l h e = rw zero-add (λ f. f, λ f. f)
  rounds_off (suc k) [] ys E {t} d i j l h e = absurd (omega arith)
  rounds_off (suc k) (x ∷ xs) [] E {t} d i j l h e = absurd (omega arith)
  rounds_off (suc k) (x ∷ xs) (y ∷ ys) E {t} d i j l h e =
      let zs : List K = apart A x y xs ys in
      let l' : length zs ≡ length xs = length_apart A 𝓕 x y xs ys (omega arith) in
      let rest = rounds_off k xs zs E d.1 i.1 (symbols_apart A 𝓕 x y xs ys) l' (omega arith) e in
      rw suc-add (Iff.trans (one_off x y xs ys E d i j (omega arith)) rest)

  pub fits_one : (xs ys N : List K) → All In ys → length ys ≡ length xs → Fits A xs ys (𝟏 ∷ []) N ↔ (values_at A xs N ≡ ys)
  unfolding values_at
  fits_one [] [] N j l = (λ f. refl, λ e. tt)
  fits_one [] (y ∷ ys) N j l = absurd (omega arith)
  fits_one (x ∷ xs) [] N j l = absurd (omega arith)
  fits_one (x ∷ xs) (y ∷ ys) N j l =
      let unit : y ⊗ value A (𝟏 ∷ []) x ≡ y = ap (◌⊗◌ y) (value_const A 𝓕 𝟏 x) ∙ times_one A 𝓕 j.0 in
      let rest = fits_one xs ys N j.1 (omega arith) in
      (λ f. ap₂ ◌∷◌ (f.0 ∙ unit) (rest.0 f.1), λ e. (cc, rest.1 (cc)))

  fitting_none : (xs ys : List K) → All In ys → length ys ≡ length xs → Fitting A 0 xs ys (𝟏 ∷ []) ↔ Zero A ys
  fitting_none xs ys j l = (to, from)
    where
      nil : Fits A xs ys (𝟏 ∷ []) [] ↔ Zero A ys
      nil = Iff.trans (fits_one xs ys [] j l) (values_nil A 𝓕 xs ys l)

      to : Fitting A 0 xs ys (𝟏 ∷ []) → Zero A ys
      to ([], h, f) = nil.0 f
      to (c ∷ N, h, f) = absurd (omega (arith, h.count))

      from : Zero A ys → Fitting A 0 xs ys (𝟏 ∷ [])
      from z = ([], record { count = refl; symbols = tt }, nil.1 z)

  pub row_exactly : (k : ℕ) (xs ys : List K) → Distinct xs → All In xs → All In ys
      → length ys ≡ length xs → k ≤ length xs
      → ((f : List K) × Poly A k f × (values_at A xs f ≡ ys)) ↔ Zero A (drop k (reduce A k xs ys))
  row_exactly k xs ys d i j l h = (λ (f, p, e). exact.0 (f, p, (fits f).1 e), λ z. from (exact.1 z))
    where
      fits : (f : List K) → Fits A xs ys (𝟏 ∷ []) f ↔ (values_at A xs f ≡ ys)
      fits f = fits_one xs ys f j l

      exact : Fitting A k xs ys (𝟏 ∷ []) ↔ Zero A (drop k (reduce A k xs ys))
      exact = Iff.trans
          (rw (add-zero k) at (rounds_off k xs ys (𝟏 ∷ []) {t = 0} d i j l h (omega arith)))
          (fitting_none (drop k xs) (drop k (reduce A k xs ys)) (symbols_left A 𝓕 k xs ys j) (length-left A 𝓕 k xs ys l))

      from : Fitting A k xs ys (𝟏 ∷ []) → (f : List K) × Poly A k f × (values_at A xs f ≡ ys)
      from (f, p, e) = (f, p, (fits f).0 e)
