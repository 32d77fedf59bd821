-- One row of a locator: a polynomial N with N(x) = y·E(x) at every point x, y being the received symbol there.
--
--   fits_unique     E determines N, if N has no more coefficients than there are points
--   fits_zero       where E is zero, so is N
--   fits_vanishes   N vanishes at every point at which E does
--   fits_product    E times f fits exactly when every received symbol is the value of f or stands at a root of E
--   fits_shared     if E times f fits, any other F fits with F times f alone, if there are points enough
--   row_quotient    N that vanishes at as many points as E has roots is the product of E and a polynomial with k coefficients
-- Assumes nothing.
use mathlib.Core.Path.{◌≡◌, refl, sym, ap, ap₂, ◌∙◌}
use mathlib.Core.Logic.Iff
use mathlib.Core.Logic.{◌↔◌, ◌⊎◌, inl, inr}
use mathlib.Core.List.{List, [], ◌∷◌}
use Prim.Native.Nat.{ℕ, zero, suc, ◌+◌, ◌≤◌, ◌<◌}
use native.Mathlib.Omega.{arith}
use lib.ListN.{length, get_or}
use Rattle.field.specs.Arithmetic.{Arithmetic}
use Rattle.field.proofs.Laws.{Field}
use Rattle.poly.specs.Poly.{All, Zero, Poly, value, values_at, scale, mul, Fits}
use Rattle.poly.proofs.Ring.{ring, times_comm, times_zero, zero-times, times_cancel, over_times}
use Rattle.poly.proofs.Sums.{length-scale, symbols_scale, scale-scale, scale_one}
use Rattle.poly.proofs.Products.{length-mul, symbols_mul, scale-mul, mul-scale}
use Rattle.poly.proofs.Values.{value_in, value-zero, value-mul}
use Rattle.poly.proofs.Roots.{Mem, Distinct, Vanishes, roots, interpolation, mul-cancel}
use Rattle.poly.proofs.Locators.{loc, loc_divides}
use Rattle.codes.proofs.Parts.{index-cons}

module _ {K : Type 0} (A : Arithmetic K) (𝓕 : Field A) where
  infixl 70 ◌⊗◌ ◌⊘◌
  open A use {In, zero as 𝟎, one as 𝟏, times as ◌⊗◌, over as ◌⊘◌}

  pub poly_product : {k t : ℕ} {E f : List K} → 1 ≤ k → Poly A (suc t) E → Poly A k f → Poly A (k + t) (mul A E f)
  poly_product {k = zero} {t} {E} {f} q h g = absurd (omega arith)
  poly_product {k = suc k} {t} {E} {f} q h g = record {
    count = omega (arith, length-mul A 𝓕 E f {m = t} {n = k} h.count g.count);
    symbols = symbols_mul A 𝓕 E f;
  }

  fits_values : (xs ys E N N' : List K) → length ys ≡ length xs → Fits A xs ys E N → Fits A xs ys E N'
      → values_at A xs N ≡ values_at A xs N'
  unfolding values_at
  fits_values [] ys E N N' l f g = refl
  fits_values (x ∷ xs) [] E N N' l f g = absurd (omega arith)
  fits_values (x ∷ xs) (y ∷ ys) E N N' l f g =
      ap₂ ◌∷◌ (f.0 ∙ sym g.0) (fits_values xs ys E N N' (omega arith) f.1 g.1)

  pub fits_unique : (xs ys E : List K) {m : ℕ} {N N' : List K} → Distinct xs → All In xs → length ys ≡ length xs → m ≤ length xs
      → Poly A m N → Poly A m N' → Fits A xs ys E N → Fits A xs ys E N' → N ≡ N'
  fits_unique xs ys E {m} {N} {N'} d i l q h h' f g = interpolation A 𝓕 xs d i q h h' (fits_values xs ys E N N' l f g)

  fits_zeros : (xs ys E N : List K) → length ys ≡ length xs → Zero A E → Fits A xs ys E N → Vanishes A N xs
  fits_zeros [] ys E N l z f = tt
  fits_zeros (x ∷ xs) [] E N l z f = absurd (omega arith)
  fits_zeros (x ∷ xs) (y ∷ ys) E N l z f =
      (f.0 ∙ rw (value-zero A 𝓕 E x z) (times_zero A 𝓕 y), fits_zeros xs ys E N (omega arith) z f.1)

  pub fits_zero : (xs ys E : List K) {m : ℕ} {N : List K} → Distinct xs → All In xs → length ys ≡ length xs → m ≤ length xs
      → Poly A m N → Zero A E → Fits A xs ys E N → Zero A N
  fits_zero xs ys E {m} {N} d i l q h z f = roots A 𝓕 xs N d i h.symbols (omega (arith, h.count)) (fits_zeros xs ys E N l z f)

  fits_root : (xs ys E N : List K) (w : K) → length ys ≡ length xs → Fits A xs ys E N → Mem w xs → value A E w ≡ 𝟎 → value A N w ≡ 𝟎
  fits_root [] ys E N w l f m r = elim m [ ]
  fits_root (x ∷ xs) [] E N w l f m r = absurd (omega arith)
  fits_root (x ∷ xs) (y ∷ ys) E N w l f (inl e) r =
      let zero_there : value A E x ≡ 𝟎 = ap (value A E) (sym e) ∙ r in
      ap (value A N) e ∙ f.0 ∙ rw zero_there (times_zero A 𝓕 y)
  fits_root (x ∷ xs) (y ∷ ys) E N w l f (inr m) r = fits_root xs ys E N w (omega arith) f.1 m r

  pub fits_vanishes : (xs ys E N W : List K) → length ys ≡ length xs → Fits A xs ys E N → All (λ (w : K). Mem w xs) W → Vanishes A E W
      → Vanishes A N W
  fits_vanishes xs ys E N [] l f m v = tt
  fits_vanishes xs ys E N (w ∷ W) l f m v =
      (fits_root xs ys E N w l f m.0 v.0, fits_vanishes xs ys E N W l f m.1 v.1)

  product_point : {y e v : K} → In y → In e → In v → (e ⊗ v ≡ y ⊗ e) ↔ ((e ≡ 𝟎) ⊎ (y ≡ v))
  product_point {y} {e} {v} i j k = (λ h. go (𝓕.same e 𝟎) h, back)
    where
      go : Dec (e ≡ 𝟎) → e ⊗ v ≡ y ⊗ e → (e ≡ 𝟎) ⊎ (y ≡ v)
      go (yes z) h = inl z
      go (no z) h = inr (times_cancel A 𝓕 j i k z (times_comm A 𝓕 e y ∙ sym h))

      back : (e ≡ 𝟎) ⊎ (y ≡ v) → e ⊗ v ≡ y ⊗ e
      back (inl z) = rw z (zero-times A 𝓕 v ∙ sym (times_zero A 𝓕 y))
      back (inr h) = rw h (times_comm A 𝓕 e v)

  product_at : (x y : K) (E f : List K) → In y → All In E → All In f
      → (value A (mul A E f) x ≡ y ⊗ value A E x) ↔ ((value A E x ≡ 𝟎) ⊎ (y ≡ value A f x))
  product_at x y E f i s t =
      let point = product_point i (value_in A 𝓕 E x s) (value_in A 𝓕 f x t) in
      (λ h. point.0 (sym (value-mul A 𝓕 E f x) ∙ h), λ h. value-mul A 𝓕 E f x ∙ point.1 h)

  pub fits_product : (xs ys E f : List K) (d : K) → length ys ≡ length xs → All In ys → All In E → All In f
      → Fits A xs ys E (mul A E f)
      ↔ ((i : ℕ) → i < length xs → (value A E (get_or xs i d) ≡ 𝟎) ⊎ (get_or ys i d ≡ value A f (get_or xs i d)))
  fits_product [] ys E f d l j s t = (λ h i q. absurd (omega arith), λ h. tt)
  fits_product (x ∷ xs) [] E f d l j s t = absurd (omega arith)
  fits_product (x ∷ xs) (y ∷ ys) E f d l j s t = Iff.trans
      (Iff.and (product_at x y E f j.0 s t) (fits_product xs ys E f d (omega arith) j.1 s t))
      (index-cons (λ (i : ℕ). (value A E (get_or (x ∷ xs) i d) ≡ 𝟎) ⊎ (get_or (y ∷ ys) i d ≡ value A f (get_or (x ∷ xs) i d))) (length xs))

  shared-point : (y e f g n : K) → e ⊗ f ≡ y ⊗ e → n ≡ y ⊗ g → e ⊗ n ≡ e ⊗ (g ⊗ f)
  shared-point y e f g n h k = rw k (e_y ∙ ap (◌⊗◌ g) (sym h) ∙ simp ring)
    where
      e_y : e ⊗ (y ⊗ g) ≡ g ⊗ (y ⊗ e)
      e_y = simp ring

  shared-values : (xs ys E F N f : List K) → length ys ≡ length xs → Fits A xs ys E (mul A E f) → Fits A xs ys F N
      → values_at A xs (mul A E N) ≡ values_at A xs (mul A E (mul A F f))
  unfolding values_at
  shared-values [] ys E F N f l h g = refl
  shared-values (x ∷ xs) [] E F N f l h g = absurd (omega arith)
  shared-values (x ∷ xs) (y ∷ ys) E F N f l h g = ap₂ ◌∷◌
      (value-mul A 𝓕 E N x
      ∙ shared-point y (value A E x) (value A f x) (value A F x) (value A N x) (sym (value-mul A 𝓕 E f x) ∙ h.0) g.0
      ∙ sym (value-mul A 𝓕 E (mul A F f) x ∙ ap (◌⊗◌ (value A E x)) (value-mul A 𝓕 F f x)))
      (shared-values xs ys E F N f (omega arith) h.1 g.1)

  pub fits_shared : (xs ys : List K) {k u w : ℕ} {E F N f : List K} → Distinct xs → All In xs → length ys ≡ length xs
      → 1 ≤ k → k + (u + w) ≤ length xs → ¬ Zero A E → Poly A (suc w) E → Poly A (suc u) F → Poly A (k + u) N → Poly A k f
      → Fits A xs ys E (mul A E f) → Fits A xs ys F N → N ≡ mul A F f
  fits_shared xs ys {k} {u} {w} {E} {F} {N} {f} d i l q r z e f' n g h h' =
      let fg = poly_product q f' g in
      let same : mul A E N ≡ mul A E (mul A F f) = interpolation A 𝓕 xs d i (omega arith)
      (poly_product {k = k + u} {t = w} (omega arith) e n)
      (poly_product {k = k + u} {t = w} (omega arith) e fg)
      (shared-values xs ys E F N f l h h') in
      mul-cancel A 𝓕 E N (mul A F f) z e.symbols n.symbols fg.symbols (n.count ∙ sym fg.count) same

  -- a multiple, and the multiple of that by the inverse
  pub unscale : (c : K) (p : List K) → In c → ¬ (c ≡ 𝟎) → All In p → scale A c (scale A (𝟏 ⊘ c) p) ≡ p
  unscale c p i z s = scale-scale A 𝓕 c (𝟏 ⊘ c) p ∙ rw (over_times A 𝓕 𝓕.one_in i z) (scale_one A 𝓕 p s)

  pub row_quotient : (W : List K) (c : K) {k : ℕ} {N : List K} → Distinct W → All In W → In c → ¬ (c ≡ 𝟎) → 1 ≤ k
      → Poly A (k + length W) N → Vanishes A N W → (f : List K) × Poly A k f × (N ≡ mul A (scale A c (loc A W)) f)
  row_quotient W c {k} {N} d i j z q h v =
      let (g, p, e) = loc_divides A 𝓕 W N d i h.symbols (omega (arith, h.count)) v in
      let product : mul A (scale A c (loc A W)) (scale A (𝟏 ⊘ c) g) ≡ N =
      scale-mul A 𝓕 c (loc A W) (scale A (𝟏 ⊘ c) g)
      ∙ ap (scale A c) (mul-scale A 𝓕 (𝟏 ⊘ c) (loc A W) g ∙ ap (scale A (𝟏 ⊘ c)) (sym e))
      ∙ unscale c N j z h.symbols in
      let poly : Poly A k (scale A (𝟏 ⊘ c) g) = record {
        count = omega (arith, length-scale A 𝓕 (𝟏 ⊘ c) g, p.count, h.count);
        symbols = symbols_scale A 𝓕 (𝟏 ⊘ c) g;
      } in
      (scale A (𝟏 ⊘ c) g, poly, sym product)
