-- The locator polynomial of a list of points.
--
--   loc W           Π (x − w), over the points w of W
--   poly_loc        it has one coefficient more than W has points
--   loc_nonzero     it is not zero
--   loc_mem, mem_loc    its roots are the points of W
--   loc_divides     a polynomial that vanishes at distinct points W is loc W times another
--   loc_multiple    one with a coefficient more than W has points is a multiple of loc W by a symbol
-- Assumes nothing.
use mathlib.Core.Path.{◌≡◌, refl, sym, ap, ◌∙◌}
use mathlib.Core.Logic.{inl, inr}
use mathlib.Core.List.{List, [], ◌∷◌}
use Prim.Native.Nat.{suc, ◌-◌, ◌<◌}
use native.Mathlib.Omega.{arith}
use lib.ListN.{length}
use Rattle.field.specs.Arithmetic.{Arithmetic}
use Rattle.field.proofs.Laws.{Field}
use Rattle.poly.specs.Poly.{All, Zero, Poly, value, scale, mul}
use Rattle.poly.proofs.Forms.{lin}
use Rattle.poly.proofs.Ring.{zero_plus, zero-times, times_zero, plus_self, plus_apart, no_divisors}
use Rattle.poly.proofs.Sums.{scale_one}
use Rattle.poly.proofs.Products.{const_mul, mul-const}
use Rattle.poly.proofs.Values.{value_in, value_const}
use Rattle.poly.proofs.Division.{quo, length_lin, symbols_lin, value_lin, lin_zero, lin_mul, length_quo, symbols_quo}
use Rattle.poly.proofs.Roots.{Mem, Distinct, Vanishes, vanishes_quo, factor}

module _ {K : Type 0} (A : Arithmetic K) where
  unfoldable pub loc : List K → List K
  loc [] = A.one ∷ []
  loc (w ∷ W) = lin A w A.zero (loc W)

module _ {K : Type 0} (A : Arithmetic K) (𝓕 : Field A) where
  infixl 65 ◌⊕◌
  infixl 70 ◌⊗◌
  open A use {In, zero as 𝟎, one as 𝟏, plus as ◌⊕◌, times as ◌⊗◌}

  pub length_loc : (W : List K) → length (loc A W) ≡ suc (length W)
  unfolding loc
  length_loc [] = refl
  length_loc (w ∷ W) = length_lin A 𝓕 w 𝟎 (loc A W) ∙ ap suc (length_loc W)

  pub symbols_loc : (W : List K) → All In (loc A W)
  unfolding loc
  symbols_loc [] = (𝓕.one_in, tt)
  symbols_loc (w ∷ W) = symbols_lin A 𝓕 w 𝟎 (loc A W) 𝓕.zero_in (symbols_loc W)

  pub poly_loc : (W : List K) → Poly A (suc (length W)) (loc A W)
  poly_loc W = record { count = length_loc W; symbols = symbols_loc W }

  pub loc_nonzero : (W : List K) → ¬ Zero A (loc A W)
  unfolding loc
  loc_nonzero [] z = 𝓕.one_zero z.0
  loc_nonzero (w ∷ W) z = loc_nonzero W (lin_zero A 𝓕 w 𝟎 (loc A W) z).1

  value_loc : (w : K) (W : List K) (x : K) → value A (loc A (w ∷ W)) x ≡ (x ⊕ w) ⊗ value A (loc A W) x
  unfolding loc
  value_loc w W x = value_lin A 𝓕 w 𝟎 (loc A W) x ∙ zero_plus A 𝓕 _

  pub loc_mem : (x : K) (W : List K) → Mem x W → value A (loc A W) x ≡ 𝟎
  loc_mem x [] x'' = elim x'' [ ]
  loc_mem x (w ∷ W) (inl e) = value_loc w W x ∙ rw (e, plus_self A 𝓕 w) (zero-times A 𝓕 _)
  loc_mem x (w ∷ W) (inr m) = value_loc w W x ∙ rw (loc_mem x W m) (times_zero A 𝓕 _)

  mem-cons : (x w : K) (W : List K) → In x → In w → (value A (loc A W) x ≡ 𝟎 → Mem x W) → value A (loc A (w ∷ W)) x ≡ 𝟎
      → Mem x (w ∷ W)
  mem-cons x w W i j f r = go (𝓕.same x w)
    where
      go : Dec (x ≡ w) → Mem x (w ∷ W)
      go (yes e) = inl e
      go (no h) =
          let symbol : In (value A (loc A W) x) = value_in A 𝓕 (loc A W) x (symbols_loc W) in
          inr (f (no_divisors A 𝓕 (𝓕.plus_in x w i j) symbol (plus_apart A 𝓕 h) (sym (value_loc w W x) ∙ r)))

  pub mem_loc : (x : K) (W : List K) → In x → All In W → value A (loc A W) x ≡ 𝟎 → Mem x W
  unfolding loc
  mem_loc x [] i s r = 𝓕.one_zero (sym (value_const A 𝓕 𝟏 x) ∙ r)
  mem_loc x (w ∷ W) i s r = mem-cons x w W i s.0 (mem_loc x W i s.1) r

  pub loc_divides : (W p : List K) → Distinct W → All In W → All In p → length W < length p → Vanishes A p W
      → (q : List K) × Poly A (length p - length W) q × (p ≡ mul A (loc A W) q)
  unfolding loc
  loc_divides [] p d i s l v = (p, record { count = omega arith; symbols = s }, sym (const_mul A 𝓕 𝟏 p l ∙ scale_one A 𝓕 p s))
  loc_divides (w ∷ W) [] d i s l v = absurd (omega arith)
  loc_divides (w ∷ W) (c ∷ p) d i s l v =
      let p' : List K = quo A w (c ∷ p) in
      let shorter : length p' ≡ length p = length_quo A 𝓕 w c p in
      let v' : Vanishes A p' W = vanishes_quo A 𝓕 w (c ∷ p) W i.0 s i.1 d.0 v.0 v.1 in
      let (q, h, e) = loc_divides W p' d.1 i.1 (symbols_quo A 𝓕 w (c ∷ p) s) (omega arith) v' in
      let product = lin_mul A 𝓕 w (loc A W) q (omega (arith, length_loc W)) in
      let equal : c ∷ p ≡ mul A (lin A w 𝟎 (loc A W)) q = sym (factor A 𝓕 w c p v.0) ∙ ap (lin A w 𝟎) e ∙ sym product in
      (q, record { count = omega (arith, h.count); symbols = h.symbols }, equal)

  constant : (p q : List K) → length q ≡ 1 → All In q → (c : K) × In c × (mul A p q ≡ scale A c p)
  constant p [] l s = absurd (omega arith)
  constant p (c ∷ []) l s = (c, s.0, mul-const A 𝓕 p c)
  constant p (c ∷ b ∷ q) l s = absurd (omega arith)

  pub loc_multiple : (W p : List K) → Distinct W → All In W → All In p → length p ≡ suc (length W) → Vanishes A p W
      → (c : K) × In c × (p ≡ scale A c (loc A W))
  loc_multiple W p d i s l v =
      let (q, h, e) = loc_divides W p d i s (omega arith) v in
      let (c, j, f) = constant (loc A W) q (omega (arith, h.count)) h.symbols in
      (c, j, e ∙ f)
