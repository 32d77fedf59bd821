-- Locators: one size up, and how E determines the N.
--
--   one_more         a locator of size t is one of size t + 1
--   numerators       the N of the rows
--   same_numerators  up to n − k_max, E determines every N
--   zero_numerators  and where E is zero, so are they
-- Assumes nothing.
use mathlib.Core.Path.{◌≡◌, refl, ap₂}
use mathlib.Core.List.{List, [], ◌∷◌, ◌++◌}
use Prim.Native.Nat.{ℕ, suc, ◌-◌, ◌*◌, ◌≤◌}
use native.Mathlib.Omega.{arith}
use lib.ListN.{length, take, drop, length-append}
use Rattle.field.specs.Arithmetic.{Arithmetic, gf}
use Rattle.field.proofs.Laws.{Field}
use Rattle.poly.specs.Poly.{All, Zero, Poly, value, Fits}
use Rattle.poly.proofs.Values.{value-append}
use Rattle.poly.proofs.Roots.{Distinct}
use Rattle.codes.specs.Code.{Code, columns, largest, IsArray}
use Rattle.codes.proofs.Parts.{all_append, row_length, rest_length}
use Rattle.codes.proofs.Proper.{Proper}
use Rattle.codes.proofs.Limits.{Room, room}
use Rattle.ending.specs.Locators.{RowsFit, Locator}
use Rattle.ending.proofs.Rows.{fits_unique, fits_zero}

module _ {K : Type 0} (A : Arithmetic K) where
  abbrev pub numerators : (xs : List K) (t : ℕ) (E : List K) (ks : List ℕ) (y : List K) → RowsFit A xs t E ks y → List (List K)
  numerators xs t E [] y h = []
  numerators xs t E (k ∷ ks) y h = h.0.0 ∷ numerators xs t E ks (drop (length xs) y) h.1

module _ {K : Type 0} (A : Arithmetic K) (𝓕 : Field A) where
  open A use {In, zero as 𝟎}

  poly_longer : {k : ℕ} {p : List K} → Poly A k p → Poly A (suc k) (p ++ 𝟎 ∷ [])
  poly_longer {k} {p} h = record {
    count = omega (arith, h.count, length-append p (𝟎 ∷ []));
    symbols = all_append In p (𝟎 ∷ []) h.symbols (𝓕.zero_in, tt);
  }

  value_longer : (p : List K) (x : K) → value A (p ++ 𝟎 ∷ []) x ≡ value A p x
  value_longer p x = value-append A 𝓕 p (𝟎 ∷ []) x (refl, tt)

  zero_longer : (p : List K) → Zero A (p ++ 𝟎 ∷ []) → Zero A p
  zero_longer [] z = tt
  zero_longer (a ∷ p) z = (z.0, zero_longer p z.1)

  fits_longer : (xs ys E N : List K) → Fits A xs ys E N → Fits A xs ys (E ++ 𝟎 ∷ []) (N ++ 𝟎 ∷ [])
  fits_longer [] ys E N f = tt
  fits_longer (x ∷ xs) [] E N f = tt
  fits_longer (x ∷ xs) (y ∷ ys) E N f = (rw (value_longer N x, value_longer E x) f.0, fits_longer xs ys E N f.1)

  rows_longer : (xs : List K) (t : ℕ) (E : List K) (ks : List ℕ) (y : List K) → RowsFit A xs t E ks y
      → RowsFit A xs (suc t) (E ++ 𝟎 ∷ []) ks y
  rows_longer xs t E [] y h = tt
  rows_longer xs t E (k ∷ ks) y h =
      let (N, p, f) = h.0 in
      let q = poly_longer p in (
        (N ++ 𝟎 ∷ [], record { count = omega (arith, q.count); symbols = q.symbols }, fits_longer xs (take (length xs) y) E N f),
        rows_longer xs t E ks (drop (length xs) y) h.1,
      )

  module _ (xs : List K) (distinct : Distinct xs) (points : All In xs) (t : ℕ) (E : List K) where
    one_numerator : (ks : List ℕ) (y : List K) → Room (length xs) t ks → length y ≡ length ks * length xs
        → (h g : RowsFit A xs t E ks y) → numerators A xs t E ks y h ≡ numerators A xs t E ks y g
    one_numerator [] y r l h g = refl
    one_numerator (k ∷ ks) y r l h g =
        let ys : List K = take (length xs) y in
        let ly : length ys ≡ length xs = row_length (length ks) (length xs) y l in
        ap₂ ◌∷◌
        (fits_unique A 𝓕 xs ys E distinct points ly r.0 h.0.1 g.0.1 h.0.2 g.0.2)
        (one_numerator ks (drop (length xs) y) r.1 (rest_length (length ks) (length xs) y l) h.1 g.1)

    zero_numerator : (ks : List ℕ) (y : List K) → Room (length xs) t ks → length y ≡ length ks * length xs → Zero A E
        → (h : RowsFit A xs t E ks y) → All (Zero A) (numerators A xs t E ks y h)
    zero_numerator [] y r l z h = tt
    zero_numerator (k ∷ ks) y r l z h =
        let ys : List K = take (length xs) y in
        let ly : length ys ≡ length xs = row_length (length ks) (length xs) y l in (
          fits_zero A 𝓕 xs ys E distinct points ly r.0 h.0.1 z h.0.2,
          zero_numerator ks (drop (length xs) y) r.1 (rest_length (length ks) (length xs) y l) z h.1,
        )

-- 'for each row l some polynomial N_l', of a locator E of size t
abbrev pub Fitted : Code → List ℕ → ℕ → List ℕ → Type 0
Fitted c y t E = RowsFit (gf c.degree) c.points t E c.lengths y

abbrev pub numerators_of : (c : Code) (y : List ℕ) (t : ℕ) (E : List ℕ) → Fitted c y t E → List (List ℕ)
numerators_of c y t E h = numerators (gf c.degree) c.points t E c.lengths y h

module _ {c : Code} (p : Proper c) {y : List ℕ} where
  pub one_more : {t : ℕ} {E : List ℕ} → Locator c y t E → Locator c y (suc t) (E ++ 0 ∷ [])
  one_more {t} {E} h = record {
    size = poly_longer (gf c.degree) p.field h.size;
    nonzero = λ z. h.nonzero (zero_longer (gf c.degree) p.field E z);
    fits = rows_longer (gf c.degree) p.field c.points t E c.lengths y h.fits;
  }

  module _ (received : IsArray c y) {t : ℕ} (small : t ≤ columns c - largest c.lengths) (E : List ℕ) where
    pub same_numerators : (h g : Fitted c y t E) → numerators_of c y t E h ≡ numerators_of c y t E g
    same_numerators h g =
        one_numerator (gf c.degree) p.field c.points p.distinct p.symbols t E c.lengths y (room p small)
        received.count h g

    pub zero_numerators : Zero (gf c.degree) E → (h : Fitted c y t E) → All (Zero (gf c.degree)) (numerators_of c y t E h)
    zero_numerators z h =
        zero_numerator (gf c.degree) p.field c.points p.distinct p.symbols t E c.lengths y (room p small)
        received.count z h
