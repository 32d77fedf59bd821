-- The locators of a received array are those of its reduced rows.
--
--   rows-count        there are as many rows as lengths
--   rows_symbols      their values are symbols
--   rows-plain        up to n − k_max they are plain: with no E there is no N
--   locator_exactly   a locator of size t is an E, not zero, that locates the reduced rows
-- Assumes nothing.
use mathlib.Core.Path.{◌≡◌, refl, ap}
use mathlib.Core.Logic.Iff
use mathlib.Core.Logic.{◌↔◌}
use mathlib.Core.List.{List, [], ◌∷◌, zip, zip_with}
use Prim.Native.Nat.{ℕ, suc, ◌*◌}
use native.Mathlib.Omega.{arith}
use lib.ListN.{length, take, drop, length-drop}
use Rattle.field.specs.Arithmetic.{Arithmetic, gf}
use Rattle.field.proofs.Laws.{Field}
use Rattle.poly.specs.Poly.{All, Zero, Poly, value, Fits}
use Rattle.poly.proofs.Forms.{reduce}
use Rattle.poly.proofs.Differences.{length-left, symbols_left}
use Rattle.poly.proofs.OneOff.{Fitting, rounds_off}
use Rattle.poly.proofs.Roots.{Distinct, distinct-drop, roots}
use Rattle.codes.specs.Code.{Code, rows, columns, IsArray}
use Rattle.codes.proofs.Parts.{all_take, all_drop, row_length, rest_length}
use Rattle.codes.proofs.Proper.{Within, Proper}
use Rattle.codes.proofs.Limits.{Room}
use Rattle.basis.proofs.Lines.{Row}
use Rattle.basis.proofs.Interleaved.{RowMet, Locates, Plain}
use Rattle.ending.specs.Locators.{RowsFit, Locator}
use Rattle.ending.proofs.Model.{reduced_rows, rows_of}

module _ {K : Type 0} where
  zip_first : (P : K → Type 0) (xs ys : List K) → length ys ≡ length xs → All (λ (c : K × K). P c.0) (zip xs ys) → All P xs
  unfolding zip zip_with
  zip_first P [] ys l h = tt
  zip_first P (x ∷ xs) [] l h = absurd (omega arith)
  zip_first P (x ∷ xs) (y ∷ ys) l h = (h.0, zip_first P xs ys (omega arith) h.1)

  zip_second : (P : K → Type 0) (xs ys : List K) → All P ys → All (λ (c : K × K). P c.1) (zip xs ys)
  unfolding zip zip_with
  zip_second P [] ys h = tt
  zip_second P (x ∷ xs) [] h = tt
  zip_second P (x ∷ xs) (y ∷ ys) h = (h.0, zip_second P xs ys h.1)

module _ {K : Type 0} (A : Arithmetic K) where
  count : (xs : List K) (ks : List ℕ) (y : List K) → length (reduced_rows A xs ks y) ≡ length ks
  unfolding reduced_rows
  count xs [] y = refl
  count xs (k ∷ ks) y = ap suc (count xs ks (drop (length xs) y))

  pairs_fit : (xs ys E N : List K)
      → All (λ (c : K × K). value A N c.0 ≡ A.times c.1 (value A E c.0)) (zip xs ys) ↔ Fits A xs ys E N
  unfolding zip zip_with
  pairs_fit [] ys E N = (λ h. h, λ h. h)
  pairs_fit (x ∷ xs) [] E N = (λ h. h, λ h. h)
  pairs_fit (x ∷ xs) (y ∷ ys) E N = Iff.and (λ h. h, λ h. h) (pairs_fit xs ys E N)

  row_met : (t : ℕ) (xs ys E : List K) → RowMet A t E (zip xs ys) ↔ Fitting A t xs ys E
  row_met t xs ys E = (λ (N, p, h). (N, p, (pairs_fit xs ys E N).0 h), λ (N, p, h). (N, p, (pairs_fit xs ys E N).1 h))

module _ {K : Type 0} (A : Arithmetic K) (𝓕 : Field A) (xs : List K) where
  open A use {In}

  symbols : (ks : List ℕ) (y : List K) → All In y
      → All (λ (row : Row K). All (λ (c : K × K). In c.1) row) (reduced_rows A xs ks y)
  unfolding reduced_rows
  symbols [] y s = tt
  symbols (k ∷ ks) y s = (
    zip_second In (drop k xs) _ (symbols_left A 𝓕 k xs (take (length xs) y) (all_take In (length xs) y s)),
    symbols ks (drop (length xs) y) (all_drop In (length xs) y s),
  )

  module _ (distinct : Distinct xs) (points : All In xs) (t : ℕ) where
    plain : (ks : List ℕ) (y : List K) → length y ≡ length ks * length xs → Room (length xs) t ks
        → Plain A t (reduced_rows A xs ks y)
    unfolding reduced_rows
    plain [] y l r = tt
    plain (k ∷ ks) y l r = (
      λ N p v. roots A 𝓕 (drop k xs) N
          (distinct-drop k xs distinct)
          (all_drop In k xs points)
          p.symbols
          (omega (arith, p.count, length-drop k xs, r.0))
          (zip_first (λ (x : K). value A N x ≡ A.zero) (drop k xs) _
          (length-left A 𝓕 k xs (take (length xs) y) (row_length (length ks) (length xs) y l))
          v),
      plain ks (drop (length xs) y) (rest_length (length ks) (length xs) y l) r.1,
    )

    rows_met : (E : List K) → Poly A (suc t) E → (ks : List ℕ) (y : List K) → Within 1 (length xs) ks
        → length y ≡ length ks * length xs → All In y → RowsFit A xs t E ks y ↔ All (RowMet A t E) (reduced_rows A xs ks y)
    unfolding reduced_rows
    rows_met E e [] y w l s = (λ h. h, λ h. h)
    rows_met E e (k ∷ ks) y w l s =
        let ys : List K = take (length xs) y in
        Iff.and
        (Iff.trans
        (rounds_off A 𝓕 k xs ys E
        distinct
        points
        (all_take In (length xs) y s)
        (row_length (length ks) (length xs) y l)
        w.0.1
        (omega (arith, e.count)))
        (Iff.symm (row_met A t (drop k xs) (drop k (reduce A k xs ys)) E)))
        (rows_met E e ks (drop (length xs) y) w.1 (rest_length (length ks) (length xs) y l) (all_drop In (length xs) y s))

pub rows-count : (c : Code) (y : List ℕ) → length (rows_of c y) ≡ rows c
rows-count c y = count (gf c.degree) c.points c.lengths y

module _ {c : Code} (p : Proper c) {y : List ℕ} (received : IsArray c y) where
  pub rows_symbols : All (λ (row : Row ℕ). All (λ (e : ℕ × ℕ). (gf c.degree).In e.1) row) (rows_of c y)
  rows_symbols = symbols (gf c.degree) p.field c.points c.lengths y received.symbols

  module _ (t : ℕ) where
    pub rows-plain : Room (columns c) t c.lengths → Plain (gf c.degree) t (rows_of c y)
    rows-plain r = plain (gf c.degree) p.field c.points p.distinct p.symbols t c.lengths y received.count r

    pub locator_exactly : {E : List ℕ} → Locator c y t E ↔ (Locates (gf c.degree) t (rows_of c y) E × ¬ Zero (gf c.degree) E)
    locator_exactly {E} = (
      λ h. (record { poly = h.size; met = (met h.size).0 h.fits }, h.nonzero),
      λ (h, z). record { size = h.poly; nonzero = z; fits = (met h.poly).1 h.met },
    )
      where
        met : Poly (gf c.degree) (suc t) E
            → RowsFit (gf c.degree) c.points t E c.lengths y ↔ All (RowMet (gf c.degree) t E) (rows_of c y)
        met e =
            rows_met (gf c.degree) p.field c.points p.distinct p.symbols t E e c.lengths y
            p.lengths
            received.count
            received.symbols
