-- Division: when E divides every N, with the rows of a message as quotients.
--
--   divides_exactly   E divides so exactly when it is zero at every point where the message's code array differs from y
--   divides_fits      an E that divides fits
--   divides_shared    up to the safe limit any other locator then divides too, with the same message
--   divides_unique    up to n − k_max there is one message at most
-- Assumes nothing.
use mathlib.Core.Path.{◌≡◌, refl, sym, ap, ap₂, ◌∙◌, subst}
use mathlib.Core.Logic.Iff
use mathlib.Core.Logic.{◌↔◌, ◌⊎◌, inl, inr, ⊎_elim}
use mathlib.Core.List.{List, [], ◌∷◌, ◌++◌}
use mathlib.Core.Bool.{false}
use Prim.Native.Nat.{ℕ, suc, ◌+◌, ◌*◌, ◌≤◌, ◌<◌}
use native.Mathlib.Omega.{arith}
use lib.ListN.{length, get_or, take, drop, length-drop, take-append-drop}
use lib.Seq.{get_or-take}
use Rattle.field.specs.Arithmetic.{Arithmetic, gf}
use Rattle.field.proofs.Laws.{Field}
use Rattle.poly.specs.Poly.{All, Zero, Poly, value, mul, Fits}
use Rattle.poly.proofs.Values.{get_or_values}
use Rattle.poly.proofs.Roots.{Distinct, Vanishes, mul-cancel}
use Rattle.codes.specs.Code.{Code, rows, columns, total, IsMessage, IsArray, encoded_rows, encoded, differs_at}
use Rattle.codes.proofs.Parts.{empty, all_take, all_drop, poly_take, row_length, rest_length}
use Rattle.codes.proofs.Proper.{Within, Proper}
use Rattle.codes.proofs.Limits.{Room}
use Rattle.codes.proofs.Messages.{first_row, other_rows}
use Rattle.codes.proofs.Columns.{Agree, agree_exactly, wrong_points, wrong_exactly}
use Rattle.ending.specs.Locators.{RowsFit, Locator, RowsDivide, Divides}
use Rattle.ending.proofs.Rows.{poly_product, fits_unique, fits_product, fits_shared}

-- of two statements at each column, each or else R: both or else R
each : (R P Q : ℕ → Type 0) (n : ℕ)
    → (((i : ℕ) → i < n → R i ⊎ P i) × ((i : ℕ) → i < n → R i ⊎ Q i)) ↔ ((i : ℕ) → i < n → R i ⊎ (P i × Q i))
each R P Q n = (
  λ h i q. both i (h.0 i q) (h.1 i q),
  λ h.
      (λ i q. ⊎_elim inl (λ g. inr g.0) (h i q), λ i q. ⊎_elim inl (λ g. inr g.1) (h i q)),
)
  where
    both : (i : ℕ) → R i ⊎ P i → R i ⊎ Q i → R i ⊎ (P i × Q i)
    both i (inl r) b = inl r
    both i (inr p) (inl r) = inl r
    both i (inr p) (inr q) = inr (p, q)

-- the same at each column
along : (R P Q : ℕ → Type 0) (n : ℕ) → ((i : ℕ) → i < n → P i ↔ Q i)
    → ((i : ℕ) → i < n → R i ⊎ P i) ↔ ((i : ℕ) → i < n → R i ⊎ Q i)
along R P Q n e = (λ h i q. ⊎_elim inl (λ g. inr ((e i q).0 g)) (h i q), λ h i q. ⊎_elim inl (λ g. inr ((e i q).1 g)) (h i q))

pub divides_fits : {K : Type 0} (A : Arithmetic K) (xs : List K) (t : ℕ) (E : List K) (ks : List ℕ) (y m : List K)
    → RowsDivide A xs t E ks y m → RowsFit A xs t E ks y
divides_fits A xs t E [] y m h = tt
divides_fits A xs t E (k ∷ ks) y m h =
    ((h.0.0, h.0.1, h.0.2), divides_fits A xs t E ks (drop (length xs) y) (drop k m) h.1)

module _ (A : Arithmetic ℕ) (𝓕 : Field A) where
  open A use {In, zero as 𝟎}

  value_at : (xs : List ℕ) (k : ℕ) (ks : List ℕ) (m : List ℕ) (i : ℕ) → i < length xs
      → get_or (encoded_rows A xs (k ∷ ks) m) i 0 ≡ value A (take k m) (get_or xs i 0)
  value_at xs k ks m i q =
      sym (get_or-take (length xs) (encoded_rows A xs (k ∷ ks) m) i 0 q)
      ∙ ap (λ (r : List ℕ). get_or r i 0) (first_row A 𝓕 xs k ks m)
      ∙ get_or_values A xs (take k m) i 0 q

  -- one row: some N divides exactly when the product fits
  product_fits : (xs ys E f : List ℕ) {k t : ℕ} → 1 ≤ k → Poly A (suc t) E → Poly A k f
      → ((N : List ℕ) × Poly A (k + t) N × Fits A xs ys E N × (N ≡ mul A E f)) ↔ Fits A xs ys E (mul A E f)
  product_fits xs ys E f q h g =
      (λ (N, p, s, e). subst (Fits A xs ys E) e s, λ s. (mul A E f, poly_product A 𝓕 q h g, s, refl))

  rows_exactly : (xs : List ℕ) (t : ℕ) (E : List ℕ) (ks : List ℕ) (y m : List ℕ) → Within 1 (length xs) ks → Poly A (suc t) E
      → length y ≡ length ks * length xs → All In y → length m ≡ total ks → All In m
      → RowsDivide A xs t E ks y m
      ↔ ((i : ℕ) → i < length xs → (value A E (get_or xs i 0) ≡ 𝟎) ⊎ Agree (length ks) (length xs) i y (encoded_rows A xs ks m))
  unfolding total
  rows_exactly xs t E [] y m w h ly sy lm sm = (λ u i q. inr tt, λ u. tt)
  rows_exactly xs t E (k ∷ ks) y m w h ly sy lm sm =
      let ys : List ℕ = take (length xs) y in
      let f : List ℕ = take k m in
      let g : Poly A k f = poly_take A k m (omega arith) sm in
      let Root : ℕ → Type 0 = λ (i : ℕ). value A E (get_or xs i 0) ≡ 𝟎 in
      let Here : ℕ → Type 0 = λ (i : ℕ). get_or y i 0 ≡ get_or (encoded_rows A xs (k ∷ ks) m) i 0 in
      let There : ℕ → Type 0 = λ (i : ℕ). Agree (length ks) (length xs) i (drop (length xs) y)
      (drop (length xs) (encoded_rows A xs (k ∷ ks) m)) in
      let first = Iff.trans
      (product_fits xs ys E f w.0.0 h g)
      (Iff.trans
      (fits_product A 𝓕 xs ys E f 0 (row_length (length ks) (length xs) y ly) (all_take In (length xs) y sy) h.symbols g.symbols)
      (along Root (λ (i : ℕ). get_or ys i 0 ≡ value A f (get_or xs i 0)) Here (length xs) (λ i q. (
        λ e. sym (get_or-take (length xs) y i 0 q) ∙ e ∙ sym (value_at xs k ks m i q),
        λ e. get_or-take (length xs) y i 0 q ∙ e ∙ value_at xs k ks m i q,
      )))) in
      let others = rows_exactly xs t E ks (drop (length xs) y) (drop k m)
      w.1
      h
      (rest_length (length ks) (length xs) y ly)
      (all_drop In (length xs) y sy)
      (omega (arith, length-drop k m))
      (all_drop In k m sm) in
      Iff.trans (Iff.and first (rw (other_rows A 𝓕 xs k ks m) others)) (each Root Here There (length xs))

  module _ (xs : List ℕ) (distinct : Distinct xs) (points : All In xs) where
    rows_shared : (w u : ℕ) (E F : List ℕ) (ks : List ℕ) (y m : List ℕ) → ¬ Zero A E → Poly A (suc w) E → Poly A (suc u) F
        → Within 1 (length xs) ks → Room (length xs) (u + w) ks
        → length y ≡ length ks * length xs → length m ≡ total ks → All In m
        → RowsDivide A xs w E ks y m → RowsFit A xs u F ks y → RowsDivide A xs u F ks y m
    unfolding total
    rows_shared w u E F [] y m z e f i r ly lm sm h g = tt
    rows_shared w u E F (k ∷ ks) y m z e f i r ly lm sm h g =
        let ys : List ℕ = take (length xs) y in
        let l : length ys ≡ length xs = row_length (length ks) (length xs) y ly in
        let p : Poly A k (take k m) = poly_take A k m (omega arith) sm in
        let fits = (product_fits xs ys E (take k m) i.0.0 e p).0 h.0 in
        let N = g.0.0 in
        let same : N ≡ mul A F (take k m) = fits_shared A 𝓕 xs ys distinct points l i.0.0 r.0 z e f g.0.1 p fits g.0.2 in (
          (N, g.0.1, g.0.2, same),
          rows_shared w u E F ks (drop (length xs) y) (drop k m)
              z
              e
              f
              i.1
              r.1
              (rest_length (length ks) (length xs) y ly)
              (omega (arith, length-drop k m))
              (all_drop In k m sm)
              h.1
              g.1,
        )

    rows_unique : (t : ℕ) (E : List ℕ) (ks : List ℕ) (y m m' : List ℕ) → ¬ Zero A E → All In E → Room (length xs) t ks
        → length y ≡ length ks * length xs → length m ≡ total ks → length m' ≡ total ks → All In m → All In m'
        → RowsDivide A xs t E ks y m → RowsDivide A xs t E ks y m' → m ≡ m'
    unfolding total
    rows_unique t E [] y m m' z s r ly l l' j j' h h' = sym (empty m l) ∙ empty m' l'
    rows_unique t E (k ∷ ks) y m m' z s r ly l l' j j' h h' =
        let p : Poly A k (take k m) = poly_take A k m (omega arith) j in
        let p' : Poly A k (take k m') = poly_take A k m' (omega arith) j' in
        let ys : List ℕ = take (length xs) y in
        let N≡ = fits_unique A 𝓕 xs ys E distinct points
        (row_length (length ks) (length xs) y ly)
        r.0
        h.0.1
        h'.0.1
        h.0.2
        h'.0.2 in
        let first : take k m ≡ take k m' = mul-cancel A 𝓕 E (take k m) (take k m') z s p.symbols p'.symbols
        (p.count ∙ sym p'.count)
        (sym h.0.3 ∙ N≡ ∙ h'.0.3) in
        let others : drop k m ≡ drop k m' = rows_unique t E ks (drop (length xs) y) (drop k m) (drop k m') z s r.1
        (rest_length (length ks) (length xs) y ly)
        (omega (arith, length-drop k m))
        (omega (arith, length-drop k m'))
        (all_drop In k m j)
        (all_drop In k m' j')
        h.1
        h'.1 in
        sym (take-append-drop k m) ∙ ap₂ ◌++◌ first others ∙ take-append-drop k m'

module _ {c : Code} (p : Proper c) {y : List ℕ} (received : IsArray c y) where
  pub divides_exactly : {t : ℕ} {E m : List ℕ} → Poly (gf c.degree) (suc t) E → IsMessage c m
      → Divides c y t E m ↔ Vanishes (gf c.degree) E (wrong_points c y (encoded c m))
  divides_exactly {t} {E} {m} h i =
      let A : Arithmetic ℕ = gf c.degree in
      let Root : ℕ → Type 0 = λ (i : ℕ). value A E (get_or c.points i 0) ≡ 0 in
      Iff.trans
      (rows_exactly A p.field c.points t E c.lengths y m p.lengths h received.count received.symbols i.count
      i.symbols)
      (Iff.trans
      (along Root
      (λ (i : ℕ). Agree (rows c) (columns c) i y (encoded c m))
      (λ (i : ℕ). differs_at c y (encoded c m) i ≡ false)
      (columns c)
      (λ i q. Iff.symm (agree_exactly (rows c) (columns c) i y (encoded c m))))
      (Iff.symm (wrong_exactly c y (encoded c m) (λ (x : ℕ). value A E x ≡ 0))))

  pub divides_shared : {w u : ℕ} {E F m : List ℕ} → Locator c y w E → Locator c y u F → IsMessage c m
      → Room (columns c) (u + w) c.lengths → Divides c y w E m → Divides c y u F m
  divides_shared {w} {u} {E} {F} {m} e f i r h =
      rows_shared (gf c.degree) p.field c.points p.distinct p.symbols w u E F c.lengths y m
      e.nonzero
      e.size
      f.size
      p.lengths
      r
      received.count
      i.count
      i.symbols
      h
      f.fits

  pub divides_unique : {t : ℕ} {E m m' : List ℕ} → Locator c y t E → IsMessage c m → IsMessage c m'
      → Room (columns c) t c.lengths → Divides c y t E m → Divides c y t E m' → m ≡ m'
  divides_unique {t} {E} {m} {m'} e i i' r h h' =
      rows_unique (gf c.degree) p.field c.points p.distinct p.symbols t E c.lengths y m m'
      e.nonzero
      e.size.symbols
      r
      received.count
      i.count
      i'.count
      i.symbols
      i'.symbols
      h
      h'
