-- The wrong columns: a code array gives a locator, and a locator of the least size that divides has its roots there.
--
--   code_locator       the points at which a code array differs from y give a locator, of as many as they are
--   root_at c E i       E is zero at the point of column i; root_flags, root_count: of n flags, and how many
--   wrong_columns      if E of the least size divides, the wrong columns are its roots, and they are t
--   right-columns      in the others every row is as received
--   roots_divide       a locator of size t with t roots among the points divides
--   divides_roots      so, of the least size, it divides exactly when it has t distinct roots among the points
-- Assumes nothing.
use mathlib.Core.Path.{◌≡◌, refl, sym, ap, ◌∙◌, subst, subst₂}
use mathlib.Core.Logic.{◌↔◌, ◌⊎◌, inl, inr, ⊎_elim}
use mathlib.Core.Bool.{Bool, true, false, true≢false}
use mathlib.Core.List.{List, [], ◌∷◌, ◌++◌}
use Prim.Native.Nat.{ℕ, suc, ◌*◌, ◌≤◌, ◌<◌}
use native.Mathlib.Decide.{dec_lt}
use native.Mathlib.Omega.{arith}
use lib.Dec.{eqb}
use lib.ListN.{length, get_or, take, drop, length-append}
use lib.Seq.{take_at, drop_at}
use borrow.Author.Tests.{eqb-true, eq-eqb}
use Rattle.field.specs.Arithmetic.{Arithmetic, gf}
use Rattle.field.proofs.Laws.{Field}
use Rattle.poly.specs.Poly.{All, Poly, value, scale, mul}
use Rattle.poly.proofs.Roots.{Mem, Distinct, Vanishes, few_roots}
use Rattle.poly.proofs.Locators.{loc, poly_loc, loc_nonzero, loc_mem, mem_loc, loc_multiple}
use Rattle.codes.specs.Code.{Code, rows, columns, total, IsMessage, IsArray, encoded, differs_at, flags_from, flags_of, wrong_count}
use Rattle.codes.proofs.Parts.{all_map, all_append, row_length, rest_length}
use Rattle.codes.proofs.Proper.{Within, Proper}
use Rattle.codes.proofs.Flags.{flags_same, points_where, count_where, where_exactly, all_where, distinct_where, mem_self, mem_at}
use Rattle.codes.proofs.Columns.{Agree, agree_exactly, wrong_points, wrong_count_lem, wrong_distinct, wrong_symbols, wrong_exactly, wrong_at}
use Rattle.ending.specs.Locators.{RowsFit, Locator, Least, RowsDivide, Divides}
use Rattle.ending.proofs.Locators.{Fitted}
use Rattle.ending.proofs.Rows.{fits_vanishes, row_quotient}
use Rattle.ending.proofs.Division.{divides_exactly, divides_fits}
use Rattle.ending.proofs.Multiples.{constant_nonzero, vanishes_multiple}

abbrev pub root_at : Code → List ℕ → ℕ → Bool
root_at c E i = eqb (value (gf c.degree) E (get_or c.points i 0)) 0

abbrev pub root_flags : Code → List ℕ → List ℕ
root_flags c E = flags_from (root_at c E) 0 (columns c)

abbrev pub root_count : Code → List ℕ → ℕ
root_count c E = total (root_flags c E)

pub all_mem : {K : Type 0} (P : K → Type 0) (l : List K) (a : K) → All P l → Mem a l → P a
all_mem {K = K} P [] a h x'' = elim x'' [ ]
all_mem P (b ∷ l) a h (inl e) = subst P (sym e) h.0
all_mem P (b ∷ l) a h (inr m) = all_mem P l a h.1 m

either : (b : Bool) → (b ≡ true) ⊎ (b ≡ false)
either true = inl refl
either false = inr refl

same_bool : (a b : Bool) → (a ≡ true → b ≡ true) → (b ≡ true → a ≡ true) → a ≡ b
same_bool true b f g = sym (f refl)
same_bool false true f g = g refl
same_bool false false f g = refl

-- every row's quotient, as a message
rows_quotient : {K : Type 0} (A : Arithmetic K) (𝓕 : Field A) (xs : List K) (W : List K) (a : K) → Distinct W → All A.In W
    → All (λ (w : K). Mem w xs) W → A.In a → ¬ (a ≡ A.zero) → Vanishes A (scale A a (loc A W)) W
    → (ks : List ℕ) (y : List K) → Within 1 (length xs) ks → length y ≡ length ks * length xs
    → RowsFit A xs (length W) (scale A a (loc A W)) ks y
    → (m : List K) × (length m ≡ total ks) × All A.In m × RowsDivide A xs (length W) (scale A a (loc A W)) ks y m
unfolding total
rows_quotient A 𝓕 xs W a d s j i z v [] y w l h = ([], refl, tt, tt)
rows_quotient A 𝓕 xs W a d s j i z v (k ∷ ks) y w l h =
    let E = scale A a (loc A W) in
    let (N, p, f) = h.0 in
    let ys = take (length xs) y in
    let gone = fits_vanishes A 𝓕 xs ys E N W (row_length (length ks) (length xs) y l) f j v in
    let (q, g, e) = row_quotient A 𝓕 W a d s i z w.0.0 p gone in
    let (m, lm, sm, rest) =
    rows_quotient A 𝓕 xs W a d s j i z v ks (drop (length xs) y) w.1 (rest_length (length ks) (length xs) y l) h.1 in
    let first : N ≡ mul A E (take k (q ++ m)) = rw (take_at q m k g.count) e in
    let others : RowsDivide A xs (length W) E ks (drop (length xs) y) (drop k (q ++ m)) = rw (drop_at q m k g.count) rest in
    (q ++ m, omega (arith, length-append q m, g.count), all_append A.In q m g.symbols sm, ((N, p, f, first), others))

module _ {c : Code} (p : Proper c) {y : List ℕ} (received : IsArray c y) where
  abbrev A : Arithmetic ℕ
  A = gf c.degree

  module _ {m : List ℕ} (message : IsMessage c m) where
    abbrev W : List ℕ
    W = wrong_points c y (encoded c m)

    poly_wrong : Poly A (suc (wrong_count c y (encoded c m))) (loc A W)
    poly_wrong = rw (← wrong_count_lem c y (encoded c m)) (poly_loc A p.field W)

    pub vanishes_wrong : Vanishes A (loc A W) W
    vanishes_wrong = all_map (λ (x : ℕ). Mem x W) (λ (x : ℕ). value A (loc A W) x ≡ 0) W (λ x i. loc_mem A p.field x W i) (mem_self W)

    pub code_divides : Divides c y (wrong_count c y (encoded c m)) (loc A W) m
    code_divides = (divides_exactly p received poly_wrong message).1 vanishes_wrong

    pub code_locator : Locator c y (wrong_count c y (encoded c m)) (loc A W)
    code_locator = record {
      size = poly_wrong;
      nonzero = loc_nonzero A p.field W;
      fits = divides_fits A c.points (wrong_count c y (encoded c m)) (loc A W) c.lengths y m code_divides;
    }

    module _ {t : ℕ} {E : List ℕ} (locator : Locator c y t E) (divides : Divides c y t E m) where
      -- E vanishes at the wrong points, so they are no more than t
      pub wrong_roots : Vanishes A E W
      wrong_roots = (divides_exactly p received locator.size message).0 divides

      pub wrong_few : wrong_count c y (encoded c m) ≤ t
      wrong_few = rw (wrong_count_lem c y (encoded c m)) at
          (few_roots A p.field E W {t = t} locator.nonzero (omega (arith, locator.size.count))
          (wrong_distinct c y (encoded c m) p)
          (wrong_symbols c y (encoded c m) p)
          locator.size.symbols
          wrong_roots)

      module _ (least : (u : ℕ) (F : List ℕ) → u < t → ¬ Locator c y u F) where
        pub wrong_number : wrong_count c y (encoded c m) ≡ t
        wrong_number = go (dec_lt (wrong_count c y (encoded c m)) t)
          where
            go : Dec (wrong_count c y (encoded c m) < t) → wrong_count c y (encoded c m) ≡ t
            go (yes q) = absurd (least (wrong_count c y (encoded c m)) (loc A W) q code_locator)
            go (no q) = omega (arith, wrong_few)

        root_wrong : (x : ℕ) → A.In x → value A E x ≡ 0 → Mem x W
        root_wrong x i r =
            let number : length W ≡ t = wrong_count_lem c y (encoded c m) ∙ wrong_number in
            let h = loc_multiple A p.field W E
            (wrong_distinct c y (encoded c m) p)
            (wrong_symbols c y (encoded c m) p)
            locator.size.symbols
            (omega (arith, locator.size.count))
            wrong_roots in
            let v = vanishes_multiple p (loc A W) E (x ∷ []) poly_wrong.symbols locator.nonzero h (r, tt) in
            mem_loc A p.field x W i (wrong_symbols c y (encoded c m) p) v.0

        pub wrong_at_roots : (i : ℕ) → i < columns c → differs_at c y (encoded c m) i ≡ root_at c E i
        wrong_at_roots i q =
            let x : ℕ = get_or c.points i 0 in
            let s : A.In x = all_mem A.In c.points x p.symbols (mem_at c.points i 0 q) in
            let at = wrong_at c y (encoded c m) p i q in
            same_bool (differs_at c y (encoded c m) i) (root_at c E i)
            (λ e. eq-eqb (value A E x) 0 (all_mem (λ (x : ℕ). value A E x ≡ 0) W x wrong_roots (at.0 e)))
            (λ e. at.1 (root_wrong x s (eqb-true (value A E x) 0 e)))

        -- the wrong columns are the roots of E among the points
        pub wrong_columns : flags_of c y (encoded c m) ≡ root_flags c E
        wrong_columns = flags_same (differs_at c y (encoded c m)) (root_at c E) (columns c) wrong_at_roots

      -- in a column that is no root every row is as received
      pub right-columns : (i : ℕ) → i < columns c → root_at c E i ≡ false → Agree (rows c) (columns c) i y (encoded c m)
      right-columns i q e =
          let x : ℕ = get_or c.points i 0 in
          (agree_exactly (rows c) (columns c) i y (encoded c m)).0
          (⊎_elim
          (λ r. absurd (true≢false (sym (eq-eqb (value A E x) 0 r) ∙ e)))
          (λ d. d)
          ((wrong_exactly c y (encoded c m) (λ (x : ℕ). value A E x ≡ 0)).0 wrong_roots i q))

  abbrev Quotient : List ℕ → ℕ → List ℕ → Type 0
  Quotient W t E = Vanishes A E W → Fitted c y t E → (m : List ℕ) × IsMessage c m × Divides c y t E m

  quotient_message : (W E : List ℕ) (t a : ℕ) → Distinct W → All A.In W → All (λ (w : ℕ). Mem w c.points) W → A.In a
      → ¬ (a ≡ 0) → length W ≡ t → E ≡ scale A a (loc A W) → Quotient W t E
  quotient_message W E t a d s j i z number e = subst₂ (Quotient W) number (sym e) quotient
    where
      quotient : Quotient W (length W) (scale A a (loc A W))
      quotient v h =
          let (m, l, sm, g) = rows_quotient A p.field c.points W a d s j i z v c.lengths y p.lengths received.count h in
          (m, record { count = l; symbols = sm }, g)

  pub roots_divide : {t : ℕ} {E : List ℕ} → Locator c y t E → root_count c E ≡ t → (m : List ℕ) × IsMessage c m × Divides c y t E m
  roots_divide {t} {E} h e =
      let R : List ℕ = points_where (root_at c E) c.points in
      let number : length R ≡ t = count_where (root_at c E) c.points ∙ e in
      let d : Distinct R = distinct_where (root_at c E) c.points p.distinct in
      let s : All A.In R = all_where A.In (root_at c E) c.points p.symbols in
      let j : All (λ (x : ℕ). Mem x c.points) R =
      all_where (λ (x : ℕ). Mem x c.points) (root_at c E) c.points (mem_self c.points) in
      let v : Vanishes A E R = (where_exactly (λ (x : ℕ). value A E x ≡ 0) (root_at c E) c.points 0).1
      (λ i q. ⊎_elim (λ r. inl (eqb-true (value A E (get_or c.points i 0)) 0 r)) inr (either (root_at c E i))) in
      let (a, i, f) = loc_multiple A p.field R E d s h.size.symbols (omega (arith, h.size.count)) v in
      quotient_message R E t a d s j i (constant_nonzero p (loc A R) E a h.nonzero f) number f v h.fits

  pub divides_roots : {τ t : ℕ} {E : List ℕ} → Least c y τ t → Locator c y t E
      → ((m : List ℕ) × IsMessage c m × Divides c y t E m) ↔ (root_count c E ≡ t)
  divides_roots {τ} {t} {E} l h = (λ (m, i, d). counted m i d, roots_divide h)
    where
      counted : (m : List ℕ) → IsMessage c m → Divides c y t E m → root_count c E ≡ t
      counted m i d = ap total (sym (wrong_columns i h d l.none_below)) ∙ wrong_number i h d l.none_below
