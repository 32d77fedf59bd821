-- The columns in which two arrays differ, and the points there.
--
--   Agree r n i a b      r rows of n symbols agree in column i
--   agree_exactly        a column does not differ exactly when they do
--   differs_exactly      that is, when it has the same symbol in every row
--   same_arrays          arrays that differ in no column are equal
--   count_comm           how many columns differ is the same both ways
--   wrong_points c a b    the points at columns that differ: distinct, wrong_count many; elsewhere all rows agree
--   no_wrong             without wrong columns two arrays are equal
-- Assumes nothing.
use mathlib.Core.Path.{◌≡◌, refl, sym, ap, ap₂, ◌∙◌, fun_ext, subst}
use mathlib.Core.Logic.Iff
use mathlib.Core.Logic.{◌↔◌, ◌⊎◌, ⊎_elim}
use mathlib.Core.Bool.{Bool, true, false, not, ◌||◌}
use mathlib.Core.List.{List, ◌++◌}
use Prim.Native.Nat.{ℕ, zero, suc, ◌+◌, ◌*◌, ◌<◌}
use native.Mathlib.Nat.{zero-add, zero-mul, suc-mul}
use native.Mathlib.Decide.{ℕ_discrete}
use native.Mathlib.Omega.{arith}
use lib.Dec.{eqb}
use lib.ListN.{length, get_or, take, drop, take-append-drop}
use lib.Seq.{get_or-take, get_or-drop, ext_get_or}
use borrow.Author.Tests.{eqb-true, eq-eqb, ne_eqb, not-false}
use Rattle.field.specs.Symbols.{IsSymbol}
use Rattle.poly.specs.Poly.{All}
use Rattle.poly.proofs.Roots.{Mem, Distinct}
use Rattle.codes.specs.Code.{Code, rows, columns, total, IsArray, differs, differs_at, flags_from, wrong_count}
use Rattle.codes.proofs.Parts.{index-cons, row_length, rest_length, empty}
use Rattle.codes.proofs.Proper.{neither, Proper}
use Rattle.codes.proofs.Flags.{points_where, count_where, where_exactly, all_where, distinct_where, where_mem, mem_self}

abbrev pub Agree : ℕ → ℕ → ℕ → List ℕ → List ℕ → Type 0
Agree zero n i a b = Unit {0}
Agree (suc r) n i a b = (get_or a i 0 ≡ get_or b i 0) × Agree r n i (drop n a) (drop n b)

same_test : (a b : ℕ) → (not (eqb a b) ≡ false) ↔ (a ≡ b)
same_test a b = (λ e. eqb-true a b (not-false (eqb a b) e), λ e. ap not (eq-eqb a b e))

pub agree_exactly : (r n i : ℕ) (a b : List ℕ) → (differs r n i a b ≡ false) ↔ Agree r n i a b
unfolding differs
agree_exactly zero n i a b = (λ e. tt, λ h. refl)
agree_exactly (suc r) n i a b = Iff.trans
    (neither (not (eqb (get_or a i 0) (get_or b i 0))) (differs r n i (drop n a) (drop n b)))
    (Iff.and (same_test (get_or a i 0) (get_or b i 0)) (agree_exactly r n i (drop n a) (drop n b)))

next_row : (n l i : ℕ) (a : List ℕ) → get_or (drop n a) (l * n + i) 0 ≡ get_or a (suc l * n + i) 0
next_row n l i a = get_or-drop n a (l * n + i) 0 ∙ ap (λ (j : ℕ). get_or a j 0) (omega (arith, suc-mul l n))

pub agree_at : (r n i : ℕ) (a b : List ℕ) → Agree r n i a b ↔ ((l : ℕ) → l < r → get_or a (l * n + i) 0 ≡ get_or b (l * n + i) 0)
agree_at zero n i a b = (λ h l q. absurd (omega arith), λ h. tt)
agree_at (suc r) n i a b = Iff.trans (Iff.and (first.1, first.0) (Iff.trans (agree_at r n i (drop n a) (drop n b)) others))
    (index-cons (λ (l : ℕ). get_or a (l * n + i) 0 ≡ get_or b (l * n + i) 0) r)
  where
    first : (get_or a (0 * n + i) 0 ≡ get_or b (0 * n + i) 0) ↔ (get_or a i 0 ≡ get_or b i 0)
    first = rw (zero-mul n, zero-add i) (λ h. h, λ h. h)

    others : ((l : ℕ) → l < r → get_or (drop n a) (l * n + i) 0 ≡ get_or (drop n b) (l * n + i) 0)
        ↔ ((l : ℕ) → l < r → get_or a (suc l * n + i) 0 ≡ get_or b (suc l * n + i) 0)
    others = (
      λ h l q. sym (next_row n l i a) ∙ h l q ∙ next_row n l i b,
      λ h l q. next_row n l i a ∙ h l q ∙ sym (next_row n l i b),
    )

-- 'Two arrays differ in a column if any row differs there.'
pub differs_exactly : (r n i : ℕ) (a b : List ℕ)
    → (differs r n i a b ≡ false) ↔ ((l : ℕ) → l < r → get_or a (l * n + i) 0 ≡ get_or b (l * n + i) 0)
differs_exactly r n i a b = Iff.trans (agree_exactly r n i a b) (agree_at r n i a b)

rows_same : (r n : ℕ) (a b : List ℕ) → length a ≡ r * n → length b ≡ r * n → ((i : ℕ) → i < n → Agree r n i a b) → a ≡ b
rows_same zero n a b l k h = sym (empty a (l ∙ zero-mul n)) ∙ empty b (k ∙ zero-mul n)
rows_same (suc r) n a b l k h =
    let la : length (take n a) ≡ n = row_length r n a l in
    let lb : length (take n b) ≡ n = row_length r n b k in
    let at : (i : ℕ) → i < length (take n a) → get_or (take n a) i 0 ≡ get_or (take n b) i 0 = λ i q.
    let q' : i < n = omega arith in
    get_or-take n a i 0 q' ∙ (h i q').0 ∙ sym (get_or-take n b i 0 q') in
    let others : drop n a ≡ drop n b = rows_same r n (drop n a) (drop n b) (rest_length r n a l) (rest_length r n b k) (λ i q. (h i q).1) in
    sym (take-append-drop n a) ∙ ap₂ ◌++◌ (ext_get_or 0 (take n a) (take n b) (omega arith) at) others ∙ take-append-drop n b

pub same_arrays : (c : Code) {a b : List ℕ} → IsArray c a → IsArray c b → ((i : ℕ) → i < columns c → differs_at c a b i ≡ false)
    → a ≡ b
same_arrays c {a} {b} h k e =
    rows_same (rows c) (columns c) a b h.count k.count (λ i q. (agree_exactly (rows c) (columns c) i a b).0 (e i q))

eqb_comm : (a b : ℕ) → eqb a b ≡ eqb b a
eqb_comm a b = go (ℕ_discrete a b)
  where
    go : Dec (a ≡ b) → eqb a b ≡ eqb b a
    go (yes e) = eq-eqb a b e ∙ sym (eq-eqb b a (sym e))
    go (no h) = ne_eqb a b h ∙ sym (ne_eqb b a (λ e. h (sym e)))

differs_comm : (r n i : ℕ) (a b : List ℕ) → differs r n i a b ≡ differs r n i b a
unfolding differs
differs_comm zero n i a b = refl
differs_comm (suc r) n i a b =
    ap₂ ◌||◌ (ap not (eqb_comm (get_or a i 0) (get_or b i 0))) (differs_comm r n i (drop n a) (drop n b))

pub count_comm : (c : Code) (a b : List ℕ) → wrong_count c a b ≡ wrong_count c b a
count_comm c a b =
    ap (λ (f : ℕ → Bool). total (flags_from f 0 (columns c))) (fun_ext (λ i. differs_comm (rows c) (columns c) i a b))

abbrev pub wrong_points : Code → List ℕ → List ℕ → List ℕ
wrong_points c a b = points_where (differs_at c a b) c.points

module _ (c : Code) (a b : List ℕ) where
  pub wrong_count_lem : length (wrong_points c a b) ≡ wrong_count c a b
  wrong_count_lem = count_where (differs_at c a b) c.points

  -- what holds at every wrong point holds at every column or all rows agree there
  pub wrong_exactly : (P : ℕ → Type 0)
      → All P (wrong_points c a b) ↔ ((i : ℕ) → i < columns c → P (get_or c.points i 0) ⊎ (differs_at c a b i ≡ false))
  wrong_exactly P = where_exactly P (differs_at c a b) c.points 0

  pub no_wrong : IsArray c a → IsArray c b → wrong_count c a b ≡ 0 → a ≡ b
  no_wrong h k e =
      let none : All (λ (x : ℕ). ⊥) (wrong_points c a b) =
      subst (All (λ (x : ℕ). ⊥)) (empty (wrong_points c a b) (wrong_count_lem ∙ e)) tt in
      same_arrays c h k (λ i q. ⊎_elim absurd (λ d. d) ((wrong_exactly (λ (x : ℕ). ⊥)).0 none i q))

  module _ (p : Proper c) where
    pub wrong_distinct : Distinct (wrong_points c a b)
    wrong_distinct = distinct_where (differs_at c a b) c.points p.distinct

    pub wrong_symbols : All (IsSymbol c.degree) (wrong_points c a b)
    wrong_symbols = all_where (IsSymbol c.degree) (differs_at c a b) c.points p.symbols

    -- a column differs exactly when its point is a wrong one
    pub wrong_at : (i : ℕ) → i < columns c → (differs_at c a b i ≡ true) ↔ Mem (get_or c.points i 0) (wrong_points c a b)
    wrong_at = where_mem (differs_at c a b) c.points 0 p.distinct

  -- away from the wrong points all rows agree
  pub right_elsewhere : (i : ℕ) → i < columns c → ¬ Mem (get_or c.points i 0) (wrong_points c a b)
      → Agree (rows c) (columns c) i a b
  right_elsewhere i q h = (agree_exactly (rows c) (columns c) i a b).0
      (⊎_elim (λ m. absurd (h m)) (λ d. d) ((wrong_exactly (λ (x : ℕ). Mem x (wrong_points c a b))).0 (mem_self (wrong_points c a b)) i q))
