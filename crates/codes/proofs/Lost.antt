-- The code of the remaining columns, and what the checks of lost columns leave true of it.
--
--   columns_test        lost columns pass check 16 exactly when they are below n and distinct
--   lost_length         there is a flag for each column
--   lost_more, lost-none    one lost column more is one flag set; without lost columns no flag is
--   lost_count          as many flags are set as columns are lost
--   core-columns        remaining and lost columns are all of them
--   core_proper, core_counts, core_array    what holds of a code, and of an array, holds of what is left
--   encoded-core        the code array of a message, over the remaining columns
--   code_core           a code array leaves one; full_code, each is left by one, and core_code, by no other
--   core_none, core_of_none, none_limit, none_remaining    with nothing lost everything is left, and the checks are those of decoding
--   joint_same          the joint limit reads the points' number alone
--   Remains             what 16, 17 and 8 leave; remains, from them
--   PassedLost          what all checks leave; lost_passed, from them
--   core_with           what is left of an array multiplied by factors, or divided, is what is left, so treated with what is left of them
-- Assumes nothing.
use mathlib.Core.Path.{◌≡◌, refl, sym, ap, ap₂, ◌∙◌}
use mathlib.Core.Logic.{◌↔◌}
use mathlib.Core.Bool.{Bool, false, ◌||◌}
use mathlib.Core.List.{List, [], ◌∷◌, ◌++◌}
use Prim.Native.Nat.{ℕ, zero, suc, ◌+◌, ◌-◌, ◌*◌, ◌≤◌, ◌<◌}
use native.Mathlib.Nat.{zero-add, zero-mul, mul-le-mul}
use native.Mathlib.Decide.{ℕ_discrete}
use native.Mathlib.Omega.{arith}
use lib.ListN.{length, get_or, set, take, drop, length-set, take-append-drop}
use lib.Seq.{ext_get_or, get_or-set_same, get_or-set_other, take_at, drop_at}
use lib.Dec.{ltb}
use borrow.Author.Tests.{eq-eqb, ne_eqb, ltb-false, le-ltb}
use Rattle.refusal.specs.Refusal.{◌when◌, first, some_outside, is_in, repeated, bad_columns}
use Rattle.refusal.proofs.Ladders.{miss, clear, same_behind}
use Rattle.field.specs.Symbols.{IsSymbol}
use Rattle.field.specs.Arithmetic.{Arithmetic, gf}
use Rattle.field.proofs.Laws.{Field}
use Rattle.poly.specs.Poly.{All, value, values_at}
use Rattle.poly.proofs.Roots.{Distinct}
use Rattle.codes.specs.Code.{Code, code_of, columns, rows, total, largest, joint_limit, flag, flags_from}
use Rattle.codes.specs.Code.{IsMessage, IsArray, encoded_rows, encoded, CodeArray}
use Rattle.codes.specs.Lost.{lost_flags, right, right_rows, core, core_of}
use Rattle.codes.specs.Factors.{Description, with_factors_row, with_factors}
use Rattle.codes.specs.Checks.{array_checks_of, decode_checks, remaining_checks, lost_checks}
use Rattle.codes.proofs.Parts.{all_map, row_length, rest_length, empty}
use Rattle.codes.proofs.Proper.{Within, Proper, neither, lengths_test, absent_test, distinct_test}
use Rattle.codes.proofs.Factors.{Factors, made_row, made_rest}
use Rattle.codes.proofs.Passed.{Counts, counted, total-most, largest-most, PassedArray, arrays}
use Rattle.codes.proofs.Flags.{flags-length, flag_here}
use Rattle.codes.proofs.Messages.{first_row, other_rows, one_message}
use Rattle.codes.proofs.Right.{all_right, distinct_right, right_flags, right_same, right-map, right_all, length-rows, all_rows}

-- lost columns, each below n and none named twice
pub record Lost (n : ℕ) (L : List ℕ) : Type 0 where
  pub below : All (λ (i : ℕ). i < n) L
  pub distinct : Distinct L

pub columns_test : (n : ℕ) (L : List ℕ) → 1 ≤ n → (bad_columns n L ≡ false) ↔ Lost n L
unfolding bad_columns
columns_test n L some = (
  λ e. let both = (neither (some_outside 0 (n - 1) L) (repeated L)).0 e in
      record {
        below = all_map _ (λ (i : ℕ). i < n) L (λ i h. omega (arith, h.1)) ((lengths_test 0 (n - 1) L).0 both.0);
        distinct = (distinct_test L).0 both.1;
      },
  λ h. (neither (some_outside 0 (n - 1) L) (repeated L)).1 (
    (lengths_test 0 (n - 1) L).1 (all_map (λ (i : ℕ). i < n) _ L (λ i q. (omega arith, omega arith)) h.below),
    (distinct_test L).1 h.distinct,
  ),
)

pub lost_length : (n : ℕ) (L : List ℕ) → length (lost_flags n L) ≡ n
lost_length n L = flags-length (λ i. is_in i L) 0 n

pub lost_more : (n i : ℕ) (L : List ℕ) → i < n → set (lost_flags n L) i 1 ≡ lost_flags n (i ∷ L)
unfolding is_in
lost_more n i L q = ext_get_or 0 (set (lost_flags n L) i 1) (lost_flags n (i ∷ L))
    (length-set (lost_flags n L) i 1 ∙ lost_length n L ∙ sym (lost_length n (i ∷ L)))
    (λ j h. at j (omega (arith, length-set (lost_flags n L) i 1, lost_length n L)) (ℕ_discrete j i))
  where
    at : (j : ℕ) → j < n → Dec (j ≡ i) → get_or (set (lost_flags n L) i 1) j 0 ≡ get_or (lost_flags n (i ∷ L)) j 0
    at j h (yes e) =
        ap (λ (k : ℕ). get_or (set (lost_flags n L) i 1) k 0) e
        ∙ get_or-set_same (lost_flags n L) i 1 0 (omega (arith, lost_length n L))
        ∙ sym (flag_here (λ k. is_in k (i ∷ L)) n j h ∙ ap (λ (b : Bool). flag (b || is_in j L)) (eq-eqb j i e))
    at j h (no e) =
        get_or-set_other (lost_flags n L) i j 1 0 e
        ∙ flag_here (λ k. is_in k L) n j h
        ∙ sym (flag_here (λ k. is_in k (i ∷ L)) n j h ∙ ap (λ (b : Bool). flag (b || is_in j L)) (ne_eqb j i e))

pub no_flags : (f : ℕ → Bool) (i n : ℕ) → ((j : ℕ) → f j ≡ false) → total (flags_from f i n) ≡ 0
unfolding flags_from total
no_flags f i zero h = refl
no_flags f i (suc n) h = rw (h i) (zero-add (total (flags_from f (suc i) n)) ∙ no_flags f (suc i) n h)

total-set : (l : List ℕ) (i : ℕ) → i < length l → get_or l i 0 ≡ 0 → total (set l i 1) ≡ suc (total l)
unfolding total
total-set [] i q e = absurd (omega arith)
total-set (a ∷ l) zero q e = omega arith
total-set (a ∷ l) (suc i) q e = omega (arith, total-set l i (omega arith) e)

pub lost_count : (n : ℕ) (L : List ℕ) → Lost n L → total (lost_flags n L) ≡ length L
unfolding is_in
lost_count n [] h = no_flags (λ i. is_in i []) 0 n (λ j. refl)
lost_count n (i ∷ L) h =
    let free : get_or (lost_flags n L) i 0 ≡ 0 =
    flag_here (λ k. is_in k L) n i h.below.0 ∙ ap flag ((absent_test i L).1 h.distinct.0) in
    ap total (sym (lost_more n i L h.below.0))
    ∙ total-set (lost_flags n L) i (omega (arith, lost_length n L, h.below.0)) free
    ∙ ap suc (lost_count n L (record { below = h.below.1; distinct = h.distinct.1 }))

pub joint_same : (d d' : ℕ) (xs ys ks : List ℕ) → length xs ≡ length ys → joint_limit (code_of d xs ks) ≡ joint_limit (code_of d' ys ks)
unfolding joint_limit
joint_same d d' xs ys ks e = rw e

pub within_largest : (m n : ℕ) (ks : List ℕ) → Within 1 m ks → largest ks ≤ n → Within 1 n ks
unfolding largest
within_largest m n [] h q = tt
within_largest m n (k ∷ ks) h q = ((h.0.0, omega arith), within_largest m n ks h.1 (omega arith))

some_length : (n : ℕ) (ks : List ℕ) → Within 1 n ks → 1 ≤ length ks → 1 ≤ largest ks
unfolding largest
some_length n [] w q = absurd (omega arith)
some_length n (k ∷ ks) w q = omega (arith, w.0.0)

module _ (c : Code) (L : List ℕ) where
  abbrev n : ℕ
  n = columns c

  abbrev fs : List ℕ
  fs = lost_flags n L

  pub core-columns : Lost n L → columns (core c L) + length L ≡ n
  core-columns h = omega (arith, right_flags (λ i. is_in i L) 0 c.points, lost_count n L h)

  pub core_few : columns (core c L) ≤ n
  core_few = omega (arith, right_flags (λ i. is_in i L) 0 c.points)

  module _ (p : Proper c) (enough : largest c.lengths ≤ columns (core c L)) where
    pub core_within : Within 1 (columns (core c L)) c.lengths
    core_within = within_largest n (columns (core c L)) c.lengths p.lengths enough

    pub core_proper : Proper (core c L)
    core_proper = record {
      field = p.field;
      symbols = all_right (IsSymbol c.degree) fs c.points p.symbols;
      distinct = distinct_right fs c.points p.distinct;
      lengths = core_within;
    }

    pub core_counts : Counts c → Counts (core c L)
    core_counts h = let few : columns (core c L) ≤ 96 = omega (arith, core_few, h.most_columns) in record {
      degree = h.degree;
      some_rows = h.some_rows;
      most_rows = h.most_rows;
      some_columns = omega (arith, some_length n c.lengths p.lengths h.some_rows);
      most_columns = few;
      lengths = core_within;
      fits = total-most (columns (core c L)) c.lengths core_within;
      cells = mul-le-mul h.most_rows few;
    }

  pub core_array : {y : List ℕ} → IsArray c y → IsArray (core c L) (core_of c L y)
  core_array {y} h = record {
    count = length-rows fs n (lost_length n L) c.points refl (rows c) y h.count;
    symbols = all_rows fs n (lost_length n L) (IsSymbol c.degree) (rows c) y h.symbols;
  }

nothing : (l : List ℕ) → right (lost_flags (length l) []) l ≡ l
unfolding is_in
nothing l = right_all (λ i. is_in i []) 0 l (λ j. refl)

right_values : (A : Arithmetic ℕ) (fs xs f : List ℕ) → right fs (values_at A xs f) ≡ values_at A (right fs xs) f
unfolding values_at
right_values A fs xs f = right-map (value A f) fs xs

rows-core : (A : Arithmetic ℕ) → Field A → (fs xs ks m : List ℕ)
    → encoded_rows A (right fs xs) ks m ≡ right_rows fs (length xs) (length ks) (encoded_rows A xs ks m)
unfolding right_rows encoded_rows
rows-core A 𝓕 fs xs [] m = refl
rows-core A 𝓕 fs xs (k ∷ ks) m = ap₂ ◌++◌
    (sym (ap (right fs) (first_row A 𝓕 xs k ks m) ∙ right_values A fs xs (take k m)))
    (rows-core A 𝓕 fs xs ks (drop k m) ∙ ap (right_rows fs (length xs) (length ks)) (sym (other_rows A 𝓕 xs k ks m)))

module _ (c : Code) (L : List ℕ) (p : Proper c) where
  pub encoded-core : (m : List ℕ) → encoded (core c L) m ≡ core_of c L (encoded c m)
  encoded-core m = rows-core (gf c.degree) p.field (lost_flags (columns c) L) c.points c.lengths m

  -- the messages of the code are those of the code that is left
  pub core_message : {m : List ℕ} → IsMessage c m → IsMessage (core c L) m
  core_message h = record { count = h.count; symbols = h.symbols }

  pub full_message : {m : List ℕ} → IsMessage (core c L) m → IsMessage c m
  full_message h = record { count = h.count; symbols = h.symbols }

  pub code_core : {a : List ℕ} → CodeArray c a → CodeArray (core c L) (core_of c L a)
  code_core (m, i, e) = (m, core_message i, encoded-core m ∙ ap (core_of c L) e)

  pub full_code : {a : List ℕ} → CodeArray (core c L) a → (b : List ℕ) × CodeArray c b × (core_of c L b ≡ a)
  full_code (m, i, e) = (encoded c m, (m, full_message i, refl), sym (encoded-core m) ∙ e)

  -- 'fixed by the remaining columns'
  pub core_code : largest c.lengths ≤ columns (core c L) → {a b : List ℕ} → CodeArray c a → CodeArray c b
      → core_of c L a ≡ core_of c L b → a ≡ b
  core_code enough {a} {b} (m, i, e) (m', i', e') h =
      let same : m ≡ m' = one_message (core_proper c L p enough) (core_message i) (core_message i')
      (encoded-core m ∙ ap (core_of c L) e ∙ h ∙ sym (encoded-core m' ∙ ap (core_of c L) e')) in
      sym e ∙ ap (encoded c) same ∙ e'

-- with nothing lost

none_rows : (n r : ℕ) (y : List ℕ) → length y ≡ r * n → right_rows (lost_flags n []) n r y ≡ y
unfolding right_rows
none_rows n zero y l = empty y (l ∙ zero-mul n)
none_rows n (suc r) y l = ap₂ ◌++◌ (row (row_length r n y l)) (none_rows n r (drop n y) (rest_length r n y l)) ∙ take-append-drop n y
  where
    row : length (take n y) ≡ n → right (lost_flags n []) (take n y) ≡ take n y
    row e = ap (λ (j : ℕ). right (lost_flags j []) (take n y)) (sym e) ∙ nothing (take n y)

pub core_none : (c : Code) → core c [] ≡ c
core_none c i = record { degree = c.degree; points = nothing c.points i; lengths = c.lengths }

pub core_of_none : (c : Code) {y : List ℕ} → IsArray c y → core_of c [] y ≡ y
core_of_none c {y} h = none_rows (columns c) (rows c) y h.count

none_columns : (n : ℕ) → bad_columns n [] ≡ false
unfolding bad_columns some_outside repeated
none_columns n = refl

-- 'the case with nothing lost': the checks are those of decoding
pub none_limit : (c : Code) (τ : ℕ) → Within 1 (columns c) c.lengths
    → first (remaining_checks c τ []) ≡ first ((8 when ltb (joint_limit c) τ) ∷ [])
none_limit c τ w =
    miss 16 _ _ (none_columns (columns c))
    ∙ miss 17 _ _ (ap (λ (d : Code). ltb (columns d) (largest c.lengths)) (core_none c)
    ∙ le-ltb (columns c) _ (largest-most (columns c) c.lengths w))
    ∙ ap (λ (d : Code). first ((8 when ltb (joint_limit d) τ) ∷ [])) (core_none c)

pub none_remaining : (D : Description) (τ : ℕ) (y a f w : List ℕ) → first (lost_checks D τ [] y a f w) ≡ first (decode_checks D τ y a f w)
none_remaining D τ y a f w = same_behind (array_checks_of D y a f w) (remaining_checks D.code τ []) _ tt
    (λ e. none_limit D.code τ (counted D.code _ e).0.lengths)

-- what the checks leave

pub record Remains (c : Code) (τ : ℕ) (L : List ℕ) : Type 0 where
  pub lost : Lost (columns c) L
  pub enough : largest c.lengths ≤ columns (core c L)
  pub limit : τ ≤ joint_limit (core c L)

pub remains : (c : Code) (τ : ℕ) (L : List ℕ) → 1 ≤ columns c → 0 ≡ first (remaining_checks c τ L) → Remains c τ L
remains c τ L some e =
    let p = clear 15 _ _ e in
    let q = clear 16 _ _ p.1 in
    record {
      lost = (columns_test (columns c) L some).0 p.0;
      enough = ltb-false (columns (core c L)) (largest c.lengths) q.0;
      limit = ltb-false (joint_limit (core c L)) τ (clear 7 _ _ q.1).0;
    }

pub record PassedLost (c : Code) (τ : ℕ) (L y a f w : List ℕ) : Type 0 where
  pub array : PassedArray c y a f w
  pub remain : Remains c τ L

pub lost_passed : (D : Description) (τ : ℕ) (L y a f w : List ℕ) → 0 ≡ first (lost_checks D τ L y a f w)
    → PassedLost D.code τ L y a f w × Factors D
lost_passed D τ L y a f w e =
    let (array, factors, rest) = arrays D y a f w _ e in
    (record { array = array; remain = remains D.code τ L array.counts.some_columns rest }, factors)

-- with factors

module _ (f : ℕ → ℕ → ℕ) where
  right_row : (ls fs a : List ℕ) → length a ≡ length fs → right ls (with_factors_row f fs a) ≡ with_factors_row f (right ls fs) (right ls a)
  unfolding right with_factors_row
  right_row [] fs a e = refl
  right_row (l ∷ ls) [] a e = refl
  right_row (l ∷ ls) (g ∷ fs) [] e = absurd (omega arith)
  right_row (zero ∷ ls) (g ∷ fs) (s ∷ a) e = ap (◌∷◌ (f g s)) (right_row ls fs a (omega arith))
  right_row (suc l ∷ ls) (g ∷ fs) (s ∷ a) e = right_row ls fs a (omega arith)

  pub core_with : (ls fs : List ℕ) → length ls ≡ length fs → (r : ℕ) (y : List ℕ) → length y ≡ r * length fs
      → right_rows ls (length fs) r (with_factors f fs r y) ≡ with_factors f (right ls fs) r (right_rows ls (length fs) r y)
  unfolding with_factors right_rows
  core_with ls fs d zero y e = refl
  core_with ls fs d (suc r) y e =
      let n : ℕ = length fs in
      let row : List ℕ = right ls (take n y) in
      let rest : List ℕ = right_rows ls n r (drop n y) in
      let same : length row ≡ length (right ls fs) = right_same ls (take n y) fs (row_length r n y e ∙ sym d) (sym d) in
      ap₂ ◌++◌
      (ap (right ls) (made_row f fs r y e) ∙ right_row ls fs (take n y) (row_length r n y e)
      ∙ ap (with_factors_row f (right ls fs)) (sym (take_at row rest (length (right ls fs)) same)))
      (ap (right_rows ls n r) (made_rest f fs r y e) ∙ core_with ls fs d r (drop n y) (rest_length r n y e)
      ∙ ap (with_factors f (right ls fs) r) (sym (drop_at row rest (length (right ls fs)) same)))
