-- The values of the start on the line of a row: 1 at the conditions of that row, which are a run of them, and 0 elsewhere.
--
--   Run at n k v    v is 1 where the place k is among n places from at on, and else 0
--   all_counts_next, all_counts_within    the sum of the first numbers, and of one more: no more than of all
--   marks_run       the values on the line of row t are such a run
--   marks_in        they are symbols
-- Assumes nothing.
use mathlib.Core.Path.{◌≡◌, refl, ap, ◌∙◌}
use mathlib.Core.List.{List, [], ◌∷◌, ◌++◌, map}
use Prim.Native.Nat.{ℕ, zero, suc, ◌+◌, ◌-◌, ◌≤◌, ◌<◌}
use native.Mathlib.Nat.{zero-add, add-zero}
use native.Mathlib.Numerals.{add-one}
use native.Mathlib.Decide.{dec_lt}
use native.Mathlib.Omega.{arith}
use lib.ListN.{length, get_or, take}
use Rattle.field.specs.Arithmetic.{gf}
use Rattle.field.proofs.Laws.{Field}
use Rattle.poly.specs.Poly.{All}
use Rattle.basis.proofs.Lines.{Row, Condition, condition, conditions, unit}
use Rattle.solver.specs.Working.Start.{all_counts, counts_of}

pub record Run (at n k v : ℕ) : Type 0 where
  pub before : k < at → v ≡ 0
  pub inside : at ≤ k → k < at + n → v ≡ 1
  pub behind : at + n ≤ k → v ≡ 0

all_counts_more : (ns : List ℕ) (l : ℕ) → l < length ns → all_counts (take l ns) + get_or ns l 0 ≡ all_counts (take (suc l) ns)
all_counts_more [] l lt = absurd (omega arith)
all_counts_more (n ∷ ns) zero lt = omega arith
all_counts_more (n ∷ ns) (suc l) lt = omega (arith, all_counts_more ns l (omega arith))

all_counts_take : (ns : List ℕ) (l : ℕ) → all_counts (take l ns) ≤ all_counts ns
all_counts_take ns zero = omega arith
all_counts_take [] (suc l) = omega arith
all_counts_take (n ∷ ns) (suc l) = omega (arith, all_counts_take ns l)

pub all_counts_next : (ns : List ℕ) (l : ℕ) → l < length ns → all_counts (take l ns) + get_or ns l 0 ≡ all_counts (take (l + 1) ns)
all_counts_next ns l lt = rw add-one (all_counts_more ns l lt)

pub all_counts_within : (ns : List ℕ) (l : ℕ) → l < length ns → all_counts (take l ns) + get_or ns l 0 ≤ all_counts ns
all_counts_within ns l lt = omega (arith, all_counts_more ns l lt, all_counts_take ns (suc l))

unit_same : (d i : ℕ) → unit (gf d) i i ≡ 1
unfolding unit
unit_same d zero = refl
unit_same d (suc i) = unit_same d i

unit_other : (d i j : ℕ) → (i ≡ j → ⊥) → unit (gf d) i j ≡ 0
unfolding unit
unit_other d zero zero h = absurd (h refl)
unit_other d zero (suc j) h = refl
unit_other d (suc i) zero h = refl
unit_other d (suc i) (suc j) h = unit_other d i j (λ e. h (ap suc e))

module _ (d t : ℕ) where
  -- the values on the line of row t at the conditions of rows, the first of which is row j
  abbrev pub marks : ℕ → List (Row ℕ) → List ℕ
  marks j rows = map (λ (c : Condition ℕ). unit (gf d) c.row t) (conditions j rows)

  -- where the conditions of row j come first: at them, and behind them
  own_at : (j : ℕ) (row : Row ℕ) (cs : List (Condition ℕ)) (k : ℕ) → k < length row
      → get_or (map (λ (c : Condition ℕ). unit (gf d) c.row t) (map (condition j) row ++ cs)) k 0 ≡ unit (gf d) j t
  own_at j [] cs k lt = absurd (omega arith)
  own_at j (c ∷ row) cs zero lt = refl
  own_at j (c ∷ row) cs (suc k) lt = own_at j row cs k (omega arith)

  next_at : (j : ℕ) (row : Row ℕ) (cs : List (Condition ℕ)) (n k : ℕ) → k ≡ length row + n
      → get_or (map (λ (c : Condition ℕ). unit (gf d) c.row t) (map (condition j) row ++ cs)) k 0
      ≡ get_or (map (λ (c : Condition ℕ). unit (gf d) c.row t) cs) n 0
  next_at j [] cs n k e = ap (λ (i : ℕ). get_or (map (λ (c : Condition ℕ). unit (gf d) c.row t) cs) i 0) (e ∙ zero-add n)
  next_at j (c ∷ row) cs n zero e = absurd (omega arith)
  next_at j (c ∷ row) cs n (suc k) e = next_at j row cs n k (omega arith)

  marks_late : (j : ℕ) (rows : List (Row ℕ)) → t < j → (k : ℕ) → get_or (marks j rows) k 0 ≡ 0
  marks_late j [] lt k = refl
  marks_late j (row ∷ rows) lt k = go (dec_lt k (length row)) (marks_late (suc j) rows (omega arith) (k - length row))
    where
      go : Dec (k < length row) → get_or (marks (suc j) rows) (k - length row) 0 ≡ 0 → get_or (marks j (row ∷ rows)) k 0 ≡ 0
      go (yes own) ih = own_at j row (conditions (suc j) rows) k own ∙ unit_other d j t (omega arith)
      go (no next) ih = next_at j row (conditions (suc j) rows) (k - length row) k (omega arith) ∙ ih

  run_by : (at n k l : ℕ) {v : ℕ} → l ≤ k → Run at n (k - l) v → Run (l + at) n k v
  run_by at n k l le r =
      record {
        before = λ h. r.before (omega arith);
        inside = λ h g. r.inside (omega arith) (omega arith);
        behind = λ h. r.behind (omega arith);
      }

  pub marks_run : (j l : ℕ) (rows : List (Row ℕ)) → t ≡ j + l → (k : ℕ)
      → Run (all_counts (take l (counts_of rows))) (get_or (counts_of rows) l 0) k (get_or (marks j rows) k 0)
  marks_run j l [] e k = record { before = λ h. refl; inside = λ h g. absurd (omega arith); behind = λ h. refl }
  marks_run j zero (row ∷ rows) e k = go (dec_lt k (length row))
    where
      go : Dec (k < length row) → Run 0 (length row) k (get_or (marks j (row ∷ rows)) k 0)
      go (yes own) =
          record {
            before = λ h. absurd (omega arith);
            inside = λ h g. own_at j row (conditions (suc j) rows) k own ∙ rw e (rw add-zero (unit_same d j));
            behind = λ h. absurd (omega arith);
          }
      go (no next) =
          record {
            before = λ h. absurd (omega arith);
            inside = λ h g. absurd (omega arith);
            behind =
                λ h. next_at j row (conditions (suc j) rows) (k - length row) k (omega arith)
                ∙ marks_late (suc j) rows (omega arith) (k - length row);
          }
  marks_run j (suc l) (row ∷ rows) e k = go (dec_lt k (length row)) (marks_run (suc j) l rows (omega arith) (k - length row))
    where
      go : Dec (k < length row)
          → Run (all_counts (take l (counts_of rows))) (get_or (counts_of rows) l 0) (k - length row)
          (get_or (marks (suc j) rows) (k - length row) 0)
          → Run (length row + all_counts (take l (counts_of rows))) (get_or (counts_of rows) l 0) k (get_or (marks j (row ∷ rows)) k 0)
      go (yes own) r =
          let zero_there : get_or (marks j (row ∷ rows)) k 0 ≡ 0 =
          own_at j row (conditions (suc j) rows) k own ∙ unit_other d j t (omega arith) in
          record { before = λ h. zero_there; inside = λ h g. absurd (omega arith); behind = λ h. zero_there }
      go (no next) r =
          rw (next_at j row (conditions (suc j) rows) (k - length row) k (omega arith)) (run_by _ _ k (length row) (omega arith) r)

  unit_in : Field (gf d) → (i j : ℕ) → (gf d).In (unit (gf d) i j)
  unfolding unit
  unit_in 𝓕 zero zero = 𝓕.one_in
  unit_in 𝓕 zero (suc j) = 𝓕.zero_in
  unit_in 𝓕 (suc i) zero = 𝓕.zero_in
  unit_in 𝓕 (suc i) (suc j) = unit_in 𝓕 i j

  pub marks_in : Field (gf d) → (cs : List (Condition ℕ)) → All (gf d).In (map (λ (c : Condition ℕ). unit (gf d) c.row t) cs)
  marks_in 𝓕 [] = tt
  marks_in 𝓕 (c ∷ cs) = (unit_in 𝓕 c.row t, marks_in 𝓕 cs)
