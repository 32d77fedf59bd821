-- The decoder as a function on lists: what the code computes. Every decision is an argument of a helper.
--
--   rows_of c y           of each row, the points from k on with the values that k rounds of divided differences leave there
--   lines_of c y          the solver's lines for these rows
--   filled c y fs        y with each column whose flag is not 0 filled in, row by row, from the first k columns whose flag is 0
--   Outcome              an ending and what it leaves in the buffers
--   decided c y τ lent   the outcome of decoding y up to τ
-- Assumes nothing.
use mathlib.Core.Path.{◌≡◌}
use mathlib.Core.List.{List, [], ◌∷◌, ◌++◌, zip}
use mathlib.Core.Option.{Option, none, some}
use Prim.Native.Nat.{ℕ, zero, suc, ◌*◌, ◌≤◌, ◌<◌}
use native.Mathlib.Decide.{ℕ_discrete, dec_le, dec_lt}
use lib.ListN.{length, take, drop}
use Rattle.field.specs.Arithmetic.{Arithmetic, gf}
use Rattle.poly.proofs.Forms.{reduce, newton_value_lem}
use Rattle.codes.specs.Code.{Code, rows}
use Rattle.codes.specs.Lost.{right}
use Rattle.basis.proofs.Lines.{Row, Line, solve, least, another, size, locator_of_lem}
use Rattle.basis.proofs.Scan.{IfFound}
use Rattle.ending.specs.Endings.{Buffers}
use Rattle.ending.specs.declared.Ending.{Ending}
use Rattle.ending.specs.declared.Ending.TheVariants.{Corrected, Nothing, Several, Hollow}
use Rattle.ending.proofs.WrongColumns.{root_flags, root_count}

module _ {K : Type 0} (A : Arithmetic K) where
  unfoldable pub reduced_rows : List K → List ℕ → List K → List (Row K)
  reduced_rows xs [] y = []
  reduced_rows xs (k ∷ ks) y =
      zip (drop k xs) (drop k (reduce A k xs (take (length xs) y))) ∷ reduced_rows xs ks (drop (length xs) y)

  -- the row ys; where the flag is not 0, the value at that point from the k Newton coefficients us at the points gs
  unfoldable pub filled_row : ℕ → List K → List K → List ℕ → List K → List K → List K
  filled_row k gs us [] xs ys = []
  filled_row k gs us (f ∷ fs) [] ys = []
  filled_row k gs us (f ∷ fs) (x ∷ xs) [] = []
  filled_row k gs us (zero ∷ fs) (x ∷ xs) (y ∷ ys) = y ∷ filled_row k gs us fs xs ys
  filled_row k gs us (suc f ∷ fs) (x ∷ xs) (y ∷ ys) = newton_value_lem A k gs us x ∷ filled_row k gs us fs xs ys

  -- so with the Newton coefficients at the first k columns whose flag is 0
  unfoldable pub filled_in : ℕ → List ℕ → List K → List K → List K
  filled_in k fs xs ys =
      let gs : List K = take k (right fs xs) in
      filled_row k gs (reduce A k gs (take k (right fs ys))) fs xs ys

  unfoldable pub filled_rows : List ℕ → List K → List ℕ → List K → List K
  filled_rows fs xs [] y = []
  filled_rows fs xs (k ∷ ks) y = filled_in k fs xs (take (length xs) y) ++ filled_rows fs xs ks (drop (length xs) y)

abbrev pub rows_of : Code → List ℕ → List (Row ℕ)
rows_of c y = reduced_rows (gf c.degree) c.points c.lengths y

abbrev pub lines_of : Code → List ℕ → List (Line ℕ)
lines_of c y = solve (gf c.degree) ℕ_discrete (rows_of c y)

abbrev pub filled : Code → List ℕ → List ℕ → List ℕ
filled c y fs = filled_rows (gf c.degree) fs c.points c.lengths y

abbrev pub Outcome : Type 0
Outcome = Ending × Buffers

-- the lead of the line that o holds, if any, is above m
abbrev pub Beyond : ℕ → Option (Line ℕ) → Type 0
Beyond m o = IfFound (λ (q : Line ℕ). m < q.lead) o

unfoldable pub beyond : (m : ℕ) (o : Option (Line ℕ)) → Dec (Beyond m o)
beyond m none = yes tt
beyond m (some q) = dec_lt m q.lead

module _ (c : Code) (y : List ℕ) (lent : Buffers) where
  -- one locator alone, of the least size t: has it t roots among the points?
  unfoldable pub divided : (t : ℕ) (E : List ℕ) → Dec (root_count c E ≡ t) → Outcome
  divided t E (yes h) = (Corrected t, record { array = filled c y (root_flags c E); flags = root_flags c E })
  divided t E (no h) = (Hollow t, lent)

  -- g is the line of lowest lead, and t its size, not above the limit: is the next line's lead beyond that size?
  unfoldable pub alone : (t : ℕ) (g : Line ℕ) (next : Option (Line ℕ)) → Dec (Beyond (t * suc (rows c)) next) → Outcome
  alone t g next (yes h) =
      let E : List ℕ = locator_of_lem (gf c.degree) t g in
      divided t E (ℕ_discrete (root_count c E) t)
  alone t g next (no h) = (Several t, lent)

  -- is the least size t not above the limit?
  unfoldable pub within : (τ t : ℕ) (g : Line ℕ) → Dec (t ≤ τ) → Outcome
  within τ t g (yes h) =
      let next : Option (Line ℕ) = another g.lead (lines_of c y) in
      alone t g next (beyond (t * suc (rows c)) next)
  within τ t g (no h) = (Nothing, lent)

  -- some line has the lowest lead: the first case never comes up
  unfoldable pub lowest : ℕ → Option (Line ℕ) → Outcome
  lowest τ none = (Nothing, lent)
  lowest τ (some g) =
      let t : ℕ = size (rows c) g.lead in
      within τ t g (dec_le t τ)

unfoldable pub decided : Code → List ℕ → ℕ → Buffers → Outcome
decided c y τ lent = lowest c y lent τ (least (lines_of c y))
