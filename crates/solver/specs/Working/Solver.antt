-- What a step and a run make of the memory, whichever lines it holds, with the points xs of the conditions and s lines; and
-- what the solver makes of it.
--
--   HoldsSome …    the memory holds some lines
--   Steps …        from before the condition i to behind it: the lines of a step
--   Runs …         from before the first condition to behind the last: the lines of a run
--   RowsAre ns xs us rows    rows with ns conditions, which have the points xs and the values us, one row after another
--   SomeRows …     there are such rows
--   Solves …       the memory holds the solver's lines, for the rows that are so
use Rattle.std.specs.Prelude.{◌≡◌, List, ℕ, suc, ◌+◌, length, get_or, drop}
use Rattle.std.proofs.Math.Decide.{ℕ_discrete}
use Rattle.field.specs.Arithmetic.{gf}
use Rattle.basis.proofs.Lines.{Line, Row, step, run, solve}
use Rattle.solver.specs.Working.Held.{HoldsLines}
use Rattle.solver.specs.Working.Start.{counts_of, points_of, values_of}

abbrev pub HoldsSome : (d C s i : ℕ) (leads space : List ℕ) → Type 0
HoldsSome d C s i leads space = (es : List (Line ℕ)) × HoldsLines d C s i leads space es

module _ (d : ℕ) (xs : List ℕ) (s : ℕ) where
  abbrev pub Steps : ℕ → (leads space leads' space' : List ℕ) → Type 0
  Steps i leads space leads' space' =
      (es : List (Line ℕ)) → HoldsLines d (length xs) s i leads space es
      → HoldsLines d (length xs) s (i + 1) leads' space' (step (gf d) ℕ_discrete s (get_or xs i 0) (drop (i + 1) xs) es)

  abbrev pub Runs : (leads space leads' space' : List ℕ) → Type 0
  Runs leads space leads' space' =
      (es : List (Line ℕ)) → HoldsLines d (length xs) s 0 leads space es
      → HoldsLines d (length xs) s (length xs) leads' space' (run (gf d) ℕ_discrete s xs es)

pub record RowsAre (ns xs us : List ℕ) (rows : List (Row ℕ)) : Type 0 where
  pub counts : counts_of rows ≡ ns
  pub points : points_of rows ≡ xs
  pub values : values_of rows ≡ us

abbrev pub SomeRows : (ns xs us : List ℕ) → Type 0
SomeRows ns xs us = (rows : List (Row ℕ)) × RowsAre ns xs us rows

abbrev pub Solves : (d : ℕ) (ns xs us leads space : List ℕ) → Type 0
Solves d ns xs us leads space =
    (rows : List (Row ℕ)) → RowsAre ns xs us rows
    → HoldsLines d (length xs) (suc (length rows)) (length xs) leads space (solve (gf d) ℕ_discrete rows)
