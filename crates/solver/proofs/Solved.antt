-- The solver's lines in memory, from the start over all conditions.
--
--   points_values, all_counted    as many points as values, and as many as the rows have conditions
--   start_some       the start holds some lines
--   solved           a run from the start holds the solver's lines
-- Assumes nothing.
use mathlib.Core.Path.{◌≡◌, sym, ap, ◌∙◌}
use mathlib.Core.Bool.{false}
use mathlib.Core.List.{List}
use Prim.Native.Nat.{ℕ, suc, ◌+◌}
use native.Mathlib.Omega.{arith}
use lib.ListN.{length, length-map}
use Rattle.refusal.specs.Refusal.{bad_degree}
use Rattle.field.specs.Symbols.{IsSymbol}
use Rattle.field.specs.Arithmetic.{gf}
use Rattle.poly.specs.Poly.{All}
use Rattle.basis.proofs.Lines.{Row, conditions, start, solve}
use Rattle.solver.specs.Working.Held.{HoldsLines}
use Rattle.solver.specs.Working.Start.{all_counts, Starts}
use Rattle.solver.specs.Working.Solver.{HoldsSome, Runs, RowsAre, Solves}
use Rattle.solver.proofs.Started.{counts_total}

module _ (ns xs us : List ℕ) (rows : List (Row ℕ)) (are : RowsAre ns xs us rows) where
  pub points_values : length us ≡ length xs
  points_values =
      sym (ap length are.values) ∙ length-map (conditions 0 rows) _ ∙ sym (length-map (conditions 0 rows) _) ∙ ap length are.points

  pub all_counted : all_counts ns ≡ length us
  all_counted =
      sym (ap all_counts are.counts) ∙ counts_total 0 rows ∙ sym (length-map (conditions 0 rows) _) ∙ ap length are.values

  lines : length ns + 1 ≡ suc (length rows)
  lines = omega (arith, ap length are.counts, length-map rows (λ (row : Row ℕ). length row))

  module _ (d : ℕ) (good : bad_degree d ≡ false) (symbols : All (IsSymbol d) us)
      (leads space : List ℕ) (begin : Starts us ns leads space) where
    start_holds : HoldsLines d (length xs) (length ns + 1) 0 leads space (start (gf d) (length rows) (conditions 0 rows))
    start_holds = rw (lines, ← points_values) (begin d good symbols rows are.counts are.values)

    pub start_some : HoldsSome d (length xs) (length ns + 1) 0 leads space
    start_some = (start (gf d) (length rows) (conditions 0 rows), start_holds)

pub solved : (d : ℕ) → bad_degree d ≡ false → (ns xs us : List ℕ) → All (IsSymbol d) us → (leads space leads' space' : List ℕ)
    → Starts us ns leads space → Runs d xs (length ns + 1) leads space leads' space' → Solves d ns xs us leads' space'
unfolding solve
solved d good ns xs us symbols leads space leads' space' begin run rows are =
    rw (are.points, ← (lines ns xs us rows are)) (run _ (start_holds ns xs us rows are d good symbols leads space begin))
