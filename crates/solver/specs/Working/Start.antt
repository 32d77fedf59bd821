-- How the memory starts.
--
--   all_counts ns        the sum of the numbers ns
--   zero_line l          a line of zeros
--   first_slots us l     the first line: the values us, and the locator 1
--   row_slots at n l     the line of a row: the value 1 at its n conditions, the first of which is number at, and else 0
--   row_line ns j l      with rows of ns conditions, what becomes of line j: line 0 stays as it is, and line j + 1 is that of row j
--   counts_of, points_of, values_of rows    how many conditions each row has; the points and the values of them all
--   Starts us ns leads space    the memory holds the lines of the start, for any rows that have ns conditions and the values us
use Rattle.std.specs.Prelude.{◌≡◌, false, List, [], ◌∷◌, map, ℕ, zero, suc, ◌+◌, length, get_or, take}
use Rattle.patch.specs.Patch.{patch}
use Rattle.patch.specs.Parts.{lay}
use Rattle.refusal.specs.Refusal.{bad_degree}
use Rattle.field.specs.Symbols.{IsSymbol}
use Rattle.field.specs.Arithmetic.{gf}
use Rattle.poly.specs.Poly.{All}
use Rattle.basis.proofs.Lines.{Row, Condition, conditions, start}
use Rattle.solver.specs.Working.Held.{HoldsLines}
use Rattle.solver.specs.Working.Slots.{line_slots}

abbrev pub all_counts : List ℕ → ℕ
all_counts [] = 0
all_counts (n ∷ ns) = n + all_counts ns

unfoldable pub zero_line : List ℕ → List ℕ
zero_line l = patch 0 line_slots (λ k. 0) l

unfoldable pub first_slots : List ℕ → List ℕ → List ℕ
first_slots us l = patch (length us) 1 (λ k. 1) (lay 0 us (zero_line l))

unfoldable pub row_slots : ℕ → ℕ → List ℕ → List ℕ
row_slots at n l = patch at n (λ k. 1) (zero_line l)

abbrev pub row_line : List ℕ → ℕ → List ℕ → List ℕ
row_line ns zero l = l
row_line ns (suc j) l = row_slots (all_counts (take j ns)) (get_or ns j 0) l

abbrev pub counts_of : List (Row ℕ) → List ℕ
counts_of rows = map (λ (row : Row ℕ). length row) rows

abbrev pub points_of : List (Row ℕ) → List ℕ
points_of rows = map (λ (c : Condition ℕ). c.point) (conditions 0 rows)

abbrev pub values_of : List (Row ℕ) → List ℕ
values_of rows = map (λ (c : Condition ℕ). c.value) (conditions 0 rows)

abbrev pub Starts : (us ns leads space : List ℕ) → Type 0
Starts us ns leads space =
    (d : ℕ) → bad_degree d ≡ false → All (IsSymbol d) us → (rows : List (Row ℕ))
    → counts_of rows ≡ ns → values_of rows ≡ us
    → HoldsLines d (length us) (suc (length rows)) 0 leads space (start (gf d) (length rows) (conditions 0 rows))
