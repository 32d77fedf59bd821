-- The scan for a line, by its number.
--
--   numbers j n             n numbers from j on
--   found o                 what o holds, as an option of the model
--   lead_of leads j          the lead of line j
--   unmarked ms j           whether the mark of line j is zero
--   Marks lead m r          r marks a lead that is not m
--   first_lowest ms leads n  of n lines, the number of the first of lowest lead among those that are marked
use Rattle.std.specs.Prelude
use Rattle.std.specs.Prelude.{◌≡◌, List, [], ◌∷◌, ℕ, zero, suc, get_or, Some, None}
use Rattle.std.proofs.Math.Option.{Option, none, some}
use Rattle.std.proofs.Math.Decide.{ℕ_discrete}
use Rattle.basis.proofs.Scan.{lowest}

unfoldable pub numbers : ℕ → ℕ → List ℕ
numbers j zero = []
numbers j (suc n) = j ∷ numbers (suc j) n

abbrev pub found : Prelude.Option ℕ → Option ℕ
found None = none
found (Some r) = some r

abbrev pub lead_of : List ℕ → ℕ → ℕ
lead_of leads j = get_or leads j 0

abbrev pub unmarked : (ms : List ℕ) (j : ℕ) → Dec (get_or ms j 0 ≡ 0)
unmarked ms j = ℕ_discrete (get_or ms j 0) 0

unfoldable pub first_lowest : List ℕ → List ℕ → ℕ → Option ℕ
first_lowest ms leads n = lowest (lead_of leads) (unmarked ms) none (numbers 0 n)

abbrev pub Marks : ℕ → ℕ → ℕ → Type 0
Marks lead m r = (lead ≡ m → r ≡ 0) × (r ≡ 0 → lead ≡ m)
