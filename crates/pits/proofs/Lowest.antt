-- What the scan for a line finds, by the lines' numbers.
--
--   marked          what it finds is marked, and is the number of a line: found_below
--   least_found     where all are marked, it finds a line of least lead
-- Assumes nothing.
use mathlib.Core.Path.{◌≡◌, sym}
use mathlib.Core.List.{List}
use mathlib.Core.Option.{some}
use Prim.Native.Nat.{ℕ, ◌≤◌, ◌<◌}
use native.Mathlib.Omega.{arith}
use lib.ListN.{get_or}
use Rattle.basis.proofs.Scan.{all_each, found_lowest}
use Rattle.basis.proofs.Scan
use Rattle.solver.specs.Working.Scan.{numbers, lead_of, unmarked, first_lowest}
use Rattle.solver.proofs.Scanned.{numbers_all, all_numbers}
use Rattle.pits.specs.Working.Table.{Least}

module _ (ms leads : List ℕ) (s : ℕ) where
  pub marked : (r : ℕ) → first_lowest ms leads s ≡ some r → get_or ms r 0 ≡ 0 → ⊥
  unfolding first_lowest
  marked r e =
      (Scan.found (lead_of leads) _ (unmarked ms) (numbers 0 s) (λ (j : ℕ). Unit {0}) (all_each _ (λ j. tt) (numbers 0 s)) r e).1

  pub found_below : (r : ℕ) → first_lowest ms leads s ≡ some r → r < s
  unfolding first_lowest
  found_below r e =
      (Scan.found (lead_of leads) _ (unmarked ms) (numbers 0 s) (λ (j : ℕ). j < s) (numbers_all _ 0 s (λ k lt. omega arith)) r e).0

  pub least_found : (r : ℕ) → ((j : ℕ) → j < s → get_or ms j 0 ≡ 0 → ⊥) → some r ≡ first_lowest ms leads s → Least leads s r
  unfolding first_lowest
  least_found r all is =
      let lowest = all_numbers _ s (found_lowest (lead_of leads) _ (unmarked ms) (numbers 0 s) r (sym is)) in
      record { below = found_below r (sym is); least = λ j h. not_lower (get_or leads r 0) (get_or leads j 0) (λ lower. all j h (lowest j h lower)) }
    where
      not_lower : (a b : ℕ) → (b < a → ⊥) → a ≤ b
      not_lower a b h = omega (arith, h)
