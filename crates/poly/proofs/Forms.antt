-- Newton's form of a row, as the routines above work it out.
--
--   lin A a c q     c + (x − a)·q
--   apart, reduce   divided differences
--   from_newton      the polynomial with a given Newton form
--   newton_value_lem     its value at a point
use mathlib.Core.List.{List, [], ◌∷◌}
use Prim.Native.Nat.{ℕ, zero, suc}
use Rattle.field.specs.Arithmetic.{Arithmetic}

module _ {K : Type 0} (A : Arithmetic K) where
  -- c + (x − a)·q
  unfoldable pub lin : K → K → List K → List K
  lin a c [] = c ∷ []
  lin a c (b ∷ q) = A.plus c (A.times a b) ∷ lin a b q

  -- each value u' of us at its point x' of xs becomes (u' − u)/(x' − x)
  unfoldable pub apart : K → K → List K → List K → List K
  apart x u [] us = []
  apart x u (x' ∷ xs) [] = []
  apart x u (x' ∷ xs) (u' ∷ us) = A.over (A.plus u' u) (A.plus x' x) ∷ apart x u xs us

  -- k rounds of divided differences: the first k entries are Newton coefficients, the rest are the reduced values
  unfoldable pub reduce : ℕ → List K → List K → List K
  reduce zero xs us = us
  reduce (suc k) [] us = us
  reduce (suc k) (x ∷ xs) [] = []
  reduce (suc k) (x ∷ xs) (u ∷ us) = u ∷ reduce k xs (apart x u xs us)

  -- the polynomial u₀ + (x − x₀)·(u₁ + (x − x₁)·(u₂ + …)) of k Newton coefficients, at the first k points
  unfoldable pub from_newton : ℕ → List K → List K → List K
  from_newton zero xs us = []
  from_newton (suc k) [] us = []
  from_newton (suc k) (x ∷ xs) [] = []
  from_newton (suc k) (x ∷ xs) (u ∷ us) = lin x u (from_newton k xs us)

  -- the value of that polynomial at a point y
  unfoldable pub newton_value_lem : ℕ → List K → List K → K → K
  newton_value_lem zero xs us y = A.zero
  newton_value_lem (suc k) [] us y = A.zero
  newton_value_lem (suc k) (x ∷ xs) [] y = A.zero
  newton_value_lem (suc k) (x ∷ xs) (u ∷ us) y = A.plus u (A.times (A.plus y x) (newton_value_lem k xs us y))
