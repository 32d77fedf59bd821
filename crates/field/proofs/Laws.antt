-- The laws of a field of characteristic 2 with decidable equality, over any carrier: what everything above uses.
-- Sums and products obey the ring laws for all of the carrier; the unit law and division ask for symbols.
-- Assumes nothing.
use mathlib.Core.Path.{◌≡◌}
use Rattle.field.specs.Arithmetic.{Arithmetic}

pub record Field {K : Type 0} (A : Arithmetic K) : Type 0 where
  pub plus_comm : (a b : K) → A.plus a b ≡ A.plus b a
  pub plus_assoc : (a b c : K) → A.plus (A.plus a b) c ≡ A.plus a (A.plus b c)
  pub zero_plus : (a : K) → A.plus A.zero a ≡ a
  pub plus_self : (a : K) → A.plus a a ≡ A.zero
  pub times_comm : (a b : K) → A.times a b ≡ A.times b a
  pub times_assoc : (a b c : K) → A.times (A.times a b) c ≡ A.times a (A.times b c)
  pub times_plus : (a b c : K) → A.times a (A.plus b c) ≡ A.plus (A.times a b) (A.times a c)
  pub one_times : (a : K) → A.In a → A.times A.one a ≡ a
  pub over_times : (a b : K) → A.In a → A.In b → (b ≡ A.zero → ⊥) → A.times (A.over a b) b ≡ a
  pub one_zero : A.one ≡ A.zero → ⊥
  pub zero_in : A.In A.zero
  pub one_in : A.In A.one
  pub plus_in : (a b : K) → A.In a → A.In b → A.In (A.plus a b)
  pub times_in : (a b : K) → A.In (A.times a b)
  pub over_in : (a b : K) → A.In (A.over a b)
  pub same : Discrete K
