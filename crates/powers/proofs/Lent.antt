-- What the call on the s rows is lent, and what becomes of it.
--
--   first_part     the first row of the answer, in the list that it was lent from
-- Assumes nothing.
use mathlib.Core.Path.{◌≡◌, refl, ap, ◌∙◌}
use mathlib.Core.List.{List, [], ◌∷◌, ◌++◌}
use Prim.Native.Nat.{ℕ, zero, suc, ◌-◌, ◌≤◌}
use native.Mathlib.Omega.{arith}
use lib.ListN.{length, take}

part_of : (n : ℕ) (b r : List ℕ) → n ≤ length b → take n (b ++ r) ≡ take n b
part_of zero b r h = refl
part_of (suc n) [] r h = absurd (omega arith)
part_of (suc n) (x ∷ b) r h = ap (◌∷◌ x) (part_of n b r (omega arith))

pub first_part : (n : ℕ) (b r : List ℕ) → n ≤ length b → take (n - 0) (b ++ r) ≡ take n b
first_part n b r h = ap (λ (m : ℕ). take m (b ++ r)) all ∙ part_of n b r h
  where
    all : n - 0 ≡ n
    all = omega arith
