-- What a loop that writes a part of a slice leaves in it.

--   patch at n f l    l with f k at place at + k, for each k below n
use Rattle.std.specs.Prelude.{ℕ, zero, suc, ◌+◌, List, set}

unfoldable pub patch : {A : Type 0} → ℕ → ℕ → (ℕ → A) → List A → List A
patch at zero f l = l
patch at (suc n) f l = set (patch at n f l) (at + n) (f n)
