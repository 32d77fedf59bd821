-- A row of numbers that lies in a list from a place on.

--   part at n l    the n numbers of l from place at on
--   lay at v l     l with the row v from place at on
use Rattle.std.specs.Prelude.{ℕ, List, length, get_or, take, drop}
use Rattle.patch.specs.Patch.{patch}

unfoldable pub part : ℕ → ℕ → List ℕ → List ℕ
part at n l = take n (drop at l)

unfoldable pub lay : ℕ → List ℕ → List ℕ → List ℕ
lay at v l = patch at (length v) (λ k. get_or v k 0) l
