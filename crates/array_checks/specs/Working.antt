-- What the functions inside ask. No promise cites it.
--
--   Sizes ks xs    at most 4 lengths and 96 points, and the lengths are from 1 to the number of points
use Rattle.std.specs.Prelude.{List, ℕ, ◌≤◌, length}
use Rattle.codes.proofs.Proper.{Within}

pub record Sizes (ks xs : List ℕ) : Type 0 where
  pub most_rows : length ks ≤ 4
  pub most_columns : length xs ≤ 96
  pub lengths : Within 1 (length xs) ks
