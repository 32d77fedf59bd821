-- What the program holds of its input.
--
--   Held l r    the first r bytes of l are held: no more than a record has at most, and no more than they show to be wanted
use Rattle.std.specs.Prelude.{List, ℕ, ◌≤◌, take}
use Rattle.record.specs.Records.{wanted}

pub record Held (l : List ℕ) (r : ℕ) : Type 0 where
  pub most : r ≤ 490
  pub no_more : r ≤ wanted (take r l)
