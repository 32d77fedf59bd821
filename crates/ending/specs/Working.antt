-- What the stages of a decoding ask. No promise cites these.
--
--   Ready c y    a code whose checks passed, and a received array of it
--   most_cells    the most symbols that an array has
use Rattle.std.specs.Prelude.{List, ℕ}
use Rattle.codes.specs.Code.{Code, IsArray}
use Rattle.codes.proofs.Passed.{Counts}
use Rattle.codes.proofs.Proper.{Proper}

pub record Ready (c : Code) (y : List ℕ) : Type 0 where
  pub counts : Counts c
  pub proper : Proper c
  pub received : IsArray c y

-- four rows of 96
abbrev pub most_cells : ℕ
most_cells = 384
