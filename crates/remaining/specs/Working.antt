-- What completing an answer computes. No promise cites these.
--
--   merged ls fs             the flags fs of the remaining columns, with 2 at the lost ones, which ls flags
--   to_fill fs                of flags, 1 where the column is not right: it is to be filled in
use Rattle.std.specs.Prelude.{List, ℕ, length, replicate}
use Rattle.finish.specs.Working.{zeros_in, put}

unfoldable pub merged : List ℕ → List ℕ → List ℕ
merged ls fs = put ls fs (replicate (length ls) 2)

unfoldable pub to_fill : List ℕ → List ℕ
to_fill fs = zeros_in (zeros_in fs)
