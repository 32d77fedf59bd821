-- Halving a symbol in a byte.
--
--   halved d v    the symbol of which v is x times
use Rattle.std.specs.Prelude.{ℕ, ◌*◌, ◌/◌, ◌%◌}
use Rattle.field.specs.Symbols.{plus, modulus}

unfoldable pub halved : ℕ → ℕ → ℕ
halved d v = plus (v / 2) (v % 2 * (modulus d / 2))
