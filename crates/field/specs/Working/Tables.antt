-- What quotients are worked out from: the inverses of a field's symbols.
--
--   table_bytes     how long a table is, whichever the field
--   power d i      x^i
--   IsTable d l    l has at each symbol but 0 its inverse; IsTable-prop, in one way at most
--   Dividing d a b two symbols of which the second is not 0
use denote.Struct.Props.{props}
use Rattle.std.specs.Prelude.{ℕ, zero, suc, ◌^◌, ◌<◌, ◌≡◌, List, get_or}
use Rattle.field.specs.Symbols.{times_x, Quotient}

abbrev pub table_bytes : ℕ
table_bytes = 256

unfoldable pub power : ℕ → ℕ → ℕ
power d zero = 1
power d (suc i) = times_x d (power d i)

unfoldable pub IsTable : ℕ → List ℕ → Type 0
IsTable d l = (b : ℕ) → b < 2 ^ d → (b ≡ 0 → ⊥) → Quotient d 1 b (get_or l b 0)

pub IsTable-prop : (d : ℕ) (l : List ℕ) → IsProp (IsTable d l)
unfolding IsTable
IsTable-prop d l = Prim.hlevel props

pub record Dividing (d a b : ℕ) : Type 0 where
  pub left : a < 2 ^ d
  pub right : b < 2 ^ d
  pub nonzero : b ≡ 0 → ⊥
