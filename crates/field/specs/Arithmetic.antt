-- Arithmetic as one value, so that polynomials, codes and decoders are defined once over it.

--   Arithmetic K    sum, product and quotient on a carrier K, and which elements of K are symbols
--   gf d            the arithmetic of the field of degree d
use Rattle.std.specs.Prelude.{ℕ}
use Rattle.field.specs.Symbols.{IsSymbol, plus, times, over}

pub record Arithmetic (K : Type 0) : Type 1 where
  pub In : K → Type 0
  pub zero : K
  pub one : K
  pub plus : K → K → K
  pub times : K → K → K
  pub over : K → K → K

abbrev pub gf : ℕ → Arithmetic ℕ
gf d = record { In = IsSymbol d; zero = 0; one = 1; plus = plus; times = times d; over = over d }
