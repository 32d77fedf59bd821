-- Symbols of GF(4), GF(16) and GF(256): 01, 'Fields and arrays'. The degree d is 2, 4 or 8.

--   IsSymbol d a     a is a symbol of the field of degree d
--   modulus d        the reducing polynomial, bit i for x^i: the one place where the three stand
--   plus a b         the sum; times d a b, the product; times_x d c, x times c; raised d a n, a to the power n
--   Quotient d a b c    c is the quotient of a by b; over d a b, where b is not zero
use Rattle.std.specs.Prelude.{ℕ, zero, suc, ◌-◌, ◌*◌, ◌/◌, ◌%◌, ◌^◌, ◌<◌, ◌≡◌, cond, eqb}
use Rattle.std.specs.Int.Bits.{bit_xor}

-- 'A symbol is one byte'; of a field of degree d, one of 2 ^ d.
abbrev pub IsSymbol : ℕ → ℕ → Type 0
IsSymbol d a = a < 2 ^ d

-- 'Addition is exclusive or'
unfoldable pub plus : ℕ → ℕ → ℕ
plus a b = bit_xor a b

-- 'degree 2: x^2+x+1; 4: x^4+x+1'; 02, 2026-04: 'the field of the Data Matrix standard, ISO/IEC 16022: x^8+x^5+x^3+x^2+1'
unfoldable pub modulus : ℕ → ℕ
modulus d = cond (eqb d 2) 0b111 (cond (eqb d 4) 0b10011 0b100101101)

-- x times c: the bits move up, and where x^d appears the polynomial is taken off
unfoldable pub times_x : ℕ → ℕ → ℕ
times_x d c = plus (c * 2) (c / 2 ^ (d - 1) % 2 * modulus d)

-- the product of the n low bits of a and b, a being a₀ + x·a': a₀·b + x·(a'·b)
unfoldable pub times_low : ℕ → ℕ → ℕ → ℕ → ℕ
times_low d zero a b = 0
times_low d (suc n) a b = plus (a % 2 * b) (times_x d (times_low d n (a / 2) b))

-- 'multiplication is of polynomials over GF(2), bit i for x^i, reduced by' the polynomial. Only the d low bits of a and b count.
unfoldable pub times : ℕ → ℕ → ℕ → ℕ
times d a b = times_low d d a (b % 2 ^ d)

unfoldable pub raised : ℕ → ℕ → ℕ → ℕ
raised d a zero = 1
raised d a (suc n) = times d a (raised d a n)

-- 02, 2026-02: the quotient of a by b, which is not zero, is the symbol c with c·b = a
pub record Quotient (d a b c : ℕ) : Type 0 where
  pub symbol : IsSymbol d c
  pub undoes : times d c b ≡ a

-- the largest c below n with c·b = a, or 0 where there is none
unfoldable pub quotient_below : ℕ → ℕ → ℕ → ℕ → ℕ
quotient_below zero d a b = 0
quotient_below (suc n) d a b = cond (eqb (times d n b) a) n (quotient_below n d a b)

-- that symbol, found by search; what it is where b is zero is said by no promise
unfoldable pub over : ℕ → ℕ → ℕ → ℕ
over d a b = quotient_below (2 ^ d) d a b
