-- Hermitian rings: 01, 'Hermitian rings'. q is 2 or 4; GF(q²) has 2 ^ q symbols and is the field of degree q.

--   numbers n            0, 1, …, n − 1
--   on_curve q x y        the pair is a point of the ring
--   ring_points q         the points, in order; sector q x, the y of the points of an x, in order
--   ring_lengths q m      the message lengths k_j of H(m); ring_code q m, the code to which the arrays of H(m) belong
--   value_at d ks f x y   the value of f at (x, y), f being a message of rows of these lengths
--   ring_word q m f       the word of H(m) of a message; RingWord q m w, w is one; IsRing q w, q³ symbols
--   column r n a x       column x of an array of r rows of n symbols
--   ring_of q a           the ring of an array of q rows and q² columns; ArrayOf q w a, a is the array of the ring w
--   differs_in q v w x    v and w differ in sector x
--   sector_flags q v w    of q² flags, 1 where they differ and 0 elsewhere; wrong_sectors, how many
use Rattle.std.specs.Prelude.{◌≡◌, Bool, cond, ℕ, zero, suc, ◌+◌, ◌-◌, ◌*◌, ◌/◌, eqb, length, get_or, take, drop}
use mathlib.Core.List.{List, [], ◌∷◌, ◌++◌, map, flat_map}
use Rattle.field.specs.Symbols.{IsSymbol, plus, times, raised}
use Rattle.field.specs.Arithmetic.{gf}
use Rattle.poly.specs.Poly.{All, value, values_at}
use Rattle.codes.specs.Code.{Code, code_of, total, IsMessage, differs, flags_from}

unfoldable pub numbers : ℕ → List ℕ
numbers zero = []
numbers (suc n) = numbers n ++ n ∷ []

-- 'Over GF(q²), the points are the pairs with y^q + y = x^(q+1)'
unfoldable pub on_curve : ℕ → ℕ → ℕ → Bool
on_curve q x y = eqb (plus (raised q y q) y) (raised q x (suc q))

-- the numbers of a list at which f holds
unfoldable pub those : (ℕ → Bool) → List ℕ → List ℕ
those f [] = []
those f (y ∷ ys) = cond (f y) (y ∷ those f ys) (those f ys)

-- 'Each x has q points, a sector.'
unfoldable pub sector : ℕ → ℕ → List ℕ
sector q x = those (on_curve q x) (numbers (q * q))

-- 'ordered by x as a number from 0, then by y as a number'
unfoldable pub ring_points : ℕ → List (ℕ × ℕ)
ring_points q = flat_map (λ x. map (λ y. (x, y)) (sector q x)) (numbers (q * q))

-- 'k_j = (m − j(q+1))/q rounded down, plus 1'
unfoldable pub ring_length : ℕ → ℕ → ℕ → ℕ
ring_length q m j = (m - j * (q + 1)) / q + 1

abbrev pub ring_lengths : ℕ → ℕ → List ℕ
ring_lengths q m = map (ring_length q m) (numbers q)

-- 'an array of q rows and q² columns with points 0, 1, 2, …'
abbrev pub ring_code : ℕ → ℕ → Code
ring_code q m = code_of q (numbers (q * q)) (ring_lengths q m)

-- 'f = f_0 + f_1·y + … + f_(q−1)·y^(q−1)': f_0(x) + y·(f_1(x) + y·(…)), the coefficients of f_j being row j of the message
unfoldable pub value_at : ℕ → List ℕ → List ℕ → ℕ → ℕ → ℕ
value_at d [] f x y = 0
value_at d (k ∷ ks) f x y = plus (value (gf d) (take k f) x) (times d y (value_at d ks (drop k f) x y))

-- 'A word of H(m) holds the values of f … where f_j has k_j … coefficients.'
unfoldable pub ring_word : ℕ → ℕ → List ℕ → List ℕ
ring_word q m f = map (λ (x, y). value_at q (ring_lengths q m) f x y) (ring_points q)

abbrev pub RingWord : ℕ → ℕ → List ℕ → Type 0
RingWord q m w = (f : List ℕ) × IsMessage (ring_code q m) f × (ring_word q m f ≡ w)

pub record IsRing (q : ℕ) (w : List ℕ) : Type 0 where
  pub count : length w ≡ q * q * q
  pub symbols : All (IsSymbol q) w

unfoldable pub column : ℕ → ℕ → List ℕ → ℕ → List ℕ
column r n a x = map (λ j. get_or a (j * n + x) 0) (numbers r)

-- 'In each sector the values at q distinct y fix f_0(x), …, f_(q−1)(x) and the reverse': these are column x of the array, and
-- the sector's symbols are the values of f_0(x) + f_1(x)·y + … at its y
unfoldable pub ring_of : ℕ → List ℕ → List ℕ
ring_of q a = flat_map (λ x. values_at (gf q) (sector q x) (column q (q * q) a x)) (numbers (q * q))

-- 'a ring is thus an array of q rows and q² columns'
pub record ArrayOf (q : ℕ) (w a : List ℕ) : Type 0 where
  pub array : IsRing q a
  pub ring : ring_of q a ≡ w

-- 'Two arrays differ in a column if any row differs there': two rings differ in a sector if any of its symbols does, which
-- are the q from place x·q on
abbrev pub differs_in : ℕ → List ℕ → List ℕ → ℕ → Bool
differs_in q v w x = differs q 1 (x * q) v w

-- 'q² flags'
abbrev pub sector_flags : ℕ → List ℕ → List ℕ → List ℕ
sector_flags q v w = flags_from (differs_in q v w) 0 (q * q)

abbrev pub wrong_sectors : ℕ → List ℕ → List ℕ → ℕ
wrong_sectors q v w = total (sector_flags q v w)
