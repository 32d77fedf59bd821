-- A record in a list of bytes: 01, 'Records on standard input'. The list is all that is left of the input.

--   mark             the two bytes that a record begins with; begins m b, b begins with m
--   degree_in, rows_in, columns_in, lengths_in, limit_in, points_in, symbols_in    the parts of a record, in their order
--   size_in           how many bytes it has
--   code_in           its code; described_in, its code with factors of one
--   out_of_range       r or n is out of range
--   stop_checks       the reasons to stop, in order; stop_of, the number of the first that applies
--   wanted           how many bytes decide the answer, as far as the bytes so far show
--   AtMost m n r     r is n, and at most m
use Rattle.std.specs.Prelude.{◌≡◌, Bool, true, false, cond, not, ◌||◌, ◌&&◌, List, [], ◌∷◌, ℕ, ◌+◌, ◌*◌, ◌≤◌, eqb, ltb, leb, length, get_or, take, drop}
use Rattle.refusal.specs.Refusal.{Check, ◌when◌, first, bad_degree, outside}
use Rattle.codes.specs.Code.{Code, code_of}
use Rattle.codes.specs.Factors.{Description, ones}

-- 'Each record begins with the two bytes 42 4D (hex).'
abbrev pub mark : List ℕ
mark = 0x42 ∷ 0x4D ∷ []

-- 'Then one byte each: degree, r, n; r bytes of k; τ; n points; r·n symbols by rows.'
abbrev pub degree_in : List ℕ → ℕ
degree_in b = get_or b 2 0

abbrev pub rows_in : List ℕ → ℕ
rows_in b = get_or b 3 0

abbrev pub columns_in : List ℕ → ℕ
columns_in b = get_or b 4 0

unfoldable pub lengths_in : List ℕ → List ℕ
lengths_in b = take (rows_in b) (drop 5 b)

unfoldable pub limit_in : List ℕ → ℕ
limit_in b = get_or b (5 + rows_in b) 0

unfoldable pub points_in : List ℕ → List ℕ
points_in b = take (columns_in b) (drop (6 + rows_in b) b)

unfoldable pub symbols_in : List ℕ → List ℕ
symbols_in b = take (rows_in b * columns_in b) (drop (6 + rows_in b + columns_in b) b)

unfoldable pub size_in : List ℕ → ℕ
size_in b = 6 + rows_in b + columns_in b + rows_in b * columns_in b

abbrev pub code_in : List ℕ → Code
code_in b = code_of (degree_in b) (points_in b) (lengths_in b)

-- 02, 2026-11: 'Rings keep factors of one, and records on standard input too.'
abbrev pub described_in : List ℕ → Description
described_in b = record { code = code_in b; factors = ones (columns_in b) }

unfoldable pub begins : List ℕ → List ℕ → Bool
begins [] b = true
begins (m ∷ ms) [] = false
begins (m ∷ ms) (a ∷ b) = eqb a m && begins ms b

-- 'two bytes which are present and are not the mark'
unfoldable pub no_mark : List ℕ → Bool
no_mark b = leb 2 (length b) && not (begins mark b)

unfoldable pub out_of_range : List ℕ → Bool
out_of_range b = outside 1 4 (rows_in b) || outside 1 96 (columns_in b)

-- 'Fewer than five bytes left: 13, except that two bytes which are present and are not the mark give 12. With r and n in range,
-- a record that the input cuts short gives 13, ahead of any other number. Reading stops after 12, after 13, and after a record
-- with r or n out of range', whose number is the first of 1, 2 and 3 that applies.
abbrev pub stop_checks : List ℕ → List Check
stop_checks b =
    (12 when no_mark b)
    ∷ (13 when ltb (length b) 5)
    ∷ (1 when out_of_range b && bad_degree (degree_in b))
    ∷ (2 when outside 1 4 (rows_in b))
    ∷ (3 when outside 1 96 (columns_in b))
    ∷ (13 when ltb (length b) (size_in b)) ∷ []

unfoldable pub stop_of : List ℕ → ℕ
stop_of b = first (stop_checks b)

-- two bytes tell the mark, five the size, and then there is the rest
unfoldable pub wanted : List ℕ → ℕ
wanted b = cond (ltb (length b) 2 || no_mark b) 2 (cond (ltb (length b) 5 || out_of_range b) 5 (size_in b))

pub record AtMost (m n r : ℕ) : Type 0 where
  pub is : r ≡ n
  pub most : r ≤ m
