-- The checks of the calls on interleaved arrays, in order: 01, 'Refusal numbers, in order of checking'.

--   unchecked c           the test of number 18; bad_factors d fs, that of 23
--   shape_checks most c    1 to 4 and 18, before the lengths of the buffers; n is at most `most`; code_checks c, those of the calls on arrays
--   column_checks D        6 and 23, which stand together
--   encode_checks, read_checks, decode_checks    'Encoding checks 1 to 7, reading 1 to 7 then 9, decoding 1 to 8.' 23 is between 6 and 7
--   received_checks        5, 6, 23 and 7 of decoding; array_checks_of, 1 to 7 of it
--   remaining_checks       16, 17 and 8 of a decoding with lost columns; lost_checks, all of them
use Rattle.std.specs.Prelude.{Bool, not, ◌||◌, List, [], ◌∷◌, ◌++◌, ℕ, ◌-◌, ◌*◌, ◌^◌, eqb, ltb, length}
use Rattle.refusal.specs.Refusal.{Check, ◌when◌, bad_degree, outside, some_outside, is_in, bad_points, bad_columns, some_outside_field}
use Rattle.codes.specs.Code.{Code, columns, rows, total, largest, joint_limit}
use Rattle.codes.specs.Lost.{core}
use Rattle.codes.specs.Factors.{Description}

-- 02, 2026-05: '18, some k equals n, directly after 4': all n columns, 'Lost columns count in n here'
abbrev pub unchecked : Code → Bool
unchecked c = is_in (columns c) c.lengths

-- '3: count of points is not 1 to 96 (desk: 1 to 16)'
abbrev pub shape_checks : (most : ℕ) → Code → List Check
shape_checks most c =
    (1 when bad_degree c.degree)
    ∷ (2 when outside 1 4 (rows c))
    ∷ (3 when outside 1 most (columns c))
    ∷ (4 when some_outside 1 (columns c) c.lengths)
    ∷ (18 when unchecked c) ∷ []

abbrev pub code_checks : Code → List Check
code_checks c = shape_checks 96 c

-- a buffer's length is not the right one
abbrev pub wrong_length : ℕ → List ℕ → Bool
wrong_length n l = not (eqb (length l) n)

-- 'working space at least 49,152'
abbrev pub space_bytes : ℕ
space_bytes = 49152

-- 02, 2026-11: '23, a factor outside the field or zero, after 6 and before 7': a symbol that is not zero is 1 to 2^d − 1
abbrev pub bad_factors : ℕ → List ℕ → Bool
bad_factors d fs = some_outside 1 (2 ^ d - 1) fs

abbrev pub column_checks : Description → List Check
column_checks D = (6 when bad_points D.code.degree D.code.points) ∷ (23 when bad_factors D.code.degree D.factors) ∷ []

-- 5, 6, 23 and 7 of a message and an array, of which the symbols s are the input; 'a missing or spare factor is 5'
abbrev pub buffer_checks : Description → List ℕ → List ℕ → List ℕ → List Check
buffer_checks D m a s = let c = D.code in
    (5 when wrong_length (total c.lengths) m || wrong_length (rows c * columns c) a || wrong_length (columns c) D.factors)
    ∷ column_checks D ++ (7 when some_outside_field c.degree s) ∷ []

abbrev pub encode_checks : Description → List ℕ → List ℕ → List Check
encode_checks D m a = code_checks D.code ++ buffer_checks D m a m

-- 9 is no test of numbers: see the promise of reading
abbrev pub read_checks : Description → List ℕ → List ℕ → List Check
read_checks D a m = code_checks D.code ++ buffer_checks D m a a

-- where arrays have so many cells
abbrev pub received_checks : (cells : ℕ) → Description → List ℕ → List ℕ → List ℕ → List ℕ → List Check
received_checks cells D y a f w = let n = columns D.code in
    (5 when wrong_length cells y || wrong_length cells a || wrong_length n f || ltb (length w) space_bytes || wrong_length n D.factors)
    ∷ column_checks D ++ (7 when some_outside_field D.code.degree y) ∷ []

abbrev pub array_checks_of : Description → List ℕ → List ℕ → List ℕ → List ℕ → List Check
array_checks_of D y a f w = code_checks D.code ++ received_checks (rows D.code * columns D.code) D y a f w

abbrev pub decode_checks : Description → ℕ → List ℕ → List ℕ → List ℕ → List ℕ → List Check
decode_checks D τ y a f w = array_checks_of D y a f w ++ (8 when ltb (joint_limit D.code) τ) ∷ []

-- 02, 2026-03: '16, a lost column is not below n or is named twice; 17, fewer remaining columns than the largest k; both after 7
-- and before 8'; 'joint and safe limit are worked out over those'
abbrev pub remaining_checks : Code → ℕ → List ℕ → List Check
remaining_checks c τ L =
    (16 when bad_columns (columns c) L)
    ∷ (17 when ltb (columns (core c L)) (largest c.lengths))
    ∷ (8 when ltb (joint_limit (core c L)) τ) ∷ []

abbrev pub lost_checks : Description → ℕ → List ℕ → List ℕ → List ℕ → List ℕ → List ℕ → List Check
lost_checks D τ L y a f w = array_checks_of D y a f w ++ remaining_checks D.code τ L
