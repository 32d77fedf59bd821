-- The checks of listing, in order: 02, 2026-10, 'Refusals: as for decoding, but 21, n above 16, after 3; 22, room that is not a whole
-- number of arrays, directly after 5, which no longer reads the result's length', 'Lent no flags or working space'.

--   code_checks c             1, 2, 3, 21, 4 and 18
--   not_whole cells room      the test of number 22, where arrays have so many cells
--   length_checks D y room    5 and 22; content_checks D τ y, 6, 23, 7 and 8
--   list_checks D τ y room    all of them
use Rattle.std.specs.Prelude.{Bool, not, ◌||◌, List, [], ◌∷◌, ◌++◌, ℕ, ◌*◌, ◌%◌, eqb, ltb, length}
use Rattle.refusal.specs.Refusal.{Check, ◌when◌, bad_degree, outside, some_outside, some_outside_field}
use Rattle.codes.specs.Code.{Code, columns, rows, joint_limit}
use Rattle.codes.specs.Factors.{Description}
use Rattle.codes.specs.Checks.{unchecked, wrong_length, column_checks}

abbrev pub code_checks : Code → List Check
code_checks c =
    (1 when bad_degree c.degree)
    ∷ (2 when outside 1 4 (rows c))
    ∷ (3 when outside 1 96 (columns c))
    ∷ (21 when ltb 16 (columns c))
    ∷ (4 when some_outside 1 (columns c) c.lengths)
    ∷ (18 when unchecked c) ∷ []

-- a room without any array is a whole number of arrays
abbrev pub not_whole : (cells : ℕ) (room : List ℕ) → Bool
not_whole cells room = not (eqb (length room % cells) 0)

abbrev pub length_checks : Description → (received room : List ℕ) → List Check
length_checks D y room = let c = D.code in
    (5 when wrong_length (rows c * columns c) y || wrong_length (columns c) D.factors)
    ∷ (22 when not_whole (rows c * columns c) room) ∷ []

abbrev pub content_checks : Description → (limit : ℕ) (received : List ℕ) → List Check
content_checks D τ y =
    column_checks D ++ (7 when some_outside_field D.code.degree y) ∷ (8 when ltb (joint_limit D.code) τ) ∷ []

abbrev pub list_checks : Description → (limit : ℕ) (received room : List ℕ) → List Check
list_checks D τ y room = code_checks D.code ++ length_checks D y room ++ content_checks D τ y
