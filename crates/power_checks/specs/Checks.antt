-- The checks of the decoding of powers, in order: 02, 2026-09, 'The call takes one k, so check 2 is not made, and the lengths in 5 are
-- those of one row; the limits are those of the s rows. Refusals: 20, s is not 1 to 4, after 3; the largest power length counts as k in 4
-- and 18.'

--   counted_lengths k s    what counts as k in 4 and 18
--   shape_checks d n k s   1, 3, 20, 4 and 18
--   decode_checks d k s xs fs τ y a f w    all of them
use Rattle.std.specs.Prelude.{List, [], ◌∷◌, ◌++◌, ℕ, ltb, length}
use Rattle.refusal.specs.Refusal.{Check, ◌when◌, bad_degree, outside, some_outside, is_in}
use Rattle.codes.specs.Code.{joint_limit}
use Rattle.codes.specs.Factors.{description_of}
use Rattle.codes.specs.Checks.{received_checks}
use Rattle.power_checks.specs.Powers.{power_length, power_code}

-- k itself, and 'the largest power length', s(k−1)+1: where k is 0 that is 1, and k itself is what 4 refuses
abbrev pub counted_lengths : (k s : ℕ) → List ℕ
counted_lengths k s = k ∷ power_length k s ∷ []

abbrev pub shape_checks : (d n k s : ℕ) → List Check
shape_checks d n k s =
    (1 when bad_degree d)
    ∷ (3 when outside 1 96 n)
    ∷ (20 when outside 1 4 s)
    ∷ (4 when some_outside 1 n (counted_lengths k s))
    ∷ (18 when is_in n (counted_lengths k s)) ∷ []

-- 'the lengths in 5 are those of one row; the limits are those of the s rows'
abbrev pub decode_checks : (d k s : ℕ) (points factors : List ℕ) (limit : ℕ) (received answer flags space : List ℕ) → List Check
decode_checks d k s xs fs τ y a f w = shape_checks d (length xs) k s
    ++ received_checks (length xs) (description_of d xs fs (k ∷ [])) y a f w ++ (8 when ltb (joint_limit (power_code d xs k s)) τ) ∷ []
