-- The checks of the calls on rings, in order: 01, 'Hermitian calls check 10, 11, 5, 7, then 8 or 9; there the lengths are K, q³
-- symbols, q² flags, and working space as in 5.'

--   bad_size q             the test of number 10; bad_order q m, that of 11; ring_checks q m, 10, 11 and 18
--   encode_checks, read_checks, decode_checks    those of the calls; received_checks, 5 and 7 of decoding
--   lost_checks            those of a decoding with lost sectors: 16, 17 and 8 are those of the array
use Rattle.std.specs.Prelude.{Bool, not, ◌||◌, List, [], ◌∷◌, ◌++◌, ℕ, ◌-◌, ◌*◌, eqb, ltb, length}
use Rattle.refusal.specs.Refusal.{Check, ◌when◌, outside, some_outside_field}
use Rattle.codes.specs.Code.{total, joint_limit}
use Rattle.codes.specs.Checks.{unchecked, wrong_length, space_bytes, remaining_checks}
use Rattle.hermitian.specs.Ring.{ring_lengths, ring_code}

-- '10: Hermitian: q is not 2 or 4'
unfoldable pub bad_size : ℕ → Bool
bad_size q = not (eqb q 2 || eqb q 4)

-- '11: Hermitian: m is not q²−1 to q³−1'
unfoldable pub bad_order : ℕ → ℕ → Bool
bad_order q m = outside (q * q - 1) (q * q * q - 1) m

-- 02, 2026-05: '18, some k equals n, directly after 4; for rings directly after 11'
abbrev pub ring_checks : ℕ → ℕ → List Check
ring_checks q m = (10 when bad_size q) ∷ (11 when bad_order q m) ∷ (18 when unchecked (ring_code q m)) ∷ []

-- 5 and 7 of a message and a word, of which the symbols s are the input
abbrev pub buffer_checks : ℕ → ℕ → List ℕ → List ℕ → List ℕ → List Check
buffer_checks q m f w s =
    (5 when wrong_length (total (ring_lengths q m)) f || wrong_length (q * q * q) w) ∷ (7 when some_outside_field q s) ∷ []

abbrev pub encode_checks : ℕ → ℕ → List ℕ → List ℕ → List Check
encode_checks q m f w = ring_checks q m ++ buffer_checks q m f w f

-- 9 is no test of numbers: see the promise of reading
abbrev pub read_checks : ℕ → ℕ → List ℕ → List ℕ → List Check
read_checks q m w f = ring_checks q m ++ buffer_checks q m f w w

-- 5 and 7 of a decoding, where there are to be n flags
abbrev pub received_checks : (q n : ℕ) → List ℕ → List ℕ → List ℕ → List ℕ → List Check
received_checks q n y w f s =
    (5 when wrong_length (q * q * q) y || wrong_length (q * q * q) w || wrong_length n f || ltb (length s) space_bytes)
    ∷ (7 when some_outside_field q y) ∷ []

abbrev pub decode_checks : ℕ → ℕ → ℕ → List ℕ → List ℕ → List ℕ → List ℕ → List Check
decode_checks q m τ y w f s = ring_checks q m ++ received_checks q (q * q) y w f s ++ (8 when ltb (joint_limit (ring_code q m)) τ) ∷ []

-- 02, 2026-03: 'Rings take lost sectors the same way.'
abbrev pub lost_checks : ℕ → ℕ → ℕ → List ℕ → List ℕ → List ℕ → List ℕ → List ℕ → List Check
lost_checks q m τ L y w f s = ring_checks q m ++ received_checks q (q * q) y w f s ++ remaining_checks (ring_code q m) τ L
