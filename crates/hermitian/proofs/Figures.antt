-- The figures and examples of 01 on rings, which antt computes.
--
--   h37, h26, h30    message lengths and limits of three codes
--   p9, p10          the points of the smaller ring, and a word on it
-- Assumes nothing.
use mathlib.Core.Path.{◌≡◌, refl}
use mathlib.Core.List.{[], ◌∷◌, flat_map}
use Rattle.field.specs.Symbols.{plus, modulus, times_x, times_low, times, raised}
use Rattle.poly.specs.Poly.{value}
use Rattle.codes.specs.Code.{total, largest, joint_limit, safe_limit}
use Rattle.hermitian.specs.Ring.{numbers, on_curve, those, sector, ring_points}
use Rattle.hermitian.specs.Ring.{ring_length, ring_lengths, ring_code, value_at, ring_word}

-- 'H(37) for q=4 has lengths 10, 9, 7, 6 and joint limit 6 but safe limit 3'
pub h37 : (ring_lengths 4 37 ≡ 10 ∷ 9 ∷ 7 ∷ 6 ∷ []) × (joint_limit (ring_code 4 37) ≡ 6) × (safe_limit (ring_code 4 37) ≡ 3)
unfolding numbers ring_length total largest joint_limit safe_limit
h37 = (refl, refl, refl)

-- 'H(26) has 7, 6, 5, 3 and 8'
pub h26 : (ring_lengths 4 26 ≡ 7 ∷ 6 ∷ 5 ∷ 3 ∷ []) × (joint_limit (ring_code 4 26) ≡ 8)
unfolding numbers ring_length total largest joint_limit
h26 = (refl, refl)

-- 'H(30) has 8, 7, 6, 4 and 7'
pub h30 : (ring_lengths 4 30 ≡ 8 ∷ 7 ∷ 6 ∷ 4 ∷ []) × (joint_limit (ring_code 4 30) ≡ 7)
unfolding numbers ring_length total largest joint_limit
h30 = (refl, refl)

-- 'P9: q=2: the ring's points are 00 01 12 13 22 23 32 33.'
pub p9 : ring_points 2 ≡ (0, 0) ∷ (0, 1) ∷ (1, 2) ∷ (1, 3) ∷ (2, 2) ∷ (2, 3) ∷ (3, 2) ∷ (3, 3) ∷ []
unfolding numbers raised on_curve those sector ring_points plus modulus times_x times_low times flat_map
p9 = refl

-- 'P10: H(3), f=y: 0 1 2 3 2 3 2 3.' f_0 is 0, of two coefficients, and f_1 is 1.
pub p10 : ring_word 2 3 (0 ∷ 0 ∷ 1 ∷ []) ≡ 0 ∷ 1 ∷ 2 ∷ 3 ∷ 2 ∷ 3 ∷ 2 ∷ 3 ∷ []
unfolding numbers raised on_curve those sector ring_points ring_length value_at ring_word plus modulus times_x times_low times flat_map value
p10 = refl
