-- Refusals: 01, 'Refusal numbers, in order of checking'.

--   k when b       the check that gives the number k when the test b holds
--   first cs       the number of the first check of cs that applies; 0 where none does
--   bad_degree, bad_points, bad_columns    the tests of the numbers 1, 6 and 16
--   outside lo hi n    n is not from lo to hi: 2 and 3; some_outside, a number of a list is not: 4
--   outside_field, some_outside_field      the test of number 7 for one symbol, and for a list
--   is_in x l       x stands in the list l; repeated xs, a point of the list xs stood earlier
use Rattle.std.specs.Prelude.{ℕ, ◌-◌, ◌^◌, Bool, false, cond, not, ◌||◌, List, [], ◌∷◌, eqb, leb, ltb}

pub data Check : Type 0 where
  ◌when◌ : ℕ → Bool → Check

infix 10 ◌when◌
-- 'The first that applies, in the call's own order where one is given, is the answer; no other reason exists.'
unfoldable pub first : List Check → ℕ
first [] = 0
first ((k when b) ∷ cs) = cond b k (first cs)

-- '1: degree is not 2, 4 or 8'
unfoldable pub bad_degree : ℕ → Bool
bad_degree d = not (eqb d 2 || eqb d 4 || eqb d 8)

unfoldable pub outside : ℕ → ℕ → ℕ → Bool
outside lo hi n = ltb n lo || ltb hi n

-- '4: some k is not 1 to n'
unfoldable pub some_outside : ℕ → ℕ → List ℕ → Bool
some_outside lo hi [] = false
some_outside lo hi (k ∷ ks) = outside lo hi k || some_outside lo hi ks

-- '7: a symbol is outside the field'
unfoldable pub outside_field : ℕ → ℕ → Bool
outside_field d a = leb (2 ^ d) a

unfoldable pub some_outside_field : ℕ → List ℕ → Bool
some_outside_field d [] = false
some_outside_field d (a ∷ l) = outside_field d a || some_outside_field d l

unfoldable pub is_in : ℕ → List ℕ → Bool
is_in x [] = false
is_in x (a ∷ l) = eqb x a || is_in x l

unfoldable pub repeated : List ℕ → Bool
repeated [] = false
repeated (x ∷ xs) = is_in x xs || repeated xs

-- '6: a point is outside the field or stood earlier in the list'
unfoldable pub bad_points : ℕ → List ℕ → Bool
bad_points d xs = some_outside_field d xs || repeated xs

-- 02, '16: a lost column is not below n or is named twice'; columns are counted from 0
unfoldable pub bad_columns : ℕ → List ℕ → Bool
bad_columns n L = some_outside 0 (n - 1) L || repeated L
