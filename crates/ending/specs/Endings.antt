-- The endings of a decoding: 01, 'Locators and endings', the table.

--   meaning              this paper's number and values of each ending; is_corrected, the number is that of 'corrected'
--   Buffers              the lent array and flags
--   Row c y τ lent left code d    the row of the table for what an ending means
--   Ends c y τ lent e left        the decoding of y, not refused, ends as e and turns the buffers lent into left
use Rattle.std.specs.Prelude.{◌≡◌, Bool, cond, List, [], ◌∷◌, ℕ, ◌≤◌, eqb}
use Rattle.refusal.specs.Meaning.{Meaning, refusal, number_of, detail_of}
use Rattle.refusal.specs.Numbers.{number}
use Rattle.codes.specs.Code.{Code, IsMessage, encoded, flags_of, wrong_count}
use Rattle.ending.specs.Locators.{Locator, Multiple, Least, OnlyOne, Divides}
use Rattle.ending.specs.declared.Ending.{Ending}
use Rattle.ending.specs.declared.Ending.TheVariants.{Refused, Corrected, Nothing, Several, Hollow}

-- 'ending | code', and its 'detail': its number, that of the reason; number of wrong columns; none; t; t
abbrev pub meaning : Ending → Meaning
meaning (Refused r) = refusal (number r)
meaning (Corrected w) = (1, w ∷ [])
meaning Nothing = (2, [])
meaning (Several t) = (3, t ∷ [])
meaning (Hollow t) = (4, t ∷ [])

abbrev pub is_corrected : Ending → Bool
is_corrected e = eqb (number_of (meaning e)) 1

pub record Buffers : Type 0 where
  pub array : List ℕ
  pub flags : List ℕ

-- 'corrected: all locators of size t are multiples of one, E, and E divides every N_l, with quotient of at most k_l
-- coefficients'; 'the quotients' values at the points are the rows of the answer; its array is written, and of n flags each is 1
-- where the column was wrong and 0 elsewhere'; 'detail: number of wrong columns'
pub record Corrects (c : Code) (y : List ℕ) (τ w : ℕ) (left : Buffers) : Type 0 where
  pub t : ℕ
  pub least : Least c y τ t
  pub E : List ℕ
  pub only : OnlyOne c y t E
  pub m : List ℕ
  pub message : IsMessage c m
  pub divides : Divides c y t E m
  pub array : left.array ≡ encoded c m
  pub flags : left.flags ≡ flags_of c y left.array
  pub detail : w ≡ wrong_count c y left.array

-- 'several: two locators of size t, neither a multiple of the other'
pub record TwoApart (c : Code) (y : List ℕ) (t : ℕ) : Type 0 where
  pub E : List ℕ
  pub F : List ℕ
  pub first : Locator c y t E
  pub second : Locator c y t F
  pub apart : ¬ Multiple c E F
  pub apart' : ¬ Multiple c F E

-- 'hollow: all are multiples of one, and it does not divide so'
pub record DividesNot (c : Code) (y : List ℕ) (t : ℕ) : Type 0 where
  pub E : List ℕ
  pub only : OnlyOne c y t E
  pub not : (m : List ℕ) → IsMessage c m → ¬ Divides c y t E m

-- The table, by code and detail. 'Every other ending leaves array and flags untouched.' A decoding that is refused has no row here.
abbrev pub Row : (c : Code) (y : List ℕ) (τ : ℕ) (lent left : Buffers) (code detail : ℕ) → Type 0
Row c y τ lent left code d =
    cond (eqb code 1) (Corrects c y τ d left)
    (cond (eqb code 2) (((t : ℕ) (E : List ℕ) → t ≤ τ → ¬ Locator c y t E) × (left ≡ lent))
    (cond (eqb code 3) (Least c y τ d × TwoApart c y d × (left ≡ lent))
    (cond (eqb code 4) (Least c y τ d × DividesNot c y d × (left ≡ lent)) ⊥)))

abbrev pub Ends : Code → List ℕ → ℕ → Buffers → Ending → Buffers → Type 0
Ends c y τ lent e left = Row c y τ lent left (number_of (meaning e)) (detail_of (meaning e))
