-- The line of a record: 01, 'Records on standard input'.

--   ascii s              the bytes of a text; decimal n, the decimal digits of a number
--   word e, detail e     the ending's word, and the third field
--   wrong_from i fs       the columns that the flags fs name, the first of which is that of column i
--   wrong_columns e fs    the wrong columns of an ending
--   joined cs            columns joined by commas; the fourth field
--   line_of number e fs   the line
use Rattle.std.specs.Prelude.{cond, List, [], ◌∷◌, ◌++◌, ℕ, zero, suc, ◌+◌, ◌/◌, ◌%◌, ltb}
use Prim.Native.Char.{code}
use Prim.Native.String.{String, [] as nil, ◌∷◌ as ◌then◌}
use Rattle.ending.specs.Endings.{meaning, is_corrected}
use Rattle.ending.specs.declared.Ending.{Ending}
use Rattle.ending.specs.declared.Ending.TheVariants.{Refused, Corrected, Nothing, Several, Hollow}

abbrev pub ascii : String → List ℕ
ascii nil = []
ascii (c then s) = code c ∷ ascii s

-- 48 is the digit 0; n quotients by ten are enough for n
unfoldable pub decimal_by : ℕ → ℕ → List ℕ
decimal_by zero n = (48 + n) ∷ []
decimal_by (suc f) n = cond (ltb n 10) ((48 + n) ∷ []) (decimal_by f (n / 10) ++ (48 + n % 10) ∷ [])

unfoldable pub decimal : ℕ → List ℕ
decimal n = decimal_by n n

-- 'the ending's word'
abbrev pub word : Ending → List ℕ
word (Refused r) = ascii "refused"
word (Corrected w) = ascii "corrected"
word Nothing = ascii "none"
word (Several t) = ascii "several"
word (Hollow t) = ascii "hollow"

-- 'the detail'; 'For "none" the third field is `-`': it has no value
abbrev pub shown : List ℕ → List ℕ
shown [] = ascii "-"
shown (v ∷ vs) = decimal v

abbrev pub detail : Ending → List ℕ
detail e = shown (meaning e).1

-- 'Columns and rows are counted from 0', 'in rising order'
unfoldable pub wrong_from : ℕ → List ℕ → List ℕ
wrong_from i [] = []
wrong_from i (zero ∷ fs) = wrong_from (suc i) fs
wrong_from i (suc f ∷ fs) = i ∷ wrong_from (suc i) fs

-- 'of n flags each is 1 where the column was wrong', on "corrected" alone
abbrev pub wrong_columns : Ending → List ℕ → List ℕ
wrong_columns e fs = cond (is_corrected e) (wrong_from 0 fs) []

-- 'joined by commas'; 'the fourth is `-` where there are no wrong columns'
unfoldable pub commas : List ℕ → List ℕ
commas [] = []
commas (c ∷ cs) = ascii "," ++ decimal c ++ commas cs

unfoldable pub joined : List ℕ → List ℕ
joined [] = ascii "-"
joined (c ∷ cs) = decimal c ++ commas cs

-- 'One line a record: its number from 1, the ending's word, the detail, the wrong columns'
unfoldable pub line_of : ℕ → Ending → List ℕ → List ℕ
line_of number e fs =
    decimal number ++ ascii " " ++ word e ++ ascii " " ++ detail e ++ ascii " " ++ joined (wrong_columns e fs) ++ ascii "\n"
