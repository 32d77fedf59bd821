-- Column factors: 02, 2026-11, 'The mill in the north multiplies each column by a fixed nonzero factor before striking.'

--   Description         a code, and a factor for each of its columns; description_of d xs fs ks, that of these
--   with_factors f fs r a    f of the factor and the symbol, in each column of r rows; with_factors_row, of one row
--   multiplied D a      each symbol times its column's factor; divided D y, each divided by it
--   encoded_by D m       the array that is struck for a message; CodeArrayBy D a, a is one
--   ones n              n factors of one; plain c, the description of the code c with these
use Rattle.std.specs.Prelude.{◌≡◌, List, [], ◌∷◌, ◌++◌, ℕ, zero, suc, length, take, drop, replicate}
use Rattle.field.specs.Symbols.{times, over}
use Rattle.codes.specs.Code.{Code, code_of, columns, rows, IsMessage, encoded}

-- 'The code description … gains n factors'
pub record Description : Type 0 where
  pub code : Code
  pub factors : List ℕ

abbrev pub description_of : (d : ℕ) (points factors lengths : List ℕ) → Description
description_of d xs fs ks = record { code = code_of d xs ks; factors = fs }

unfoldable pub with_factors_row : (ℕ → ℕ → ℕ) → List ℕ → List ℕ → List ℕ
with_factors_row f [] a = []
with_factors_row f (c ∷ cs) [] = []
with_factors_row f (c ∷ cs) (s ∷ a) = f c s ∷ with_factors_row f cs a

unfoldable pub with_factors : (ℕ → ℕ → ℕ) → List ℕ → ℕ → List ℕ → List ℕ
with_factors f fs zero a = []
with_factors f fs (suc r) a = with_factors_row f fs (take (length fs) a) ++ with_factors f fs r (drop (length fs) a)

-- 'a row then holds factor times value'
abbrev pub multiplied : Description → List ℕ → List ℕ
multiplied D a = with_factors (times D.code.degree) D.factors (rows D.code) a

-- 'y is the symbol divided by its column's factor'
abbrev pub divided : Description → List ℕ → List ℕ
divided D y = with_factors (λ f s. over D.code.degree s f) D.factors (rows D.code) y

abbrev pub encoded_by : Description → List ℕ → List ℕ
encoded_by D m = multiplied D (encoded D.code m)

abbrev pub CodeArrayBy : Description → List ℕ → Type 0
CodeArrayBy D a = (m : List ℕ) × IsMessage D.code m × (encoded_by D m ≡ a)

-- 'All ones gives today's answers'
abbrev pub ones : ℕ → List ℕ
ones n = replicate n 1

abbrev pub plain : Code → Description
plain c = record { code = c; factors = ones (columns c) }
