-- One row read as several: 02, 2026-09, 'raise each received symbol to the powers 1 to s, giving s rows with message lengths i(k−1)+1'.

--   power_length k i          the message length of the power i; power_lengths k s, those of the powers 1 to s
--   power_row d i z           each symbol of the row z to the power i; power_rows d s z, the powers 1 to s, row after row
--   row_code d xs k           the single-row code; power_code d xs k s, the code of the s rows
--   power_of A f i            the power i of a polynomial; powers_of A f s, the powers 1 to s, row after row
use mathlib.Core.List.{List, [], ◌∷◌, map, flat_map}
use Rattle.std.specs.Prelude.{ℕ, zero, suc, ◌+◌, ◌-◌, ◌*◌}
use Rattle.field.specs.Symbols.{raised}
use Rattle.field.specs.Arithmetic.{Arithmetic}
use Rattle.poly.specs.Poly.{mul}
use Rattle.codes.specs.Code.{Code, code_of, up_from}

-- 'message lengths i(k−1)+1'
abbrev pub power_length : (k i : ℕ) → ℕ
power_length k i = i * (k - 1) + 1

abbrev pub power_lengths : (k s : ℕ) → List ℕ
power_lengths k s = map (power_length k) (up_from 1 s)

-- 'raise each received symbol to the powers 1 to s, giving s rows'
unfoldable pub power_row : (d i : ℕ) → List ℕ → List ℕ
power_row d i z = map (λ a. raised d a i) z

abbrev pub power_rows : (d s : ℕ) → List ℕ → List ℕ
power_rows d s z = flat_map (λ i. power_row d i z) (up_from 1 s)

-- 'the single-row code'
abbrev pub row_code : (d : ℕ) (points : List ℕ) (k : ℕ) → Code
row_code d xs k = code_of d xs (k ∷ [])

abbrev pub power_code : (d : ℕ) (points : List ℕ) (k s : ℕ) → Code
power_code d xs k s = code_of d xs (power_lengths k s)

-- 'that power of the first row's' polynomial
module _ {K : Type 0} (A : Arithmetic K) where
  unfoldable pub power_of : List K → ℕ → List K
  power_of f zero = A.one ∷ []
  power_of f (suc i) = mul A f (power_of f i)

  abbrev pub powers_of : List K → (s : ℕ) → List K
  powers_of f s = flat_map (power_of f) (up_from 1 s)
