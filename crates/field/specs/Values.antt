-- What the arithmetic calls answer: 01, 'Fields and arrays', 'Arithmetic calls make checks 1 and 7 and answer the symbol or that number.'

--   checks d a b     the two checks, in order; divisor_checks b, that of the divisor; quotient_checks, those of the quotient
--   meaning v        01's number and values of an answer
--   Gives cs s v     v is the promised answer: the first refusal of cs, or else the symbol s
use Rattle.std.specs.Prelude.{◌≡◌, ◌||◌, List, [], ◌∷◌, ◌++◌, ℕ, eqb, Result, Ok, Err}
use Rattle.refusal.specs.Refusal.{Check, ◌when◌, bad_degree, outside_field}
use Rattle.refusal.specs.Keeping.{Keeps}
use Rattle.refusal.specs.Meaning.{Meaning, refusal}
use Rattle.refusal.specs.Numbers.{number}
use Rattle.refusal.specs.declared.Refusal.{Refusal}

abbrev pub checks : ℕ → ℕ → ℕ → List Check
checks d a b = (1 when bad_degree d) ∷ (7 when outside_field d a || outside_field d b) ∷ []

-- 02, 2026-02: '25, zero divisor, after 7'
abbrev pub divisor_checks : ℕ → List Check
divisor_checks b = (25 when eqb b 0) ∷ []

abbrev pub quotient_checks : ℕ → ℕ → ℕ → List Check
quotient_checks d a b = checks d a b ++ divisor_checks b

-- a symbol has the number 1, and is its one value
abbrev pub symbol : ℕ → Meaning
symbol s = (1, s ∷ [])

abbrev pub meaning : Result ℕ Refusal → Meaning
meaning (Err r) = refusal (number r)
meaning (Ok s) = symbol s

abbrev pub Gives : List Check → ℕ → Result ℕ Refusal → Type 0
Gives cs s v = Keeps cs refusal (λ m. m ≡ symbol s) (meaning v)
