-- What a C function answers: 'For the C caller the answer is one number, 256·code + detail'; 'for the C caller these are that number
-- and 256'.
use Rattle.std.specs.Prelude.{◌≡◌, ℕ}
use Rattle.refusal.specs.Meaning.{Meaning, packed}

-- the number r stands for an answer of the call that keeps its promise
abbrev pub Returns : {E : Type 0} (meaning : E → Meaning) (Keeps : E → Type 0) (r : ℕ) → Type 0
Returns {E} meaning Keeps r = (e : E) × (r ≡ packed (meaning e)) × Keeps e
