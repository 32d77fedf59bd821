-- What is near a received array: the user's demand on a decoding, 'a code array within the limit while every other code array
-- differs in more columns than this one'. Said of any code, with `count`, in how many columns an array is wrong: all columns of a
-- mark or the remaining ones, or the sectors of a ring.

--   Nearest IsCode count τ w a    a is of the code and wrong in exactly w ≤ τ columns, every other one in more than w
--   Near IsCode count τ           some array of the code is wrong in at most τ columns; Far IsCode count τ, none is
use Rattle.std.specs.Prelude.{◌≡◌, List, ℕ, ◌≤◌, ◌<◌}

pub record Nearest (IsCode : List ℕ → Type 0) (count : List ℕ → ℕ) (τ w : ℕ) (a : List ℕ) : Type 0 where
  pub code : IsCode a
  pub wrong : count a ≡ w
  pub within : w ≤ τ
  pub others : (b : List ℕ) → IsCode b → ¬ (b ≡ a) → w < count b

abbrev pub Near : (List ℕ → Type 0) → (List ℕ → ℕ) → ℕ → Type 0
Near IsCode count τ = (a : List ℕ) × IsCode a × (count a ≤ τ)

abbrev pub Far : (List ℕ → Type 0) → (List ℕ → ℕ) → ℕ → Type 0
Far IsCode count τ = (a : List ℕ) → IsCode a → τ < count a
