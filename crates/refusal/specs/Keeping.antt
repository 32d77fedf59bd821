-- The promise of a call that makes checks: refused by the first that applies, and else as the call's own table says.

--   By n refused Done l       by the number n of the first check that applies, 0 for none
--   Keeps cs refused Done l   the same for the checks cs
use Rattle.std.specs.Prelude.{◌≡◌, List, ℕ, zero, suc}
use Rattle.refusal.specs.Refusal.{Check, first}

abbrev pub By : {L : Type 0} → ℕ → (ℕ → L) → (L → Type 0) → L → Type 0
By zero refused Done l = Done l
By (suc k) refused Done l = l ≡ refused (suc k)

-- 'The first that applies, in the call's own order where one is given, is the answer; no other reason exists.'
abbrev pub Keeps : {L : Type 0} → List Check → (ℕ → L) → (L → Type 0) → L → Type 0
Keeps cs refused Done l = By (first cs) refused Done l
