-- Adding a code array, and raising the trial limit: 02, 2026-13, 'Adding a code array changes nothing but the answer's rows'.

--   shifted_by d a l     l, on 'corrected' with a added to the answer
--   Shifts IsCode d Q   what adding code arrays changes; Q y is what the call promises where y is received
--   Raises J Q          what raising the trial limit changes; Q τ is what the call promises with the limit τ, and J the joint limit
use Rattle.std.specs.Prelude.{◌≡◌, List, ℕ, ◌≤◌}
use Rattle.field.specs.Arithmetic.{gf}
use Rattle.poly.specs.Poly.{add}
use Rattle.codes.specs.Added.{Added}
use Rattle.ending.specs.declared.Ending.TheVariants.{Nothing}
use Rattle.joint.specs.Promises.{Left, left, on_corrected}

abbrev pub shifted_by : (d : ℕ) (a : List ℕ) → Left → Left
shifted_by d a l = left l.ending (on_corrected (λ b. add (gf d) b a) l.ending l.buffers) l.space

-- 'ending, detail and flags are the same and a corrected answer is shifted by just the added array'
abbrev pub Shifts : (IsCode : List ℕ → Type 0) (d : ℕ) (Q : List ℕ → Left → Type 0) → Type 0
Shifts IsCode d Q = (y a z : List ℕ) → Added IsCode d y a z → (l l' : Left) → Q y l → Q z l' → l' ≡ shifted_by d a l

-- 'raising the trial limit changes no ending but "none", within the joint limit'
abbrev pub Raises : (J : ℕ) (Q : ℕ → Left → Type 0) → Type 0
Raises J Q = (τ τ' : ℕ) → τ ≤ τ' → τ' ≤ J → (l l' : Left) → Q τ l → Q τ' l' → ¬ (l.ending ≡ Nothing) → l ≡ l'
