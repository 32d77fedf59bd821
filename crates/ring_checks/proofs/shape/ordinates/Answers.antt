-- The y of the points: antt works the sectors out and finds them equal to the constants.
use Rattle.std.proofs.Common.{◌≡◌, ℕ, refl}
use mathlib.Core.Logic.{◌⊎◌, inl, inr}
use mathlib.Core.List.{flat_map}
use Rattle.field.specs.Symbols.{plus, modulus, times_x, times_low, times, raised}
use Rattle.hermitian.specs.Ring.{numbers, on_curve, those, sector}
use Rattle.hermitian.proofs.Sizes.{sizes}
use Rattle.ring_checks.proofs.shape.ordinates.Goals as goal

pub returns-then-q-eq2 : goal.returns-then-q-eq2
unfolding numbers raised on_curve those sector plus modulus times_x times_low times flat_map
returns-then-q-eq2 c = rw c.if-q-eq2.true (rw c.copy.ensures refl)

-- the other size is 4
four : (q : ℕ) → (q ≡ 2 → ⊥) → (q ≡ 2) ⊎ (q ≡ 4) → q ≡ 4
four q n (inl e) = absurd (n e)
four q n (inr e) = e

pub returns-else-q-eq2 : goal.returns-else-q-eq2
unfolding numbers raised on_curve those sector plus modulus times_x times_low times flat_map
returns-else-q-eq2 c = rw (four _ c.if-q-eq2.false (sizes _ c.requires)) (rw c.copy-else-q-eq2.ensures refl)
