-- What a decoding of a ring with lost sectors promises: 02, 2026-03, 'Rings take lost sectors the same way.' L is the list of lost
-- sectors, which are the lost columns of the array.

--   LostRingEnds q m τ L y lent e left    the decoding of y, not refused, ends as e and turns the buffers lent into left
--   DecodesLost L q m τ y lent space l    the decoding of y leaves l
use Rattle.std.specs.Prelude.{List, ℕ}
use Rattle.ending.specs.Endings.{Buffers}
use Rattle.ending.specs.declared.Ending.{Ending}
use Rattle.joint.specs.Promises as Joint
use Rattle.joint.specs.Lost.{LostEnds}
use Rattle.hermitian.specs.Ring.{ring_code}
use Rattle.hermitian.specs.Checks.{lost_checks}
use Rattle.sectors.specs.Promises.{Carried}

abbrev pub LostRingEnds : (q m τ : ℕ) (L y : List ℕ) (lent : Buffers) → Ending → Buffers → Type 0
LostRingEnds q m τ L y lent = Carried q y (λ a. LostEnds (ring_code q m) L a τ lent)

abbrev pub DecodesLost : (L : List ℕ) (q m τ : ℕ) (y : List ℕ) (lent : Buffers) (space : List ℕ) → Joint.Left → Type 0
DecodesLost L q m τ y lent space =
    Joint.Decoding (lost_checks q m τ L y lent.array lent.flags space) lent space (LostRingEnds q m τ L y lent)
