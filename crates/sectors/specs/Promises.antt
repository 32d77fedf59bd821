-- What the decoding of a ring by its sectors promises. It is given q, m, the trial limit, the received ring, the buffers and the space
-- lent.

--   Carried q y E e left       the array of y ends as e by the table E, and its answer is carried back to left
--   RingEnds q m τ y lent e left    the decoding of y, not refused, ends as e and turns the buffers lent into left
--   Decodes q m τ y lent space l    the decoding of y leaves l
use Rattle.std.specs.Prelude.{◌≡◌, List, ℕ}
use Rattle.ending.specs.Endings.{Buffers, Ends}
use Rattle.ending.specs.declared.Ending.{Ending}
use Rattle.joint.specs.Promises as Joint
use Rattle.hermitian.specs.Ring.{ring_code, ring_of, ArrayOf}
use Rattle.hermitian.specs.Checks.{decode_checks}

-- 'Decoding a ring is decoding that array, with the answer carried back': E is the table of the array's endings; what is carried back is
-- the ring of the answer, and the flags of the columns are those of the sectors
pub record Carried (q : ℕ) (y : List ℕ) (E : List ℕ → Ending → Buffers → Type 0) (e : Ending) (left : Buffers) : Type 0 where
  pub array : List ℕ
  pub is_array : ArrayOf q y array
  pub answer : Buffers
  pub ends : E array e answer
  pub back : left ≡ Joint.on_corrected (ring_of q) e answer

abbrev pub RingEnds : (q m τ : ℕ) (y : List ℕ) (lent : Buffers) → Ending → Buffers → Type 0
RingEnds q m τ y lent = Carried q y (λ a. Ends (ring_code q m) a τ lent)

abbrev pub Decodes : (q m τ : ℕ) (y : List ℕ) (lent : Buffers) (space : List ℕ) → Joint.Left → Type 0
Decodes q m τ y lent space =
    Joint.Decoding (decode_checks q m τ y lent.array lent.flags space) lent space (RingEnds q m τ y lent)
