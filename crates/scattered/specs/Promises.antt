-- What the decoding of a ring by its wrong symbols promises: 02, 2026-06, 'Pits scattered over the ring'. It is given q, m, the trial
-- limit, the received ring, the buffers and the space lent.

--   Mends q m τ y w left    left has a word of H(m) that differs from y in w ≤ τ symbols, and its flags
--   PitEnds q m τ y lent e left    the decoding of y, not refused, ends as e and turns the buffers lent into left
--   Decodes q m τ y lent space l   the decoding of y leaves l
use Rattle.std.specs.Prelude.{◌≡◌, cond, List, ℕ, ◌≤◌, eqb}
use Rattle.refusal.specs.Meaning.{number_of, detail_of}
use Rattle.codes.specs.Near.{Far}
use Rattle.ending.specs.Endings.{Buffers, meaning, is_corrected}
use Rattle.ending.specs.declared.Ending.{Ending}
use Rattle.joint.specs.Promises as Joint
use Rattle.hermitian.specs.Ring.{RingWord}
use Rattle.hermitian.specs.Pits.{symbol_flags, wrong_symbols, pit_checks}

-- '"corrected" exactly when some word of H(m) differs in at most τ symbols; that word is the only one, and it is returned with q³
-- flags, the detail counting its wrong symbols'
pub record Mends (q m τ : ℕ) (y : List ℕ) (w : ℕ) (left : Buffers) : Type 0 where
  pub word : RingWord q m left.array
  pub detail : w ≡ wrong_symbols q y left.array
  pub within : w ≤ τ
  pub flags : left.flags ≡ symbol_flags q y left.array

-- 'Otherwise it answers "none" and leaves result and flags alone': no word is so near
abbrev pub PitEnds : (q m τ : ℕ) (y : List ℕ) (lent : Buffers) → Ending → Buffers → Type 0
PitEnds q m τ y lent e left =
    cond (is_corrected e) (Mends q m τ y (detail_of (meaning e)) left)
    (cond (eqb (number_of (meaning e)) 2) (Far (RingWord q m) (wrong_symbols q y) τ × (left ≡ lent)) ⊥)

-- 'working space is as in 01'
abbrev pub Decodes : (q m τ : ℕ) (y : List ℕ) (lent : Buffers) (space : List ℕ) → Joint.Left → Type 0
Decodes q m τ y lent space =
    Joint.Decoding (pit_checks q m τ y lent.array lent.flags space) lent space (PitEnds q m τ y lent)
