-- What a decoding with lost columns promises: 02, 2026-03, 'Lost sectors'. L is the list of lost columns.

--   LostCorrects c L y τ w left    'corrected' with w wrong columns among the remaining ones leaves left
--   LostEnds c L y τ lent e left   the decoding of y, not refused, ends as e and turns the buffers lent into left
--   DecodesLost L g l              the decoding of g leaves l; checks_lost L g, its checks
use Rattle.std.specs.Prelude.{◌≡◌, cond, List, ℕ}
use Rattle.refusal.specs.Refusal.{Check}
use Rattle.refusal.specs.Meaning.{detail_of}
use Rattle.codes.specs.Code.{Code, columns, encoded, flags_of}
use Rattle.codes.specs.Lost.{core, core_of, flags_lost}
use Rattle.codes.specs.Checks.{lost_checks}
use Rattle.ending.specs.Endings.{Buffers, Corrects, Ends, meaning, is_corrected}
use Rattle.ending.specs.declared.Ending.{Ending}
use Rattle.joint.specs.Promises.{Given, Left, Decoding, Struck}

-- 'On "corrected" the lost columns are filled from the rows found, their flags are 2, and the detail counts wrong columns among
-- the rest': the rows found are those of the message m of the remaining columns
pub record LostCorrects (c : Code) (L y : List ℕ) (τ w : ℕ) (left : Buffers) : Type 0 where
  pub found : Buffers
  pub corrects : Corrects (core c L) (core_of c L y) τ w found
  pub array : left.array ≡ encoded c corrects.m
  pub flags : left.flags ≡ flags_lost (columns c) L (flags_of c y left.array)

-- 'The answer is that of the array made of the remaining columns, in their order, with their points': the table of 01 over these
abbrev pub LostEnds : Code → List ℕ → List ℕ → ℕ → Buffers → Ending → Buffers → Type 0
LostEnds c L y τ lent e left =
    cond (is_corrected e) (LostCorrects c L y τ (detail_of (meaning e)) left) (Ends (core c L) (core_of c L y) τ lent e left)

abbrev pub checks_lost : List ℕ → Given → List Check
checks_lost L g = lost_checks g.description g.limit L g.received g.lent.array g.lent.flags g.space

abbrev pub DecodesLost : List ℕ → Given → Left → Type 0
DecodesLost L g = Decoding (checks_lost L g) g.lent g.space
    (Struck g.description g.received (λ y. LostEnds g.description.code L y g.limit g.lent))
