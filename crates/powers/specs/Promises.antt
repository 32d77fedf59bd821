-- What the decoding of powers promises: 02, 2026-09, 'One weak row read as several'. It is given the single-row code description by its
-- parts, s, the trial limit, the received row, the buffers and the space lent.

--   PowerEnds d xs k s z τ lent e left      the decoding of the powers of z ends as e, and its first row turns lent into left
--   EndsAs d k s xs fs τ y lent e left      the decoding of y, not refused, ends as e and leaves left
--   Decodes d k s xs fs τ y lent space l    the decoding of y leaves l
use Rattle.std.specs.Prelude.{◌≡◌, List, [], ◌∷◌, ℕ, length, take}
use Rattle.codes.specs.Factors.{description_of}
use Rattle.ending.specs.Endings.{Buffers, Ends}
use Rattle.ending.specs.declared.Ending.{Ending}
use Rattle.joint.specs.Promises.{Left, Decoding, Struck, on_corrected}
use Rattle.power_checks.specs.Powers.{power_code, power_rows}
use Rattle.power_checks.specs.Checks.{decode_checks}

-- 'and decode them jointly': the table of 01 for the rows; 'then the first row is returned'; 'the other endings are passed through'
pub record PowerEnds (d : ℕ) (xs : List ℕ) (k s : ℕ) (z : List ℕ) (τ : ℕ) (lent : Buffers) (e : Ending) (left : Buffers) : Type 0 where
  pub answer : Buffers
  pub ends : Ends (power_code d xs k s) (power_rows d s z) τ lent e answer
  pub back : left ≡ on_corrected (take (length xs)) e answer

-- of the received row divided by its factors, with the answer multiplied back: 2026-11, 'Power rows use the factors' powers', for the
-- powers of the quotients are the quotients of the powers by the factors' powers (Demands, `factors-powers`)
abbrev pub EndsAs : (d k s : ℕ) (xs fs : List ℕ) (τ : ℕ) (y : List ℕ) (lent : Buffers) → Ending → Buffers → Type 0
EndsAs d k s xs fs τ y lent = Struck (description_of d xs fs (k ∷ [])) y (λ z. PowerEnds d xs k s z τ lent)

abbrev pub Decodes : (d k s : ℕ) (xs fs : List ℕ) (τ : ℕ) (y : List ℕ) (lent : Buffers) (space : List ℕ) → Left → Type 0
Decodes d k s xs fs τ y lent space =
    Decoding (decode_checks d k s xs fs τ y lent.array lent.flags space) lent space (EndsAs d k s xs fs τ y lent)
