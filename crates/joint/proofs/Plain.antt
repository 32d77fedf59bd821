-- 02, 2026-11, 'All ones gives today's answers': with factors of one the promises are those of a decoding without factors.
--
--   WholePlain, LostPlain    these: 01's own checks, and the table of endings of the received array itself
--   ones_decodes, ones_lost  the promises with factors of one say the same
-- Assumes nothing.
use mathlib.Core.Path.{◌≡◌, sym, ◌∙◌, subst}
use mathlib.Core.Logic.{◌↔◌}
use mathlib.Core.List.{List, [], ◌∷◌}
use Prim.Native.Nat.{ℕ}
use lib.Dec.{ltb}
use Rattle.refusal.specs.Refusal.{Check, ◌when◌, first}
use Rattle.codes.specs.Code.{Code, IsArray, joint_limit}
use Rattle.codes.specs.Factors.{plain}
use Rattle.codes.specs.Checks.{remaining_checks}
use Rattle.codes.proofs.Proper.{Proper}
use Rattle.codes.proofs.Passed.{decoding}
use Rattle.codes.proofs.Messages.{encoded_array}
use Rattle.codes.proofs.Plain.{plain_array, ones_array}
use Rattle.codes.proofs.Lost.{lost_passed}
use Rattle.ending.specs.Endings.{Buffers, Ends}
use Rattle.ending.specs.declared.Ending.{Ending}
use Rattle.ending.specs.declared.Ending.TheVariants.{Corrected}
use Rattle.joint.specs.Promises.{Left, Decoding, Decodes, Struck, checks_of, given}
use Rattle.joint.specs.Lost.{LostEnds, DecodesLost, checks_lost}
use Rattle.joint.proofs.Promised.{same_decoding}
use Rattle.joint.proofs.Struck.{ones_struck}
use Rattle.joint.proofs.Lost.{corrected_array}

-- a table of endings whose corrected answers are arrays, behind checks that leave the code proper and y an array
module _ (c : Code) (y : List ℕ) (lent : Buffers) (space : List ℕ) (cs ds : List Check) (same : first cs ≡ first ds)
    (E : List ℕ → Ending → Buffers → Type 0) (passed : 0 ≡ first cs → Proper c × IsArray c y)
    (answers : Proper c → (w : ℕ) (b : Buffers) → E y (Corrected w) b → IsArray c b.array) where
  ones_same : (l : Left) → Decoding cs lent space (Struck (plain c) y E) l ↔ Decoding ds lent space (E y) l
  ones_same l = (
    same_decoding cs lent space ds (Struck (plain c) y E) (E y) same
        (λ none e b. let (p, i) = passed none in (ones_struck c p i E (answers p) e b).0) l,
    same_decoding ds lent space cs (E y) (Struck (plain c) y E) (sym same)
        (λ none e b. let (p, i) = passed (none ∙ sym same) in (ones_struck c p i E (answers p) e b).1) l,
  )

module _ (c : Code) (τ : ℕ) (y : List ℕ) (lent : Buffers) (space : List ℕ) where
  abbrev eight : List Check
  eight = (8 when ltb (joint_limit c) τ) ∷ []

  abbrev pub WholePlain : Left → Type 0
  WholePlain = Decoding (plain_array c y lent.array lent.flags space eight) lent space (Ends c y τ lent)

  pub ones_decodes : (l : Left) → Decodes (given (plain c) τ y lent space) l ↔ WholePlain l
  ones_decodes = ones_same c y lent space (checks_of (given (plain c) τ y lent space))
      (plain_array c y lent.array lent.flags space eight)
      (ones_array c y lent.array lent.flags space eight) (λ z. Ends c z τ lent)
      (λ none. let (p, f) = decoding (plain c) τ y lent.array lent.flags space none in (p.array.proper, p.array.received))
      (λ p w b d. subst (IsArray c) (sym d.array) (encoded_array p d.message))

  module _ (L : List ℕ) where
    abbrev pub LostPlain : Left → Type 0
    LostPlain = Decoding (plain_array c y lent.array lent.flags space (remaining_checks c τ L)) lent space (LostEnds c L y τ lent)

    pub ones_lost : (l : Left) → DecodesLost L (given (plain c) τ y lent space) l ↔ LostPlain l
    ones_lost = ones_same c y lent space (checks_lost L (given (plain c) τ y lent space))
        (plain_array c y lent.array lent.flags space (remaining_checks c τ L))
        (ones_array c y lent.array lent.flags space (remaining_checks c τ L)) (λ z. LostEnds c L z τ lent)
        (λ none. let (p, f) = lost_passed (plain c) τ L y lent.array lent.flags space none in (p.array.proper, p.array.received))
        (λ p w b d. corrected_array c L p d)
