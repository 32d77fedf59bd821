-- A mark by itself, of a tray whose checks passed.
--
--   own_check            of the checks of a call for it alone, none but 7 can apply
--   decoded_seven        where 7 does, the call is refused with it
--   decoded_by           where it does not, the call ends as the decoding of the struck array, in whatever space
--   ready                and that array is ready to be decoded
-- Assumes nothing.
use mathlib.Core.Path.{◌≡◌, refl, sym, ◌∙◌}
use mathlib.Core.Bool.{Bool, true, false}
use mathlib.Core.List.{List, [], ◌∷◌}
use Prim.Native.Nat.{ℕ, ◌≤◌}
use lib.ListN.{length}
use borrow.Author.Tests.{le-ltb}
use Rattle.refusal.specs.Refusal.{◌when◌, first, some_outside_field}
use Rattle.refusal.specs.declared.Refusal.TheVariants.{Symbols}
use Rattle.refusal.proofs.Ladders.{hit, miss, miss_last, same_behind}
use Rattle.codes.specs.Code.{columns, joint_limit}
use Rattle.codes.specs.Factors.{Description}
use Rattle.codes.specs.Checks.{space_bytes}
use Rattle.codes.proofs.Proper.{array}
use Rattle.codes.proofs.Passed.{up_to_seven}
use Rattle.codes.proofs.Lost.{none_remaining}
use Rattle.ending.specs.Endings.{Buffers}
use Rattle.ending.specs.declared.Ending.{Ending}
use Rattle.ending.specs.declared.Ending.TheVariants.{Refused}
use Rattle.joint.specs.Promises.{Given, given, left, cleared, checks_of}
use Rattle.joint.specs.Lost.{checks_lost}
use Rattle.joint.specs.Working.{ReadyLost, StruckEnds}
use Rattle.joint.proofs.Promised.{refuses, leaves}
use Rattle.joint.proofs.Lost.{whole_ready}
use Rattle.joint.proofs.LostDemands.{nothing_lost}
use Rattle.tray.specs.Promises.{cells}
use Rattle.tray.specs.Working.{Common, Decoded}

module _ (D : Description) (τ : ℕ) (common : Common D τ) (y : List ℕ) (lent : Buffers) (received : length y ≡ cells D.code)
    (array_size : length lent.array ≡ cells D.code) (flags_size : length lent.flags ≡ columns D.code) where
  abbrev bad : Bool
  bad = some_outside_field D.code.degree y

  abbrev asked : List ℕ → Given
  asked v = given D τ y lent v

  pub own_check : (v : List ℕ) → space_bytes ≤ length v → first (checks_of (asked v)) ≡ first ((7 when bad) ∷ [])
  own_check v room =
      up_to_seven D common.counts common.proper common.factors common.checked y lent.array lent.flags v
      received array_size flags_size room _
      ∙ same_behind ((7 when bad) ∷ []) _ [] tt (λ _. miss 8 _ [] (le-ltb (joint_limit D.code) τ common.limit))

  pub decoded_seven : bad ≡ true → Decoded D τ y lent (Refused Symbols) lent
  decoded_seven b v room =
      (v, refuses (checks_of (asked v)) lent v _ Symbols (sym (hit 7 bad [] b) ∙ sym (own_check v room)))

  module _ (good : bad ≡ false) where
    pub ready : ReadyLost D.code τ [] y
    ready = whole_ready common.counts common.proper (array D.code y received good) common.limit

    pub decoded_by : (e : Ending) (b : Buffers) → StruckEnds D [] y τ lent e b → Decoded D τ y lent e b
    decoded_by e b ends v room = (
      cleared v,
      (nothing_lost (asked v) (left e b (cleared v))).0 (leaves (checks_lost [] (asked v)) lent v _
          (sym (none_remaining D τ y lent.array lent.flags v ∙ own_check v room ∙ miss_last 7 bad good)) e b (cleared v) ends refl),
    )
