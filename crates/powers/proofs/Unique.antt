-- No two distinct outcomes satisfy the promise of a decoding of powers.
--
--   passed_of    what the checks leave
--   quotient     the received row, divided, is a row
--   unique       what a decoding leaves is fixed by what it is given: ending and detail, row, flags and working space
-- Assumes nothing.
use mathlib.Core.Path.{◌≡◌}
use mathlib.Core.List.{List, [], ◌∷◌}
use Prim.Native.Nat.{ℕ}
use lib.ListN.{length}
use Rattle.refusal.specs.Refusal.{first}
use Rattle.codes.specs.Factors.{description_of, divided}
use Rattle.codes.proofs.Factors.{is_divided}
use Rattle.ending.specs.Endings.{Buffers}
use Rattle.joint.specs.Promises.{Left}
use Rattle.joint.proofs.Promised as promised
use Rattle.joint.proofs.Struck.{struck_unique}
use Rattle.power_checks.specs.Checks.{decode_checks}
use Rattle.powers.specs.Promises.{Decodes}
use Rattle.powers.specs.Working.{Row}
use Rattle.powers.proofs.Corrected.{row_proper, row_array}
use Rattle.powers.proofs.Passed.{Passed, passed}
use Rattle.powers.proofs.Ended.{power_unique}

module _ (d k s : ℕ) (xs fs : List ℕ) (τ : ℕ) (y : List ℕ) (lent : Buffers) (space : List ℕ) where
  module _ (none : 0 ≡ first (decode_checks d k s xs fs τ y lent.array lent.flags space)) where
    pub passed_of : Passed d k s xs fs τ y lent.array lent.flags space
    passed_of = passed _ _ _ _ _ _ _ _ _ _ none

    pub quotient : Row d (length xs) (divided (description_of d xs fs (k ∷ [])) y)
    quotient =
        let p = passed_of in
        (row_array p.shape).0
        (is_divided (description_of d xs fs (k ∷ [])) (row_proper p.shape) p.factors ((row_array p.shape).1 p.received))

  pub unique : (l l' : Left) → Decodes d k s xs fs τ y lent space l → Decodes d k s xs fs τ y lent space l' → l ≡ l'
  unique = promised.unique (decode_checks d k s xs fs τ y lent.array lent.flags space) lent space _ (λ none.
      let p = passed_of none in
      struck_unique (description_of d xs fs (k ∷ [])) y _ (power_unique p.shape (quotient none) p.limit lent))
