-- For every input that is not refused exactly one ending holds: the one that the model decides.
--
--   ends_exactly   a decoding ends so exactly when the model decides so
--   exactly_one    there is an outcome, and there is no other
-- Assumes nothing.
use mathlib.Core.Path.{◌≡◌, subst}
use mathlib.Core.Logic.{◌↔◌}
use mathlib.Core.List.{List}
use Prim.Native.Nat.{ℕ}
use Rattle.codes.specs.Code.{Code}
use Rattle.codes.proofs.Passed.{PassedDecoding}
use Rattle.ending.specs.Endings.{Buffers, Ends}
use Rattle.ending.proofs.Unique.{unique}
use Rattle.ending.proofs.Model.{Outcome, decided}
use Rattle.ending.proofs.ModelEnds.{model_ends}

module _ (c : Code) (τ : ℕ) (y w : List ℕ) (lent : Buffers)
    (given : PassedDecoding c τ y lent.array lent.flags w)
  where
    abbrev EndsAs : Outcome → Type 0
    EndsAs o = Ends c y τ lent o.0 o.1

    decided_ends : EndsAs (decided c y τ lent)
    decided_ends = model_ends given.array.proper given.array.received τ given.limit lent

    pub ends_exactly : (o : Outcome) → EndsAs o ↔ (decided c y τ lent ≡ o)
    ends_exactly o = (to, λ e. subst EndsAs e decided_ends)
      where
        to : EndsAs o → decided c y τ lent ≡ o
        to h i =
            let (e, b) = unique given.array.proper given.array.received τ given.limit
            (decided c y τ lent).0
            o.0
            lent
            (decided c y τ lent).1
            o.1
            decided_ends
            h in
            (e i, b i)

    pub exactly_one : (o : Outcome) × EndsAs o × ((o' : Outcome) → EndsAs o' → o ≡ o')
    exactly_one = (decided c y τ lent, decided_ends, λ o h. (ends_exactly o).0 h)
