-- `decide` decodes a whole record, and keeps or skips it by its ending.
use Rattle.std.proofs.Common.{◌≡◌, ℕ, List, arith}
use mathlib.Core.Logic.{◌⊎◌, inl, inr}
use Rattle.ending.specs.declared.Ending.{Ending}
use Rattle.ending.specs.declared.Ending.TheVariants.{Refused, Nothing, Several, Hollow}
use Rattle.record.specs.Records.{size_in}
use Rattle.record.specs.Working.{Decoded}
use Rattle.record.proofs.Wholes.{whole_of}
use Rattle.salvage.specs.Pieces.{skipped}
use Rattle.salvage.specs.Promises.{Rooms}
use Rattle.salvage.specs.Working.{Told, Decided}
use Rattle.salvage.specs.declared.Found.{Found}
use Rattle.salvage.proofs.Told.{decided_as, skip_told, skip_whole}
use Rattle.salvage.proofs.decide.Goals as goal

-- a record that was decoded and ended as 'none', 'several' or 'hollow', and is skipped whole
skipped_as : {e : Ending} → (e ≡ Nothing) ⊎ (((t : ℕ) × (e ≡ Several t)) ⊎ ((t : ℕ) × (e ≡ Hollow t)))
    → {w b array flags : List ℕ} → Decoded w b e array flags → {at : ℕ} {lent : Rooms} {r : Found} {left : Rooms}
    → Told at b (skipped (size_in b)) lent r left → Decided w at b lent r left
skipped_as (inl is) d told = decided_as Nothing is d told
skipped_as (inr (inl (t, is))) d told = decided_as (Several t) is d told
skipped_as (inr (inr (t, is))) d told = decided_as (Hollow t) is d told

pub size-size-requires : goal.size-size-requires
size-size-requires c = let w = whole_of _ c.requires.whole in record { five = w.five; inside = w.inside }

pub returns-in-Refused : goal.returns-in-Refused
returns-in-Refused c = decided_as (Refused _) c.in-Refused.is c.decode-ending.ensures
    (skip_told _ _ 1 _ (omega arith) (omega (arith, whole_of _ c.requires.whole)))

pub returns-in-Nothing : goal.returns-in-Nothing
returns-in-Nothing c =
    skipped_as c.in-Nothing.is c.decode-ending.ensures (skip_whole _ _ _ c.size-size.ensures.is (whole_of _ c.requires.whole))
