-- What the calls of a salvage promise: 02, 2026-12.

--   meaning r          the number and values of what is found
--   Rooms              the buffers lent for a record and for its line; rooms, these of their parts
--   told at lent p     the answer that tells the piece p at the offset, and the buffers then
--   Finds at b lent r left    what is found at the front of b, which is all that is left of the old file from the offset on
--   Lists at n lent r left    the line of a run of n skipped bytes from the offset on, none where there are no such bytes
use Rattle.std.specs.Prelude.{◌≡◌, List, [], ◌∷◌, ℕ, length}
use Rattle.patch.specs.Parts.{lay}
use Rattle.refusal.specs.Meaning.{Meaning}
use Rattle.salvage.specs.Pieces.{Piece, kept, skipped, AtFront}
use Rattle.salvage.specs.Listing.{run, line_of, lines_from}
use Rattle.salvage.specs.declared.Found.{Found}
use Rattle.salvage.specs.declared.Found.TheVariants.{End, Kept, Skipped}

-- what is found has no number in 02: 0 nothing is left; 1 a record of so many bytes, and a line of so many; 2 so many skipped bytes
abbrev pub meaning : Found → Meaning
meaning End = (0, [])
meaning (Kept n m) = (1, n ∷ m ∷ [])
meaning (Skipped n) = (2, n ∷ [])

pub record Rooms : Type 0 where
  pub for_record : List ℕ
  pub for_line : List ℕ

abbrev pub rooms : (for_record for_line : List ℕ) → Rooms
rooms r l = record { for_record = r; for_line = l }

-- a record that is kept, and its line, are laid at the front of the buffers; skipped bytes leave them as lent
abbrev pub told : (at : ℕ) → Rooms → Piece → Meaning × Rooms
told at lent (kept old new) = let line = line_of at (kept old new) in
    ((1, length new ∷ length line ∷ []), rooms (lay 0 new lent.for_record) (lay 0 line lent.for_line))
told at lent (skipped n) = ((2, n ∷ []), lent)

abbrev pub Finds : (at : ℕ) (b : List ℕ) (lent : Rooms) → Found → (left : Rooms) → Type 0
Finds at [] lent r left = (meaning r ≡ meaning End) × (left ≡ lent)
Finds at (x ∷ b) lent r left = (p : Piece) × AtFront (x ∷ b) p × (told at lent p ≡ (meaning r, left))

pub record Lists (at n : ℕ) (lent : List ℕ) (r : ℕ) (left : List ℕ) : Type 0 where
  pub size : r ≡ length (lines_from at (run n))
  pub laid : left ≡ lay 0 (lines_from at (run n)) lent
