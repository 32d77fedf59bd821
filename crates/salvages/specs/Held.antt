-- What the program holds of its input, and how it goes on.
--
--   Movable l from got        of the bytes l, those up to got are held and those from `from` on are left: at most 490
--   Moved l from got l' r     those left stand at the front of l', of which r bytes are held
--   Writable start at kept n line m    a run that ends at `at`, and n and m bytes of the buffers
--   Steps b r                 r is the piece at the front of b, which has a byte at least and is at hand, or the end
--   wants_more from got        the buffer was filled, and fewer than 490 bytes are left
use Rattle.std.specs.Prelude.{◌≡◌, Bool, ◌&&◌, List, ℕ, ◌+◌, ◌-◌, ◌≤◌, eqb, ltb, length, take}
use Rattle.patch.specs.Parts.{part}
use Rattle.salvage.specs.Pieces.{Piece, skipped, size, AtFront}
use Rattle.salvage.specs.declared.Found.{Found}
use Rattle.salvage.specs.declared.Found.TheVariants.{End, Kept, Skipped}

pub record Movable (l : List ℕ) (from got : ℕ) : Type 0 where
  pub left : from ≤ got
  pub held : got ≤ length l
  pub few : got ≤ from + 490

pub record Moved (l : List ℕ) (from got : ℕ) (l' : List ℕ) (r : ℕ) : Type 0 where
  pub at_hand : got ≤ from + r
  pub most : r ≤ length l'
  pub same : take (got - from) l' ≡ part from (got - from) l

pub record Writable (start at : ℕ) (kept : List ℕ) (n : ℕ) (line : List ℕ) (m : ℕ) : Type 0 where
  pub run : start ≤ at
  pub bytes : n ≤ length kept
  pub lines : m ≤ length line

abbrev pub Steps : List ℕ → Found → Type 0
Steps b End = Unit {0}
Steps b (Kept n m) = (1 ≤ n) × (n ≤ length b) × (p : Piece) × AtFront b p × (size p ≡ n)
Steps b (Skipped n) = (1 ≤ n) × (n ≤ length b) × AtFront b (skipped n)

abbrev pub wants_more : (from got : ℕ) → Bool
wants_more from got = eqb got 4096 && ltb 3606 from
