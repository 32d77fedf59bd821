-- What the functions ask and leave. No promise cites these.
--
--   Arrays r n a b       two arrays of r rows of n symbols
--   Checked c            a code whose checks passed
--   PlainFit c z W a     a is a code array without factors, and W the set of columns in which z is wrong
--   TryingPlain, FitsPlain    what trying the set W asks, and what it answers
--   kept count a room    the room with a behind so many others, if it reaches so far; placed count l room, with all of l
--   Keeping d fs r a count    an array of r rows, factors, and so many arrays before it
--   Quotient D z         a description whose checks passed, and the quotient of what was received
--   Trying D z W count   what trying W, with so many arrays found before, asks
--   Turned D z Ws count room r room'    the sets Ws were tried, with so many arrays found before and r then
--   under p Ws           the sets Ws behind the columns p
--   Choosing D z W i more count    what trying all sets that go on with so many more columns from column i on asks
--   Listing D z τ        what trying all sets of at most τ columns asks
use Rattle.std.specs.Prelude.{◌≡◌, Bool, true, false, cond, ◌↔◌, List, [], ◌∷◌, ◌++◌, map, length, take, drop, replicate}
use Rattle.std.specs.Prelude.{ℕ, suc, ◌+◌, ◌-◌, ◌*◌, ◌^◌, ◌≤◌, ◌<◌, leb}
use Rattle.patch.specs.Parts.{lay}
use Rattle.poly.specs.Poly.{All}
use Rattle.codes.specs.Code.{Code, columns, total, largest, IsArray, CodeArray, flags_of}
use Rattle.codes.specs.Factors.{Description, multiplied}
use Rattle.codes.specs.Checks.{unchecked}
use Rattle.codes.proofs.Passed.{Counts}
use Rattle.codes.proofs.Proper.{Proper}
use Rattle.codes.proofs.Factors.{Factors}
use Rattle.factors.specs.Working.{Striking}
use Rattle.ending.specs.Working.{most_cells}
use Rattle.ending.proofs.Model.{filled}
use Rattle.fitting.specs.Fitting.{sets_of, FitsAt, InTurn}

pub record Arrays (r n : ℕ) (a b : List ℕ) : Type 0 where
  pub first : length a ≡ r * n
  pub second : length b ≡ r * n

pub record Checked (c : Code) : Type 0 where
  pub counts : Counts c
  pub checked : unchecked c ≡ false
  pub proper : Proper c

-- flags of columns
pub record Flags (n : ℕ) (W : List ℕ) : Type 0 where
  pub sized : length W ≡ n
  pub small : All (λ (f : ℕ). f < 2) W

pub record PlainFit (c : Code) (z W a : List ℕ) : Type 0 where
  pub code : CodeArray c a
  pub wrong : flags_of c z a ≡ W

pub record TryingPlain (c : Code) (z W own : List ℕ) : Type 0 where
  pub checked : Checked c
  pub received : IsArray c z
  pub set : Flags (columns c) W
  pub room : total W + largest c.lengths ≤ columns c
  pub long : length own ≡ most_cells

pub record FitsPlain (c : Code) (z W own : List ℕ) (r : Bool) : Type 0 where
  pub long : length own ≡ most_cells
  pub front : take (length z) own ≡ filled c z W
  pub told : (r ≡ true) ↔ PlainFit c z W (filled c z W)

unfoldable pub kept : ℕ → List ℕ → List ℕ → List ℕ
kept count a room = cond (leb (count * length a + length a) (length room)) (lay (count * length a) a room) room

unfoldable pub placed : ℕ → List (List ℕ) → List ℕ → List ℕ
placed count [] room = room
placed count (a ∷ l) room = placed (suc count) l (kept count a room)

-- at most so many arrays are found
abbrev pub most : ℕ
most = 2 ^ 24

pub record Keeping (d : ℕ) (fs : List ℕ) (r : ℕ) (a : List ℕ) (count : ℕ) : Type 0 where
  pub striking : Striking d fs r a
  pub cells : length a ≤ most_cells
  pub before : count ≤ most

pub record Quotient (D : Description) (z : List ℕ) : Type 0 where
  pub checked : Checked D.code
  pub factors : Factors D
  pub received : IsArray D.code z

pub record Trying (D : Description) (z W : List ℕ) (count : ℕ) : Type 0 where
  pub quotient : Quotient D z
  pub set : Flags (columns D.code) W
  pub room : total W + largest D.code.lengths ≤ columns D.code
  pub before : count < most

pub record Turned (D : Description) (z : List ℕ) (Ws : List (List ℕ)) (count : ℕ) (room : List ℕ) (r : ℕ) (room' : List ℕ) : Type 0 where
  pub arrays : List (List ℕ)
  pub turns : InTurn (FitsAt D (multiplied D z)) Ws arrays
  pub total : r ≡ count + length arrays
  pub left : room' ≡ placed count arrays room

abbrev pub under : List ℕ → List (List ℕ) → List (List ℕ)
under p Ws = map (◌++◌ p) Ws

pub record Choosing (D : Description) (z W : List ℕ) (i more count : ℕ) : Type 0 where
  pub quotient : Quotient D z
  pub few : columns D.code ≤ 16
  pub set : Flags 16 W
  pub next : i ≤ columns D.code
  pub rest : drop i W ≡ replicate (16 - i) 0
  pub room : total W + more + largest D.code.lengths ≤ columns D.code
  pub before : count + length (sets_of more (columns D.code - i)) ≤ most

pub record Listing (D : Description) (z : List ℕ) (τ : ℕ) : Type 0 where
  pub quotient : Quotient D z
  pub few : columns D.code ≤ 16
  pub limit : τ + largest D.code.lengths ≤ columns D.code
