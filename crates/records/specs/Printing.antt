-- What the program writes for the bytes that its reader has left, where those are known.
--
--   Goes number b left line more    of the bytes b the record of that number takes all but `left`, and its line is written; whether
--                                   reading goes on behind it
--   Answered number had has was now more    so with what a reader has left and a writer holds, before and after
--   Reached number b left lines     the records before that number take all of b but `left`, and lines are written
--   Printed had was now             the lines of all the bytes that the reader had are written
use Rattle.std.specs.Prelude.{◌≡◌, Bool, true, false, List, ◌++◌, ℕ, suc, ◌+◌, ◌^◌, ◌<◌, ◌≤◌, length, None, Some, ⊤}
use Rattle.std.specs.Io.KnownBytes.{Appends}
use Rattle.std.specs.declared.option.Option.{Option}
use Rattle.record.specs.Promises.{Prints}

abbrev pub Goes : (number : ℕ) (b left line : List ℕ) → Bool → Type 0
Goes number b left line true =
    (length left < length b) × ((rest : List ℕ) → Prints (suc number) left rest → Prints number b (line ++ rest))
Goes number b left line false = Prints number b line

abbrev pub Answered : (number : ℕ) (had has was now : Option (List ℕ)) → Bool → Type 0
Answered number None has was now more = ⊤
Answered number (Some b) has was now more =
    (left line : List ℕ) × (has ≡ Some left) × Appends was now line × Goes number b left line more

abbrev pub Reached : (number : ℕ) (b left lines : List ℕ) → Type 0
Reached number b left lines =
    (number + length left ≤ suc (length b)) × ((rest : List ℕ) → Prints number left rest → Prints 1 b (lines ++ rest))

-- the same with a reader and a writer
abbrev pub At : (number : ℕ) (had has was now : Option (List ℕ)) → Type 0
At number None has was now = ⊤
At number (Some b) has was now = (left lines : List ℕ) × (has ≡ Some left) × Appends was now lines × Reached number b left lines

-- records have numbers below 2 ^ 64
abbrev pub Printed : (had was now : Option (List ℕ)) → Type 0
Printed None was now = ⊤
Printed (Some b) was now = length b < 2 ^ 63 → (lines : List ℕ) × Appends was now lines × Prints 1 b lines
