-- The reasons for which a call is refused, and their numbers: 01, 'Refusal numbers, in order of checking', and the numbers that 02 adds.

--   table        the reasons in the order of their numbers, from 1 on; named k, the reason with the number k, from 1 to 26
--   number r     the number of the reason r
--   refused r    the number by which the checks that answered r refuse, 0 where they let the call pass
use Rattle.std.specs.Prelude.{ℕ, ◌-◌, List, [], ◌∷◌, get_or, Result, Ok, Err}
use Rattle.refusal.specs.declared.Refusal.{Refusal}
use Rattle.refusal.specs.declared.Refusal.TheVariants.{Degree, Rows, Columns, Lengths, Buffers, Points, Symbols, Limit, NoCodeArray}
use Rattle.refusal.specs.declared.Refusal.TheVariants.{RingSize, RingOrder, NoRecordMark, CutShort, DeskColumn, Marks, LostColumns}
use Rattle.refusal.specs.declared.Refusal.TheVariants.{TooFewLeft, Unchecked, PitLimit, Powers, ListColumns, Room, Factors, ReportFull}
use Rattle.refusal.specs.declared.Refusal.TheVariants.{ZeroDivisor, BadEntry}

abbrev pub table : List Refusal
table = Degree ∷ Rows ∷ Columns ∷ Lengths ∷ Buffers ∷ Points ∷ Symbols ∷ Limit ∷ NoCodeArray ∷ RingSize ∷ RingOrder ∷ NoRecordMark
    ∷ CutShort ∷ DeskColumn ∷ Marks ∷ LostColumns ∷ TooFewLeft ∷ Unchecked ∷ PitLimit ∷ Powers ∷ ListColumns ∷ Room ∷ Factors
    ∷ ReportFull ∷ ZeroDivisor ∷ BadEntry ∷ []

abbrev pub named : ℕ → Refusal
named k = get_or table (k - 1) BadEntry

abbrev pub number : Refusal → ℕ
number Degree = 1
number Rows = 2
number Columns = 3
number Lengths = 4
number Buffers = 5
number Points = 6
number Symbols = 7
number Limit = 8
number NoCodeArray = 9
number RingSize = 10
number RingOrder = 11
number NoRecordMark = 12
number CutShort = 13
number DeskColumn = 14
number Marks = 15
number LostColumns = 16
number TooFewLeft = 17
number Unchecked = 18
number PitLimit = 19
number Powers = 20
number ListColumns = 21
number Room = 22
number Factors = 23
number ReportFull = 24
number ZeroDivisor = 25
number BadEntry = 26

abbrev pub refused : {A : Type 0} → Result A Refusal → ℕ
refused (Ok _) = 0
refused (Err r) = number r
