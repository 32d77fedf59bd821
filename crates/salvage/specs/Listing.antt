-- The second listing: 02, 2026-12. One line a record kept and one a run of skipped bytes, in their order.

--   runs_from n ps      the pieces ps behind n skipped bytes, with neighbouring skipped bytes in one; run n, these n bytes alone
--   change n i a b     symbol i of n columns, changed from a to b; changes n i old new, all such of two arrays from symbol i on
--   line_of at p        the line of the piece at the offset; lines_from at ps, those of pieces one after another
--   WritesFrom at n b c l    the clean file c and the listing l of what is left, b, where n bytes before it, from the offset on, are
--                      skipped but not yet listed; Writes b c l, those of the whole file b
use Rattle.std.specs.Prelude.{◌≡◌, cond, List, [], ◌∷◌, ◌++◌, ℕ, zero, suc, ◌+◌, ◌/◌, ◌%◌, eqb, length}
use Rattle.record.specs.Records.{columns_in, symbols_in}
use Rattle.record.specs.Lines.{ascii, decimal}
use Rattle.salvage.specs.Pieces.{Piece, kept, skipped, size, Salvages, clean}

-- 'Neighbouring skipped bytes form one run.'
abbrev pub run : ℕ → List Piece
run zero = []
run (suc n) = skipped (suc n) ∷ []

unfoldable pub runs_from : ℕ → List Piece → List Piece
runs_from n [] = run n
runs_from n (skipped m ∷ ps) = runs_from (n + m) ps
runs_from n (kept old new ∷ ps) = run n ++ kept old new ∷ runs_from 0 ps

-- 'each changed row and column with old and new symbol'; symbols stand by rows
abbrev pub change : (n i a b : ℕ) → List ℕ
change n i a b =
    (ascii " " ++ decimal (i / n)) ++ (ascii ":" ++ decimal (i % n)) ++ (ascii ":" ++ decimal a) ++ (ascii ":" ++ decimal b)

unfoldable pub changes : (n i : ℕ) (old new : List ℕ) → List ℕ
changes n i [] new = []
changes n i (a ∷ old) [] = []
changes n i (a ∷ old) (b ∷ new) = cond (eqb a b) [] (change n i a b) ++ changes n (suc i) old new

-- 'for each record kept, its byte offset in the old file and each changed row and column with old and new symbol; for each run of
-- skipped bytes, its offset and length'; a record's length too, so that the lengths can be added up
unfoldable pub line_of : ℕ → Piece → List ℕ
line_of at (kept old new) =
    decimal at ++ ascii " kept " ++ decimal (length old) ++ changes (columns_in old) 0 (symbols_in old) (symbols_in new) ++ ascii "\n"
line_of at (skipped n) = decimal at ++ ascii " skipped " ++ decimal n ++ ascii "\n"

unfoldable pub lines_from : ℕ → List Piece → List ℕ
lines_from at [] = []
lines_from at (p ∷ ps) = line_of at p ++ lines_from (at + size p) ps

-- The whole program: what it writes for the old file b.
pub record WritesFrom (at n : ℕ) (b c l : List ℕ) : Type 0 where
  pub pieces : List Piece
  pub salvages : Salvages b pieces
  pub file : c ≡ clean pieces
  pub lines : l ≡ lines_from at (runs_from n pieces)

abbrev pub Writes : (b c l : List ℕ) → Type 0
Writes b c l = WritesFrom 0 0 b c l
