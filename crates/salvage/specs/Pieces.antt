-- An old file of records divided into pieces: 02, 2026-12, 'Salvaging an old record file'. A file is a list of bytes.

--   Piece              a record kept, as it stood in the old file and as it is written, or bytes that are skipped; size, its bytes there
--   rewritten b a      the record at the front of b with the symbols a
--   piece_of b e a      the piece at the front of b, whose record ends as e with the array a
--   Ended b l          how the record at the front of b ends, and its array then; a mark that fails is refused
--   AtFront b p        the piece at the front of b is p
--   Salvages b ps      the pieces of the file b
--   clean ps           the clean file
--   kept_length ps, skipped_length ps    the lengths of the records kept and of the bytes skipped, added up
--   Unchanged p        p is a record kept as it stood
use Rattle.std.specs.Prelude.{◌≡◌, List, [], ◌∷◌, ◌++◌, ℕ, ◌+◌, length, take, drop}
use Rattle.patch.specs.Parts.{part}
use Rattle.refusal.specs.Keeping.{Keeps}
use Rattle.refusal.specs.Numbers.{named}
use Rattle.ending.specs.declared.Ending.{Ending}
use Rattle.ending.specs.declared.Ending.TheVariants.{Refused, Corrected, Nothing, Several, Hollow}
use Rattle.joint.specs.Promises.{Decodes, buffers, left}
use Rattle.record.specs.Records.{mark, rows_in, columns_in, size_in, stop_checks}
use Rattle.record.specs.Promises.{record_in, fresh}

pub data Piece : Type 0 where
  kept : (old new : List ℕ) → Piece
  skipped : (n : ℕ) → Piece

abbrev pub size : Piece → ℕ
size (kept old new) = length old
size (skipped n) = n

-- 'with the corrected symbols in it': the mark again, the bytes between mark and symbols as they are, the symbols
unfoldable pub rewritten : (b a : List ℕ) → List ℕ
rewritten b a = mark ++ part 2 (4 + rows_in b + columns_in b) b ++ a

-- 'every record that decodes as "corrected"'; 'A mark whose record is refused or cut short has failed, and the search resumes one
-- byte past the mark's first byte. Records ending "none", "several" or "hollow" are skipped whole.'
abbrev pub piece_of : List ℕ → Ending → List ℕ → Piece
piece_of b (Refused r) a = skipped 1
piece_of b (Corrected w) a = kept (take (size_in b) b) (rewritten b a)
piece_of b Nothing a = skipped (size_in b)
piece_of b (Several t) a = skipped (size_in b)
piece_of b (Hollow t) a = skipped (size_in b)

-- 'A mark whose record is refused or cut short': no mark, a record cut short, and r or n out of range are the record program's reasons
-- to stop (01); where none applies there is a whole record, which is decoded
abbrev pub Ended : List ℕ → Ending × List ℕ → Type 0
Ended b = Keeps (stop_checks b) (λ k. (Refused (named k), []))
    (λ l. (flags space : List ℕ) × Decodes (record_in fresh b) (left l.0 (buffers l.1 flags) space))

pub record AtFront (b : List ℕ) (p : Piece) : Type 0 where
  pub ending : Ending
  pub array : List ℕ
  pub ended : Ended b (ending, array)
  pub is : p ≡ piece_of b ending array

-- 'reads one, looks for the next 42 4D after any damage': piece after piece
pub data Salvages : List ℕ → List Piece → Type 0 where
  ends : {b : List ℕ} {all : List Piece} → b ≡ [] → all ≡ [] → Salvages b all
  goes : {b : List ℕ} {p : Piece} {ps all : List Piece} → (b ≡ [] → ⊥) → AtFront b p → Salvages (drop (size p) b) ps → all ≡ p ∷ ps
      → Salvages b all

-- 'writes a clean file of every record that decodes as "corrected"'
unfoldable pub clean : List Piece → List ℕ
clean [] = []
clean (kept old new ∷ ps) = new ++ clean ps
clean (skipped n ∷ ps) = clean ps

-- 'Kept record lengths and skipped lengths add up to the old file's length.'
unfoldable pub kept_length : List Piece → ℕ
kept_length [] = 0
kept_length (kept old new ∷ ps) = length old + kept_length ps
kept_length (skipped n ∷ ps) = kept_length ps

unfoldable pub skipped_length : List Piece → ℕ
skipped_length [] = 0
skipped_length (kept old new ∷ ps) = skipped_length ps
skipped_length (skipped n ∷ ps) = n + skipped_length ps

-- 'Running it on its own output changes nothing and skips nothing.'
abbrev pub Unchanged : Piece → Type 0
Unchanged (kept old new) = new ≡ old
Unchanged (skipped n) = ⊥
