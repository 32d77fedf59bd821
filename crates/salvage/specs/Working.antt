-- What the functions inside a salvage ask and compute. No promise cites these.
--
--   Advances b r left         what is found has a byte at least, is at hand, and stands in the buffers
--   Ready b lent              b begins with a whole record, and the buffers have their room
--   Keepable b array lent     and its symbols stand at the front of an array of 384
--   kept_with b array          the piece of a record that is kept with these
--   Told at b p lent r left   the piece p at the front of b is told
--   Decided w at b lent r left    the record at the front of b is decoded in the space w, and its piece told
--   Symbols n old new         two arrays of as many symbols, at most 384, in n columns, at least 1
--   Changing n i out at       symbol i of these, and room for its change from `at` on
--   head at word n            the first three fields of a line
use Rattle.std.specs.Prelude.{◌≡◌, List, ◌++◌, ℕ, ◌+◌, ◌*◌, ◌≤◌, ◌<◌, length, take}
use Rattle.record.specs.Counts.{Counts}
use Rattle.ending.specs.declared.Ending.{Ending}
use Rattle.joint.specs.Promises.{Decodes, buffers, left}
use Rattle.record.specs.Records.{rows_in, columns_in, size_in, stop_of}
use Rattle.record.specs.Lines.{decimal}
use Rattle.record.specs.Promises.{record_in}
use Rattle.salvage.specs.Pieces.{Piece, kept, piece_of, rewritten}
use Rattle.salvage.specs.Promises.{Rooms, told, meaning}
use Rattle.salvage.specs.declared.Found.{Found}
use Rattle.salvage.specs.declared.Found.TheVariants.{End, Kept, Skipped}

abbrev pub Advances : List ℕ → Found → Rooms → Type 0
Advances b End left = length b ≡ 0
Advances b (Kept n m) left = (1 ≤ n) × (n ≤ length b) × Counts n left.for_record × Counts m left.for_line
Advances b (Skipped n) left = (1 ≤ n) × (n ≤ length b)

pub record Ready (b : List ℕ) (lent : Rooms) : Type 0 where
  pub whole : stop_of b ≡ 0
  pub record_room : 490 ≤ length lent.for_record
  pub line_room : 6191 ≤ length lent.for_line

pub record Keepable (b array : List ℕ) (lent : Rooms) : Type 0 where
  pub of : Ready b lent
  pub symbols : length array ≡ 384

abbrev pub kept_with : (b array : List ℕ) → Piece
kept_with b array = kept (take (size_in b) b) (rewritten b (take (rows_in b * columns_in b) array))

pub record Told (at : ℕ) (b : List ℕ) (p : Piece) (lent : Rooms) (r : Found) (left : Rooms) : Type 0 where
  pub is : told at lent p ≡ (meaning r, left)
  pub advances : Advances b r left

pub record Decided (w : List ℕ) (at : ℕ) (b : List ℕ) (lent : Rooms) (r : Found) (after : Rooms) : Type 0 where
  pub ending : Ending
  pub array : List ℕ
  pub flags : List ℕ
  pub space : List ℕ
  pub decodes : Decodes (record_in w b) (left ending (buffers array flags) space)
  pub piece : Told at b (piece_of b ending array) lent r after

pub record Symbols (n : ℕ) (old new : List ℕ) : Type 0 where
  pub columns : 1 ≤ n
  pub same : length new ≡ length old
  pub few : length old ≤ 384

pub record Changing (n i : ℕ) (out : List ℕ) (at : ℕ) : Type 0 where
  pub columns : 1 ≤ n
  pub few : i < 384
  pub room : at + 16 ≤ length out

abbrev pub head : (at : ℕ) (word : List ℕ) (n : ℕ) → List ℕ
head at word n = decimal at ++ word ++ decimal n
