-- What the functions inside ask, and what they leave. No promise cites these.
--
--   Made c s                a code whose checks passed, and an array s of our own, where rows are made
--   Writing c m s           so it is, and m is a message
--   Reading c a s           so it is, and a is an array; ReadingRows c ws a s, and ws are the inverses of the longest row's rounds
--   RowGiven d xs k ws ys   a row ys of symbols, one for each of the points xs, and its length k; ws are the inverses of k rounds
--   ReducingRow, ReadingRow so it is, and s has room: of symbols, for the row and 15 more; for the polynomial from place at on
--   RowReduced d k xs ys s r    s begins with the row ys after k rounds; r tells whether it is zero behind its first k
--   RowRead d k xs ys at s s' r so r tells, and s' is s with the polynomial of the first k from place at on
--   ArrayRead c a s s' r    r tells whether a is a code array, and where it is one s' is s with its message at the front
--   MessageWritten c a s s' r   so r tells, and s' is the message, or what it was
use Rattle.std.specs.Prelude.{◌≡◌, Bool, true, false, ◌↔◌, List, ℕ, ◌+◌, ◌≤◌, length, take, drop}
use Rattle.patch.specs.Parts.{lay}
use Rattle.field.specs.Symbols.{IsSymbol}
use Rattle.field.specs.Arithmetic.{gf}
use Rattle.poly.specs.Poly.{All, Zero}
use Rattle.poly.proofs.Forms.{reduce, from_newton}
use Rattle.rows.specs.Working.Rows.{Points, Inverses}
use Rattle.codes.specs.Code.{Code, CodeArray, IsArray, IsMessage, encoded, largest}
use Rattle.codes.proofs.Proper.{Proper}
use Rattle.codes.proofs.Passed.{Counts}

pub record Made (c : Code) (s : List ℕ) : Type 0 where
  pub counts : Counts c
  pub proper : Proper c
  pub room : length s ≡ 384

pub record Writing (c : Code) (m s : List ℕ) : Type 0 where
  pub made : Made c s
  pub message : IsMessage c m

pub record Reading (c : Code) (a s : List ℕ) : Type 0 where
  pub made : Made c s
  pub array : IsArray c a

pub record ReadingRows (c : Code) (ws a s : List ℕ) : Type 0 where
  pub reading : Reading c a s
  pub inverses : Inverses c.degree c.points (largest c.lengths) ws

pub record RowGiven (d : ℕ) (xs : List ℕ) (k : ℕ) (ws ys : List ℕ) : Type 0 where
  pub points : Points d xs
  pub most_points : length xs ≤ 96
  pub length_in : k ≤ length xs
  pub count : length ys ≡ length xs
  pub symbols : All (IsSymbol d) ys
  pub inverses : Inverses d xs k ws

pub record ReducingRow (d : ℕ) (xs : List ℕ) (k : ℕ) (ws ys s : List ℕ) : Type 0 where
  pub row : RowGiven d xs k ws ys
  pub room : length xs + 15 ≤ length s
  pub symbols : All (IsSymbol d) s

pub record ReadingRow (d : ℕ) (xs : List ℕ) (k : ℕ) (ws ys s : List ℕ) (at : ℕ) : Type 0 where
  pub row : RowGiven d xs k ws ys
  pub room : at + k ≤ length s

pub record RowReduced (d k : ℕ) (xs ys s : List ℕ) (r : Bool) : Type 0 where
  pub front : take (length xs) s ≡ reduce (gf d) k xs ys
  pub zeros : (r ≡ true) ↔ Zero (gf d) (drop k (reduce (gf d) k xs ys))

pub record RowRead (d k : ℕ) (xs ys : List ℕ) (at : ℕ) (s s' : List ℕ) (r : Bool) : Type 0 where
  pub zeros : (r ≡ true) ↔ Zero (gf d) (drop k (reduce (gf d) k xs ys))
  pub polynomial : s' ≡ lay at (from_newton (gf d) k xs (reduce (gf d) k xs ys)) s

pub record ArrayRead (c : Code) (a s s' : List ℕ) (r : Bool) : Type 0 where
  pub found : r ≡ true → (m : List ℕ) × IsMessage c m × (encoded c m ≡ a) × (s' ≡ lay 0 m s)
  pub none : r ≡ false → CodeArray c a → ⊥

pub record MessageWritten (c : Code) (a s s' : List ℕ) (r : Bool) : Type 0 where
  pub found : r ≡ true → IsMessage c s' × (encoded c s' ≡ a)
  pub none : r ≡ false → (CodeArray c a → ⊥) × (s' ≡ s)
