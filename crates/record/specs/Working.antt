-- What the functions inside an answer ask and compute. No promise cites these.
--
--   Headed b                       b has the five bytes of a head, and r and n are in range
--   Puts lent at v left r          v is laid in a buffer from `at` on, and r is the place behind it
--   PutsWithin m lent at v left r  so it is, and r is at most m places further on
--   PutsField lent at v n left r   the text v and the number n, of at most three digits, are laid so
--   Room m fs out at               at most 96 flags, and room for m bytes from `at` on
--   followed s cs                  columns behind the byte s, joined by commas
--   fields_of e fs                  the fields of a line behind its number, each behind a space
--   Decodable b array flags        b begins with a whole record, and the buffers for its array and flags are of zeros
--   Decoded w b e array flags      decoded in the space w it ends as e, with array and flags at the buffers' front
--   Lined b out                    b begins with a whole record, and there is room for its line
--   Written number g lent left r   the line of the record whose decoding is given g, at the buffer's front, and its length r
use Rattle.std.specs.Prelude.{◌≡◌, false, List, [], ◌∷◌, ◌++◌, ℕ, ◌+◌, ◌*◌, ◌≤◌, length, take, replicate}
use Rattle.patch.specs.Parts.{lay}
use Rattle.ending.specs.declared.Ending.{Ending}
use Rattle.joint.specs.Promises.{Given, Decodes, buffers, left}
use Rattle.record.specs.Records.{rows_in, columns_in, out_of_range, stop_of}
use Rattle.record.specs.Lines.{ascii, decimal, word, detail, wrong_columns, joined}
use Rattle.record.specs.Promises.{LineOf, record_in}

pub record Headed (b : List ℕ) : Type 0 where
  pub five : 5 ≤ length b
  pub inside : out_of_range b ≡ false

pub record Puts (lent : List ℕ) (at : ℕ) (v left : List ℕ) (r : ℕ) : Type 0 where
  pub laid : left ≡ lay at v lent
  pub behind : r ≡ at + length v

pub record PutsWithin (m : ℕ) (lent : List ℕ) (at : ℕ) (v left : List ℕ) (r : ℕ) : Type 0 where
  pub puts : Puts lent at v left r
  pub most : r ≤ at + m

abbrev pub PutsField : (lent : List ℕ) (at : ℕ) (v : List ℕ) (n : ℕ) (left : List ℕ) (r : ℕ) → Type 0
PutsField lent at v n left r = PutsWithin (length v + 3) lent at (v ++ decimal n) left r

pub record Room (m : ℕ) (fs out : List ℕ) (at : ℕ) : Type 0 where
  pub flags : length fs ≤ 96
  pub room : at + m ≤ length out

unfoldable pub followed : ℕ → List ℕ → List ℕ
followed s [] = []
followed s (c ∷ cs) = (s ∷ decimal c) ++ followed 44 cs

unfoldable pub fields_of : Ending → List ℕ → List ℕ
fields_of e fs = ascii " " ++ word e ++ ascii " " ++ detail e ++ ascii " " ++ joined (wrong_columns e fs)

pub record Decodable (b array flags : List ℕ) : Type 0 where
  pub whole : stop_of b ≡ 0
  pub array_zero : array ≡ replicate 384 0
  pub flags_zero : flags ≡ replicate 96 0

pub record Decoded (w b : List ℕ) (e : Ending) (array flags : List ℕ) : Type 0 where
  pub space : List ℕ
  pub decodes : Decodes (record_in w b) (left e (buffers (take (rows_in b * columns_in b) array) (take (columns_in b) flags)) space)

pub record Lined (b out : List ℕ) : Type 0 where
  pub whole : stop_of b ≡ 0
  pub room : 323 ≤ length out

pub record Written (number : ℕ) (g : Given) (lent left : List ℕ) (r : ℕ) : Type 0 where
  pub line : List ℕ
  pub of_record : LineOf number g line
  pub puts : Puts lent 0 line left r
  pub most : r ≤ 323
