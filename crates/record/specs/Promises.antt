-- What the answer to a record promises: 01, 'Records on standard input'.

--   record_in w b              what the decoding of the record at the front of b is given
--   LineOf number g line      line is the line of the record whose decoding is given g
--   meaning r                 the number and values of a reply
--   laid number line lent     the reply of that number with a line, and the buffer with the line at its front
--   Answers number b lent reply left    the answer to what is left of the input, in the buffer lent
--   Prints number b out       the lines of an input whose next record has that number
use Rattle.std.specs.Prelude.{◌≡◌, List, [], ◌∷◌, ◌++◌, ℕ, suc, ◌*◌, length, drop, replicate}
use Rattle.patch.specs.Parts.{lay}
use Rattle.refusal.specs.Keeping.{Keeps}
use Rattle.refusal.specs.Meaning.{Meaning}
use Rattle.refusal.specs.Numbers.{named}
use Rattle.codes.specs.Checks.{space_bytes}
use Rattle.ending.specs.declared.Ending.{Ending}
use Rattle.ending.specs.declared.Ending.TheVariants.{Refused}
use Rattle.joint.specs.Promises.{Given, Decodes, buffers, given, left}
use Rattle.record.specs.Records.{rows_in, columns_in, described_in, limit_in, symbols_in, size_in, stop_checks, stop_of}
use Rattle.record.specs.Lines.{line_of}
use Rattle.record.specs.declared.Reply.{Reply}
use Rattle.record.specs.declared.Reply.TheVariants.{End, Last, Next}

-- what the decoding of the record at the front of b is given, in the working space w: its own parts, and buffers of zeros
abbrev pub record_in : (w b : List ℕ) → Given
record_in w b =
    given (described_in b) (limit_in b) (symbols_in b) (buffers (replicate (rows_in b * columns_in b) 0) (replicate (columns_in b) 0)) w

-- 'One line a record': how its decoding ended, and the flags of the wrong columns
pub record LineOf (number : ℕ) (g : Given) (line : List ℕ) : Type 0 where
  pub ending : Ending
  pub array : List ℕ
  pub flags : List ℕ
  pub space : List ℕ
  pub decodes : Decodes g (left ending (buffers array flags) space)
  pub written : line ≡ line_of number ending flags

-- the working space of a record's decoding
unfoldable pub fresh : List ℕ
fresh = replicate space_bytes 0

-- 'A refusal is `refused`, its number and `-`.'
abbrev pub refused_line : ℕ → ℕ → List ℕ
refused_line number k = line_of number (Refused (named k)) []

-- a reply has no number in 01: 0 nothing is left; 1 a line of so many bytes, after which reading stops; 2 one after which it goes on
abbrev pub meaning : Reply → Meaning
meaning End = (0, [])
meaning (Last n) = (1, n ∷ [])
meaning (Next n) = (2, n ∷ [])

-- the reply of that number with a line, which is laid at the front of the buffer lent
abbrev pub laid : ℕ → (line lent : List ℕ) → Meaning × List ℕ
laid number line lent = ((number, length line ∷ []), lay 0 line lent)

-- 'No bytes left: the program ends quietly.' Else the first reason to stop gives a refusal's line, the last; where none applies
-- there is a whole record, and its line.
abbrev pub Answers : (number : ℕ) (b lent : List ℕ) → Reply → (left : List ℕ) → Type 0
Answers number [] lent r left = (meaning r ≡ meaning End) × (left ≡ lent)
Answers number (x ∷ b) lent r left =
    Keeps (stop_checks (x ∷ b)) (λ k. laid 1 (refused_line number k) lent)
    (λ l. (line : List ℕ) × LineOf number (record_in fresh (x ∷ b)) line × (l ≡ laid 2 line lent)) (meaning r, left)

-- The whole program: what it writes for the bytes b, 'its number from 1' for the first record.
pub data Prints : ℕ → List ℕ → List ℕ → Type 0 where
  -- 'No bytes left: the program ends quietly.'
  ends : {number : ℕ} {b out : List ℕ} → b ≡ [] → out ≡ [] → Prints number b out
  -- 'Reading stops after 12, after 13, and after a record with r or n out of range.'
  stops : {number k : ℕ} {b out : List ℕ} → (b ≡ [] → ⊥) → stop_of b ≡ suc k → out ≡ refused_line number (suc k) → Prints number b out
  -- 'One line a record'
  goes : {number : ℕ} {b out line rest : List ℕ} → (b ≡ [] → ⊥) → stop_of b ≡ 0 → LineOf number (record_in fresh b) line
      → Prints (suc number) (drop (size_in b) b) rest → out ≡ line ++ rest → Prints number b out
