-- The marked examples: 01, 'Marked examples (P: to be proved)'.

--   Example    what an example says, of one call
--   Holds      that the call's promise is kept so, with factors of one; Lent, buffers are lent at their right lengths
--   calls      P1 to P10, in order; marked, these and the three records as bytes and lines
use Rattle.std.specs.Prelude.{◌≡◌, List, [], ◌∷◌, ◌++◌, ℕ, Ok, ◌*◌, ◌≤◌, length}
use Rattle.refusal.specs.Numbers.{named}
use Rattle.field.specs.Symbols.{times}
use Rattle.field.specs.Values.{checks, Gives}
use Rattle.codes.specs.Code.{Code, rows, columns}
use Rattle.codes.specs.Factors.{plain}
use Rattle.codes.specs.Checks.{space_bytes}
use Rattle.mark.specs.Promises.{Encodes, done}
use Rattle.ending.specs.Endings.{Buffers}
use Rattle.ending.specs.declared.Ending.{Ending}
use Rattle.ending.specs.declared.Ending.TheVariants.{Refused, Corrected, Nothing, Several, Hollow}
use Rattle.joint.specs.Promises.{given, left, cleared, Decodes}
use Rattle.hermitian.specs.Ring.{ring_points}
use Rattle.ring.specs.Promises as Ring
use Rattle.record.specs.Lines.{ascii}
use Rattle.record.specs.Promises.{Prints}

pub data Example : Type 0 where
  -- the product of a and b
  product : (degree a b answer : ℕ) → Example
  -- the array of a message
  encoding : Code → (message array : List ℕ) → Example
  -- a decoding of a received array up to τ: its ending with the detail, and what it leaves in the array and flags lent
  decoding : Code → (τ : ℕ) (received : List ℕ) → Ending → (Buffers → Buffers) → Example
  -- a decoding that is refused, and its number
  refusal : Code → (τ : ℕ) (received : List ℕ) → ℕ → Example
  -- the points of a ring
  points : (q : ℕ) → List (ℕ × ℕ) → Example
  -- the word of H(m) of a message
  word : (q m : ℕ) (message word : List ℕ) → Example
  -- what the program prints for the bytes of an input
  records : (bytes lines : List ℕ) → Example

-- array, flags and working space are lent at their right lengths
pub record Lent (c : Code) (lent : Buffers) (w : List ℕ) : Type 0 where
  pub array : length lent.array ≡ rows c * columns c
  pub flags : length lent.flags ≡ columns c
  pub space : space_bytes ≤ length w

unfoldable pub Holds : Example → Type 0
Holds (product degree a b answer) = Gives (checks degree a b) (times degree a b) (Ok answer)
Holds (encoding c m a) = (lent : List ℕ) → length lent ≡ rows c * columns c → Encodes (plain c) m lent (done a)
Holds (decoding c τ y e written) = (lent : Buffers) (w : List ℕ) → Lent c lent w
    → Decodes (given (plain c) τ y lent w) (left e (written lent) (cleared w))
Holds (refusal c τ y k) = (lent : Buffers) (w : List ℕ) → Lent c lent w
    → Decodes (given (plain c) τ y lent w) (left (Refused (named k)) lent w)
Holds (points q ps) = ring_points q ≡ ps
Holds (word q m f w) = (lent : List ℕ) → length lent ≡ q * q * q → Ring.Encodes q m f lent (done w)
Holds (records b lines) = Prints 1 b lines

-- 'Decimal; GF(16) unless said.'
abbrev pub gf16 : (points lengths : List ℕ) → Code
gf16 xs ks = record { degree = 4; points = xs; lengths = ks }

abbrev pub written : (array flags : List ℕ) → Buffers → Buffers
written a f lent = record { array = a; flags = f }

abbrev pub untouched : Buffers → Buffers
untouched lent = lent

-- 'Given on standard input (hex)'
abbrev pub first : List ℕ
first =
    0x42 ∷ 0x4D ∷ 0x04 ∷ 0x02 ∷ 0x04 ∷ 0x01 ∷ 0x01 ∷ 0x02 ∷ 0x01 ∷ 0x02 ∷ 0x04 ∷ 0x08 ∷ 0x05 ∷ 0x05 ∷ 0x04 ∷ 0x07 ∷ 0x09 ∷ 0x09 ∷ 0x0A
    ∷ 0x08 ∷ []

abbrev pub second : List ℕ
second = 0x42 ∷ 0x4D ∷ 0x04 ∷ 0x01 ∷ 0x04 ∷ 0x01 ∷ 0x01 ∷ 0x01 ∷ 0x02 ∷ 0x04 ∷ 0x08 ∷ 0x00 ∷ 0x00 ∷ 0x01 ∷ 0x01 ∷ []

abbrev pub third : List ℕ
third = 0x42 ∷ 0x4D ∷ 0x04 ∷ 0x01 ∷ 0x03 ∷ 0x01 ∷ 0x01 ∷ 0x01 ∷ 0x02 ∷ 0x04 ∷ 0x00 ∷ 0x01 ∷ 0x02 ∷ []

unfoldable pub calls : List Example
calls =
    -- 'P1: 2·3=6, 5·6=13, 9·10=5, 2·9=1.'
    product 4 2 3 6 ∷ product 4 5 6 13 ∷ product 4 9 10 5 ∷ product 4 2 9 1
    -- 02, 2026-04: 'In P2, 128·2 becomes 45.' It is of GF(256).
    ∷ product 8 128 2 45
    -- 'P3: points 1 2 4 8 3, k=3, message 2 3 1 encodes to 0 0 13 5 2.'
    ∷ encoding (gf16 (1 ∷ 2 ∷ 4 ∷ 8 ∷ 3 ∷ []) (3 ∷ [])) (2 ∷ 3 ∷ 1 ∷ []) (0 ∷ 0 ∷ 13 ∷ 5 ∷ 2 ∷ [])
    -- 'P4 to P6: the three records above; the first answers rows 5 5 5 5 and 9 9 9 9.'
    ∷ decoding (gf16 (1 ∷ 2 ∷ 4 ∷ 8 ∷ []) (1 ∷ 1 ∷ [])) 2 (5 ∷ 5 ∷ 4 ∷ 7 ∷ 9 ∷ 9 ∷ 10 ∷ 8 ∷ []) (Corrected 2)
    (written (5 ∷ 5 ∷ 5 ∷ 5 ∷ 9 ∷ 9 ∷ 9 ∷ 9 ∷ []) (0 ∷ 0 ∷ 1 ∷ 1 ∷ []))
    ∷ decoding (gf16 (1 ∷ 2 ∷ 4 ∷ 8 ∷ []) (1 ∷ [])) 1 (0 ∷ 0 ∷ 1 ∷ 1 ∷ []) Nothing untouched
    ∷ decoding (gf16 (1 ∷ 2 ∷ 4 ∷ []) (1 ∷ [])) 1 (0 ∷ 1 ∷ 2 ∷ []) (Hollow 1) untouched
    -- 'P7: points 1 2 4 8, k=1 1, rows 0 0 1 1 twice, τ=2: several, 2. τ=3: refused 8.'
    ∷ decoding (gf16 (1 ∷ 2 ∷ 4 ∷ 8 ∷ []) (1 ∷ 1 ∷ [])) 2 (0 ∷ 0 ∷ 1 ∷ 1 ∷ 0 ∷ 0 ∷ 1 ∷ 1 ∷ []) (Several 2) untouched
    ∷ refusal (gf16 (1 ∷ 2 ∷ 4 ∷ 8 ∷ []) (1 ∷ 1 ∷ [])) 3 (0 ∷ 0 ∷ 1 ∷ 1 ∷ 0 ∷ 0 ∷ 1 ∷ 1 ∷ []) 8
    -- 'P8: points 1 2 4 8 3, k=1 3, rows 6 6 6 6 6 and 0 0 13 5 0, τ=2: corrected, column 4 wrong, second row 0 0 13 5 2.'
    ∷ decoding (gf16 (1 ∷ 2 ∷ 4 ∷ 8 ∷ 3 ∷ []) (1 ∷ 3 ∷ [])) 2 (6 ∷ 6 ∷ 6 ∷ 6 ∷ 6 ∷ 0 ∷ 0 ∷ 13 ∷ 5 ∷ 0 ∷ []) (Corrected 1)
    (written (6 ∷ 6 ∷ 6 ∷ 6 ∷ 6 ∷ 0 ∷ 0 ∷ 13 ∷ 5 ∷ 2 ∷ []) (0 ∷ 0 ∷ 0 ∷ 0 ∷ 1 ∷ []))
    -- 'P9: q=2: the ring's points are 00 01 12 13 22 23 32 33.'
    ∷ points 2 ((0, 0) ∷ (0, 1) ∷ (1, 2) ∷ (1, 3) ∷ (2, 2) ∷ (2, 3) ∷ (3, 2) ∷ (3, 3) ∷ [])
    -- 'P10: H(3), f=y: 0 1 2 3 2 3 2 3.' k is 2 1: f_0 = 0 of two coefficients, and f_1 = 1
    ∷ word 2 3 (0 ∷ 0 ∷ 1 ∷ []) (0 ∷ 1 ∷ 2 ∷ 3 ∷ 2 ∷ 3 ∷ 2 ∷ 3 ∷ [])
    ∷ []

-- 'P4 to P6: the three records above': from their bytes to 'the record program prints exactly, with no header'
unfoldable pub marked : List Example
marked = calls ++ records (first ++ second ++ third) (ascii "1 corrected 2 2,3\n2 none - -\n3 hollow 1 -\n") ∷ []
