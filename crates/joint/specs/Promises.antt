-- What a decoding promises: 01, 'Locators and endings'.

--   Given             what a decoding is given: code description, trial limit, received array, and the buffers and space lent
--   Left              what it leaves: its ending, the buffers and the space; buffers, given, left, these of their parts
--   cleared w         a working space after a call that is not refused
--   Decoding cs lent space E l    what every decoding promises, with its checks and its table of endings
--   on_corrected f e b the buffers b, on 'corrected' with f of their array
--   Struck D y E e left    the quotient of y ends as e by the table E, and its answer is multiplied back to left
--   Decodes g l       the decoding of g leaves l; checks_of g, its checks
use Rattle.std.specs.Prelude.{◌≡◌, cond, List, ◌++◌, ℕ, drop, replicate}
use Rattle.refusal.specs.Refusal.{Check}
use Rattle.refusal.specs.Keeping.{Keeps}
use Rattle.refusal.specs.Numbers.{named}
use Rattle.codes.specs.Factors.{Description, divided, multiplied}
use Rattle.codes.specs.Checks.{space_bytes, decode_checks}
use Rattle.ending.specs.Endings.{Buffers, Ends, is_corrected}
use Rattle.ending.specs.declared.Ending.{Ending}
use Rattle.ending.specs.declared.Ending.TheVariants.{Refused}

pub record Given : Type 0 where
  pub description : Description
  pub limit : ℕ
  pub received : List ℕ
  pub lent : Buffers
  pub space : List ℕ

pub record Left : Type 0 where
  pub ending : Ending
  pub buffers : Buffers
  pub space : List ℕ

abbrev pub buffers : (array flags : List ℕ) → Buffers
buffers a f = record { array = a; flags = f }

abbrev pub given : (D : Description) (limit : ℕ) (received : List ℕ) (lent : Buffers) (space : List ℕ) → Given
given D τ y b w = record { description = D; limit = τ; received = y; lent = b; space = w }

abbrev pub left : (ending : Ending) (buffers : Buffers) (space : List ℕ) → Left
left e b w = record { ending = e; buffers = b; space = w }

-- 'its first 49,152 bytes are zero after each call that is not refused, bytes beyond that are never touched'
unfoldable pub cleared : List ℕ → List ℕ
cleared w = replicate space_bytes 0 ++ drop space_bytes w

-- What every decoding promises: cs are its checks, and E its table of endings. 'a refusal touches none'
abbrev pub Decoding : (cs : List Check) (lent : Buffers) (space : List ℕ) (E : Ending → Buffers → Type 0) → Left → Type 0
Decoding cs lent space E =
    Keeps cs (λ k. left (Refused (named k)) lent space) (λ l. E l.ending l.buffers × (l.space ≡ cleared space))

abbrev pub on_corrected : (List ℕ → List ℕ) → Ending → Buffers → Buffers
on_corrected f e b = buffers (cond (is_corrected e) (f b.array) b.array) b.flags

-- 02, 2026-11: 'In the locators … y is the symbol divided by its column's factor, and the answer's rows are the quotients' values
-- times the factors': E is the table of the quotient's endings
pub record Struck (D : Description) (y : List ℕ) (E : List ℕ → Ending → Buffers → Type 0) (e : Ending) (left : Buffers) : Type 0 where
  pub answer : Buffers
  pub ends : E (divided D y) e answer
  pub back : left ≡ on_corrected (multiplied D) e answer

abbrev pub checks_of : Given → List Check
checks_of g = decode_checks g.description g.limit g.received g.lent.array g.lent.flags g.space

abbrev pub Decodes : Given → Left → Type 0
Decodes g = Decoding (checks_of g) g.lent g.space
    (Struck g.description g.received (λ y. Ends g.description.code y g.limit g.lent))
