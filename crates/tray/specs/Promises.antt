-- What the decoding of a tray promises: 02, 2026-01. An answer is an A, and `say` says an ending so: as a record, or as one number.

--   answer_of e            the answer of an ending
--   GivenTray, LeftTray   what a call is given, and what it leaves; given_tray, left_tray, these of their parts; refused_tray g k,
--                         what it leaves of the tray g refused with k
--   cells c               the number of symbols of one array
--   received_of c k y, mark_of c k b    of the received arrays and of the buffers of all marks, those of mark k
--   alone g k             what a call for mark k alone would be given
--   Alone say g s b k     mark k's answer, array and flags are those that this call would leave; Fills say g s b, so of every mark
--   DecodesTray say g l   the decoding of the tray g leaves l; tray_checks, checks_tray g, its checks; wrong_lengths, the test of number 5
use Rattle.std.specs.Prelude.{◌≡◌, Bool, ◌||◌, List, [], ◌∷◌, ◌++◌, ℕ, ◌*◌, ◌<◌, ltb, length, get_or}
use Rattle.patch.specs.Parts.{part}
use Rattle.refusal.specs.Refusal.{Check, ◌when◌, outside}
use Rattle.refusal.specs.Keeping.{Keeps}
use Rattle.refusal.specs.Meaning.{Meaning, refusal, number_of, detail_of}
use Rattle.codes.specs.Code.{Code, columns, rows, joint_limit}
use Rattle.codes.specs.Factors.{Description}
use Rattle.codes.specs.Checks.{code_checks, column_checks, wrong_length, space_bytes}
use Rattle.mark.specs.Promises.{Outcome, success, meaning as outcome_meaning}
use Rattle.ending.specs.Endings.{Buffers, meaning}
use Rattle.ending.specs.declared.Ending.{Ending}
use Rattle.ending.specs.declared.Ending.TheVariants.{Nothing}
use Rattle.joint.specs.Promises.{Given, Decodes, buffers, given, left, cleared}
use Rattle.tray.specs.declared.Answer.{Answer}

-- 'each a record of ending and detail': 01's code and detail
abbrev pub answer_of : Ending → Answer
answer_of e = record { ending = number_of (meaning e); detail = detail_of (meaning e) }

pub record GivenTray (A : Type 0) : Type 0 where
  pub description : Description
  pub limit : ℕ
  pub received : List ℕ
  pub answers : List A
  pub lent : Buffers
  pub space : List ℕ

pub record LeftTray (A : Type 0) : Type 0 where
  pub outcome : Meaning
  pub answers : List A
  pub buffers : Buffers
  pub space : List ℕ

abbrev pub given_tray : {A : Type 0} → Description → ℕ → List ℕ → List A → Buffers → List ℕ → GivenTray A
given_tray D τ y s b w = record { description = D; limit = τ; received = y; answers = s; lent = b; space = w }

abbrev pub left_tray : {A : Type 0} → Outcome → List A → Buffers → List ℕ → LeftTray A
left_tray o s b w = record { outcome = outcome_meaning o; answers = s; buffers = b; space = w }

-- 'refuse it whole with all lent memory unchanged'
abbrev pub refused_tray : {A : Type 0} → GivenTray A → ℕ → LeftTray A
refused_tray g k = record { outcome = refusal k; answers = g.answers; buffers = g.lent; space = g.space }

abbrev pub cells : Code → ℕ
cells c = rows c * columns c

-- 'the arrays one after another'
abbrev pub received_of : Code → ℕ → List ℕ → List ℕ
received_of c k y = part (k * cells c) (cells c) y

abbrev pub mark_of : Code → ℕ → Buffers → Buffers
mark_of c k b = buffers (part (k * cells c) (cells c) b.array) (part (k * columns c) (columns c) b.flags)

abbrev pub alone : {A : Type 0} → GivenTray A → ℕ → Given
alone g k = let c = g.description.code in
    given g.description g.limit (received_of c k g.received) (mark_of c k g.lent) g.space

-- 'Every answer, array and flag must equal what a call for that mark alone would give', 7 among them; the space is that call's own
pub record Alone {A : Type 0} (say : Ending → A) (g : GivenTray A) (s : List A) (b : Buffers) (k : ℕ) : Type 0 where
  pub ending : Ending
  pub space : List ℕ
  pub decodes : Decodes (alone g k) (left ending (mark_of g.description.code k b) space)
  pub answer : get_or s k (say Nothing) ≡ say ending

-- 'a lent slice of answers …, whose length counts the marks, with room in the result and flag buffers for all'
pub record Fills {A : Type 0} (say : Ending → A) (g : GivenTray A) (s : List A) (b : Buffers) : Type 0 where
  pub count : length s ≡ length g.answers
  pub arrays : length b.array ≡ length g.lent.array
  pub flags : length b.flags ≡ length g.lent.flags
  pub marks : (k : ℕ) → k < length g.answers → Alone say g s b k

-- 'the lengths in 5', of all marks together; 'a missing or spare factor is 5'
abbrev pub wrong_lengths : (D : Description) (marks : ℕ) (received arrays flags space : List ℕ) → Bool
wrong_lengths D m y a f w = let c = D.code in wrong_length (m * cells c) y || wrong_length (m * cells c) a
    || wrong_length (m * columns c) f || ltb (length w) space_bytes || wrong_length (columns c) D.factors

-- 'Checks 1 to 4, 6 and 8 and the lengths in 5 are common to the tray, come before any mark's 7'; '15, the tray has no mark or more
-- than 64, after 4 and before 5'. 18 (2026-05) and 23 (2026-11) 'refuse a tray whole'
abbrev pub tray_checks : (D : Description) (limit marks : ℕ) (received arrays flags space : List ℕ) → List Check
tray_checks D τ m y a f w = code_checks D.code ++ (15 when outside 1 64 m) ∷ (5 when wrong_lengths D m y a f w)
    ∷ column_checks D ++ (8 when ltb (joint_limit D.code) τ) ∷ []

abbrev pub checks_tray : {A : Type 0} → GivenTray A → List Check
checks_tray g =
    tray_checks g.description g.limit (length g.answers) g.received g.lent.array g.lent.flags g.space

-- 'refuse it whole with all lent memory unchanged. Otherwise the first 49,152 bytes of the working space end zero and the rest is
-- untouched.'
abbrev pub DecodesTray : {A : Type 0} (say : Ending → A) → GivenTray A → LeftTray A → Type 0
DecodesTray say g = Keeps (checks_tray g) (refused_tray g)
    (λ l. (l.outcome ≡ success) × Fills say g l.answers l.buffers × (l.space ≡ cleared g.space))
