-- The month's figures: 02, 2026-14. An ending is its code in 01's table; columns are counted from 0.

--   Mark                 'each with its answer and flags'; mark_of e d fs, the mark of these
--   count p l            how many of l pass the test p; is_corrected m, the mark's ending is 'corrected'
--   wrong_flags fs        how many of the flags fs are 1
--   wrong_at i m          whether the mark's column i is a wrong one; wrong_in m, how many of its columns are
--   figures n ms         the report on the marks ms of a code with n columns
--   open_checks, enter_checks    the checks, in order; bad_mark m, the test of number 26
--   Opens n r            opening for n columns hands over r
--   Next r m e           e is the report on the marks of r and on m; Enters r m e, entering m hands back e
--   taken o m ms         the marks ms, and m before them unless the outcome o is a refusal
--   Came ms r            r came from opening and entering, and ms are the marks taken, the last one first; Made r, it came so
use Rattle.std.specs.Prelude.{◌≡◌, Bool, cond, not, ◌&&◌, ◌||◌, List, [], ◌∷◌, map, ℕ, ◌+◌, eqb, leb, ltb, length, get_or, Ok, Err}
use Rattle.refusal.specs.Refusal.{Check, ◌when◌, outside, some_outside}
use Rattle.codes.specs.Code.{total, largest, flag, up_from}
use Rattle.codes.specs.Checks.{wrong_length}
use Rattle.mark.specs.Promises.{Outcome, meaning, Hands}
use Rattle.report.specs.declared.Report.{Report}
use Rattle.mark.specs.declared.Handed.{Handed}

pub record Mark : Type 0 where
  pub ending : ℕ
  pub detail : ℕ
  pub flags : List ℕ

abbrev pub mark_of : (ending detail : ℕ) (flags : List ℕ) → Mark
mark_of e d fs = record { ending = e; detail = d; flags = fs }

unfoldable pub count : {A : Type 0} → (A → Bool) → List A → ℕ
count p [] = 0
count p (a ∷ l) = flag (p a) + count p l

abbrev pub is_corrected : Mark → Bool
is_corrected m = eqb m.ending 1

abbrev pub wrong_flags : List ℕ → ℕ
wrong_flags fs = count (λ f. eqb f 1) fs

-- 'wrong columns (flag 1 on corrected marks)'
abbrev pub wrong_at : ℕ → Mark → Bool
wrong_at i m = is_corrected m && eqb (get_or m.flags i 0) 1

abbrev pub wrong_in : Mark → ℕ
wrong_in m = cond (is_corrected m) (wrong_flags m.flags) 0

-- 'the count of each ending, refusals included, wrong columns … in total and for each column number, and the largest number in one mark'
abbrev pub figures : ℕ → List Mark → Report
figures n ms = record {
  columns = n;
  marks = length ms;
  endings = map (λ k. count (λ m. eqb m.ending k) ms) (up_from 0 5);
  wrong = total (map wrong_in ms);
  each = map (λ i. count (wrong_at i) ms) (up_from 0 96);
  most = largest (map wrong_in ms);
}

-- 'Opening a report checks n by 3'
abbrev pub open_checks : ℕ → List Check
open_checks n = (3 when outside 1 96 n) ∷ []

-- 'a refused opening hands over, beside the number, an empty report for n of 1'
abbrev pub Opens : ℕ → Handed Report → Type 0
Opens n r = Hands (open_checks n) (λ e. e ≡ figures n []) (figures 1 []) (meaning r.outcome, r.next)

-- 'an ending code above 4, or a corrected mark with a flag above 2 or whose flags of 1 do not number its detail'
abbrev pub bad_mark : Mark → Bool
bad_mark m = ltb 4 m.ending || (is_corrected m && (some_outside 0 2 m.flags || not (eqb (wrong_flags m.flags) m.detail)))

-- 'Up to 1,000,000 marks.' '24, one mark more than that; 5, flags not n long; 26'
abbrev pub enter_checks : Report → Mark → List Check
enter_checks r m =
    (24 when leb 1000000 r.marks)
    ∷ (5 when wrong_length r.columns m.flags)
    ∷ (26 when bad_mark m) ∷ []

-- 'Marks of one code are entered one by one': the figures of whatever marks r has them of, and of m
abbrev pub Next : Report → Mark → Report → Type 0
Next r m e = (ms : List Mark) × (r ≡ figures r.columns ms) × (e ≡ figures r.columns (m ∷ ms))

-- 'the report staying as it was'
abbrev pub Enters : Report → Mark → Handed Report → Type 0
Enters r m e = Hands (enter_checks r m) (Next r m) r (meaning e.outcome, e.next)

abbrev pub taken : Outcome → Mark → List Mark → List Mark
taken (Ok _) m ms = m ∷ ms
taken (Err _) m ms = ms

pub data Came : List Mark → Report → Type 0 where
  opened : (n : ℕ) (r : Handed Report) → Opens n r → Came [] r.next
  entered : (ms : List Mark) (r : Report) (m : Mark) (e : Handed Report) → Came ms r → Enters r m e → Came (taken e.outcome m ms) e.next

-- 'That a report came from opening and entering is the one premise that a report call may have.'
abbrev pub Made : Report → Type 0
Made r = (ms : List Mark) × Came ms r
