-- The numbers of the reasons for which a call is refused.
--
--   positive     a reason's number is not 0
--   named-number    the reason with the number of a reason is that reason; same_reason, no two reasons have one number
--   number-named    each number from 1 to 26 is that of the reason which it names
--   refused_as   the promise of a call with checks is kept by the reason that applies
--   told_as      and a kept promise, case by case: where a check applies its number is that of a reason
--   handed_on    over cs ++ ds the reason by which cs refuse is the one
--   in_turn      two answers, one for cs and one for ds, the first that refuses
--   refused_err, refused_ok    what a test of the answer tells of its number
-- Assumes nothing.
use Rattle.std.proofs.Common.{◌≡◌, List, [], ◌∷◌, ◌++◌, ℕ, zero, suc, ◌+◌, ◌-◌, ◌≤◌, ◌<◌, refl, sym, ap, ◌∙◌, subst, Ok, Err, arith}
use Rattle.std.specs.Prelude.{length, get_or}
use Rattle.std.specs.Result.{result_and}
use Rattle.std.specs.Prelude.{Result, is_err}
use mathlib.Core.Bool.{Bool, true, false, ◌&&◌, true≢false}
use lib.Dec.{eqb}
use borrow.Author.Tests.{eqb-true}
use Rattle.refusal.specs.Refusal.{Check, first}
use Rattle.refusal.specs.Keeping.{Keeps}
use Rattle.refusal.specs.Numbers.{table, number, named, refused}
use Rattle.refusal.specs.declared.Refusal.{Refusal}
use Rattle.refusal.specs.declared.Refusal.TheVariants.{Degree, Rows, Columns, Lengths, Buffers, Points, Symbols, Limit, NoCodeArray}
use Rattle.refusal.specs.declared.Refusal.TheVariants.{RingSize, RingOrder, NoRecordMark, CutShort, DeskColumn, Marks, LostColumns}
use Rattle.refusal.specs.declared.Refusal.TheVariants.{TooFewLeft, Unchecked, PitLimit, Powers, ListColumns, Room, Factors, ReportFull}
use Rattle.refusal.specs.declared.Refusal.TheVariants.{ZeroDivisor, BadEntry}
use Rattle.refusal.proofs.Keeping.{refuses, told}
use Rattle.refusal.proofs.Ladders.{Numbered, stopped, passed_on, both}

pub positive : (r : Refusal) → number r ≡ 0 → ⊥
positive Degree h = absurd (omega arith)
positive Rows h = absurd (omega arith)
positive Columns h = absurd (omega arith)
positive Lengths h = absurd (omega arith)
positive Buffers h = absurd (omega arith)
positive Points h = absurd (omega arith)
positive Symbols h = absurd (omega arith)
positive Limit h = absurd (omega arith)
positive NoCodeArray h = absurd (omega arith)
positive RingSize h = absurd (omega arith)
positive RingOrder h = absurd (omega arith)
positive NoRecordMark h = absurd (omega arith)
positive CutShort h = absurd (omega arith)
positive DeskColumn h = absurd (omega arith)
positive Marks h = absurd (omega arith)
positive LostColumns h = absurd (omega arith)
positive TooFewLeft h = absurd (omega arith)
positive Unchecked h = absurd (omega arith)
positive PitLimit h = absurd (omega arith)
positive Powers h = absurd (omega arith)
positive ListColumns h = absurd (omega arith)
positive Room h = absurd (omega arith)
positive Factors h = absurd (omega arith)
positive ReportFull h = absurd (omega arith)
positive ZeroDivisor h = absurd (omega arith)
positive BadEntry h = absurd (omega arith)

pub named-number : (r : Refusal) → named (number r) ≡ r
named-number Degree = refl
named-number Rows = refl
named-number Columns = refl
named-number Lengths = refl
named-number Buffers = refl
named-number Points = refl
named-number Symbols = refl
named-number Limit = refl
named-number NoCodeArray = refl
named-number RingSize = refl
named-number RingOrder = refl
named-number NoRecordMark = refl
named-number CutShort = refl
named-number DeskColumn = refl
named-number Marks = refl
named-number LostColumns = refl
named-number TooFewLeft = refl
named-number Unchecked = refl
named-number PitLimit = refl
named-number Powers = refl
named-number ListColumns = refl
named-number Room = refl
named-number Factors = refl
named-number ReportFull = refl
named-number ZeroDivisor = refl
named-number BadEntry = refl

pub same_reason : (r s : Refusal) → number r ≡ number s → r ≡ s
same_reason r s e = sym (named-number r) ∙ ap named e ∙ named-number s

-- the reasons rs have the numbers from k on
abbrev counted : ℕ → List Refusal → Bool
counted k [] = true
counted k (r ∷ rs) = eqb (number r) k && counted (suc k) rs

counted_at : (k : ℕ) (rs : List Refusal) → counted k rs ≡ true → (i : ℕ) → i < length rs → number (get_or rs i BadEntry) ≡ k + i
counted_at k [] c i h = absurd (omega arith)
counted_at k (r ∷ rs) c zero h = omega (arith, eqb-true (number r) k (both (eqb (number r) k) (counted (suc k) rs) c).0)
counted_at k (r ∷ rs) c (suc i) h =
    omega (arith, counted_at (suc k) rs (both (eqb (number r) k) (counted (suc k) rs) c).1 i (omega arith))

pub number-named : (k : ℕ) → 1 ≤ k → k ≤ 26 → number (named k) ≡ k
number-named k l h = omega (arith, counted_at 1 table refl (k - 1) (omega arith))

pub refused_as : {L : Type 0} (cs : List Check) (say : Refusal → L) (Done : L → Type 0) (r : Refusal) → number r ≡ first cs
    → Keeps cs (λ k. say (named k)) Done (say r)
refused_as cs say Done r e = subst (λ (s : Refusal). Keeps cs (λ k. say (named k)) Done (say s)) (named-number r)
    (refuses cs (λ k. say (named k)) Done e (positive r))

pub told_as : {L : Type 0} (cs : List Check) (say : Refusal → L) (Done : L → Type 0) → first cs ≤ 26
    → {P : Type 0} (l : L) → Keeps cs (λ k. say (named k)) Done l → (0 ≡ first cs → Done l → P)
    → ((r : Refusal) → number r ≡ first cs → l ≡ say r → P) → P
told_as cs say Done upto l h done stopped = told cs (λ k. say (named k)) Done l h done
    (λ k e is. stopped (named (suc k)) (number-named (suc k) (omega arith) (omega arith) ∙ e) is)

pub handed_on : (cs ds : List Check) (r : Refusal) → number r ≡ first cs → number r ≡ first (cs ++ ds)
handed_on cs ds r e = stopped cs ds e (positive r)

pub in_turn : (cs ds : List Check) (x y : Result Unit Refusal) → Numbered cs → refused x ≡ first cs → refused y ≡ first ds
    → refused (result_and x y) ≡ first (cs ++ ds)
in_turn cs ds (Ok u) y h p q = q ∙ sym (passed_on cs ds h p refl)
in_turn cs ds (Err r) y h p q = handed_on cs ds r p

pub refused_err : {A : Type 0} (r : Result A Refusal) → is_err r ≡ true → refused r ≡ 0 → ⊥
refused_err (Ok a) e = absurd (true≢false (sym e))
refused_err (Err q) e = positive q

pub refused_ok : {A : Type 0} (r : Result A Refusal) → is_err r ≡ false → refused r ≡ 0
refused_ok (Ok a) e = refl
refused_ok (Err q) e = absurd (true≢false e)
