-- What a decoding answers can be entered: 26 refuses no corrected mark whose flags and detail are what a decoding promises.
--
--   decoded_passes    a decoding: flags of 1 where columns differ, and their number
--   lost_passes       one with lost columns: flags of 2 there, and the number of wrong ones among the rest
-- Assumes nothing.
use mathlib.Core.Path.{◌≡◌, refl, ap, ap₂, ◌∙◌}
use mathlib.Core.Bool.{Bool, true, false, not, ◌||◌}
use mathlib.Core.List.{List, [], ◌∷◌}
use Prim.Native.Nat.{ℕ, zero, suc, ◌+◌}
use native.Mathlib.Nat.{zero-add}
use lib.Dec.{eqb}
use borrow.Author.Tests.{eq-eqb}
use Rattle.refusal.specs.Refusal.{outside, some_outside}
use Rattle.codes.specs.Code.{Code, columns, total, flag, flags_from, flags_of, wrong_count}
use Rattle.codes.specs.Lost.{lost_flags, right, wrong_among, twos_at, flags_lost}
use Rattle.report.specs.Report.{count, wrong_flags, mark_of, bad_mark}

-- a flag is 1 or 0, and so is below 2
one : (b : Bool) → flag (eqb (flag b) 1) ≡ flag b
one true = refl
one false = refl

small : (b : Bool) → outside 0 2 (flag b) ≡ false
unfolding outside
small true = refl
small false = refl

flags_ones : (f : ℕ → Bool) (i n : ℕ) → wrong_flags (flags_from f i n) ≡ total (flags_from f i n)
unfolding flags_from total count
flags_ones f i zero = refl
flags_ones f i (suc n) = ap₂ ◌+◌ (one (f i)) (flags_ones f (suc i) n)

flags_small : (f : ℕ → Bool) (i n : ℕ) → some_outside 0 2 (flags_from f i n) ≡ false
unfolding flags_from some_outside
flags_small f i zero = refl
flags_small f i (suc n) = ap₂ ◌||◌ (small (f i)) (flags_small f (suc i) n)

lost_ones : (ls : List ℕ) (f : ℕ → Bool) (i n : ℕ) → wrong_flags (twos_at ls (flags_from f i n)) ≡ total (right ls (flags_from f i n))
unfolding flags_from total count twos_at right
lost_ones [] f i n = refl
lost_ones (l ∷ ls) f i zero = refl
lost_ones (zero ∷ ls) f i (suc n) = ap₂ ◌+◌ (one (f i)) (lost_ones ls f (suc i) n)
lost_ones (suc l ∷ ls) f i (suc n) = zero-add _ ∙ lost_ones ls f (suc i) n

lost_small : (ls : List ℕ) (f : ℕ → Bool) (i n : ℕ) → some_outside 0 2 (twos_at ls (flags_from f i n)) ≡ false
unfolding flags_from some_outside outside twos_at
lost_small [] f i n = refl
lost_small (l ∷ ls) f i zero = refl
lost_small (zero ∷ ls) f i (suc n) = ap₂ ◌||◌ (small (f i)) (lost_small ls f (suc i) n)
lost_small (suc l ∷ ls) f i (suc n) = lost_small ls f (suc i) n

passes : (fs : List ℕ) (d : ℕ) → some_outside 0 2 fs ≡ false → wrong_flags fs ≡ d → bad_mark (mark_of 1 d fs) ≡ false
passes fs d low own = ap₂ ◌||◌ low (ap not (eq-eqb (wrong_flags fs) d own))

pub decoded_passes : (c : Code) (y a : List ℕ) → bad_mark (mark_of 1 (wrong_count c y a) (flags_of c y a)) ≡ false
decoded_passes c y a = passes (flags_of c y a) (wrong_count c y a) (flags_small _ 0 (columns c)) (flags_ones _ 0 (columns c))

pub lost_passes : (c : Code) (L y a : List ℕ)
    → bad_mark (mark_of 1 (wrong_among (columns c) L (flags_of c y a)) (flags_lost (columns c) L (flags_of c y a))) ≡ false
lost_passes c L y a =
    let lost = lost_flags (columns c) L in
    passes _ _ (lost_small lost _ 0 (columns c)) (lost_ones lost _ 0 (columns c))
