-- What the request says of every report that came from opening and entering.
--
--   endings_add_up     the endings' counts add up to the number of marks
--   columns-add_up     the columns' counts add up to the total
--   others_zero        the places of columns that the code does not have are zero
--   most_marks         it is of a million marks at most
-- That its figures are those of the marks entered is `figures_of` of History.
-- Assumes nothing.
use mathlib.Core.Path.{◌≡◌, refl, ap, ap₂, ◌∙◌}
use mathlib.Core.Bool.{Bool, true, false, cond, ◌&&◌}
use mathlib.Core.List.{List, [], ◌∷◌, map}
use Prim.Native.Nat.{ℕ, zero, suc, ◌+◌, ◌≤◌, ◌<◌}
use native.Mathlib.Nat.{zero-add}
use native.Mathlib.Decide.{ℕ_discrete}
use native.Mathlib.Omega.{arith}
use lib.Dec.{eqb}
use lib.ListN.{length, get_or, get_or-eq_default}
use borrow.Author.Tests.{eq-eqb, ne_eqb}
use Rattle.poly.specs.Poly.{All}
use Rattle.codes.specs.Code.{total, flag, up_from}
use Rattle.report.specs.Report.{Mark, count, is_corrected, wrong_flags, wrong_at, wrong_in, Made}
use Rattle.report.specs.declared.Report.{Report}
use Rattle.report.proofs.Figures.{place_most, ended_with, wrong_of, Enterable}
use Rattle.report.proofs.History.{figures_of, held_of}

-- ---- sums over places

sum_none : (i n : ℕ) → total (map (λ k. 0) (up_from i n)) ≡ 0
unfolding total up_from
sum_none i zero = refl
sum_none i (suc n) = zero-add _ ∙ sum_none (suc i) n

sum_both : (f g : ℕ → ℕ) (l : List ℕ) → total (map (λ k. f k + g k) l) ≡ total (map f l) + total (map g l)
unfolding total
sum_both f g [] = refl
sum_both f g (k ∷ l) = omega (arith, sum_both f g l)

-- of the places from i on, none is e where e is below, and else one is
sum_past : (e i n : ℕ) → e < i → total (map (λ k. flag (eqb e k)) (up_from i n)) ≡ 0
unfolding total up_from
sum_past e i zero h = refl
sum_past e i (suc n) h = omega (arith, ap flag (ne_eqb e i (omega arith)), sum_past e (suc i) n (omega arith))

sum_one : (e i n : ℕ) → i ≤ e → e < i + n → total (map (λ k. flag (eqb e k)) (up_from i n)) ≡ 1
unfolding total up_from
sum_one e i zero low high = absurd (omega arith)
sum_one e i (suc n) low high = go (ℕ_discrete e i) (λ h. sum_one e (suc i) n h (omega arith))
  where
    go : Dec (e ≡ i) → (i < e → total (map (λ k. flag (eqb e k)) (up_from (suc i) n)) ≡ 1)
        → flag (eqb e i) + total (map (λ k. flag (eqb e k)) (up_from (suc i) n)) ≡ 1
    go (yes same) rest = omega (arith, ap flag (eq-eqb e i same), sum_past e (suc i) n (omega arith))
    go (no other) rest = omega (arith, ap flag (ne_eqb e i other), rest (omega arith))

-- ---- 'The endings' counts add up to the number of marks'

endings_sum : (n : ℕ) (ms : List Mark) → All (Enterable n) ms
    → total (map (ended_with ms) (up_from 0 5)) ≡ length ms
unfolding count
endings_sum n [] h = sum_none 0 5
endings_sum n (m ∷ ms) (p, h) =
    sum_both (λ k. flag (eqb m.ending k)) (ended_with ms) (up_from 0 5)
    ∙ omega (arith, sum_one m.ending 0 5 (omega arith) (omega (arith, p.ending)), endings_sum n ms h)

pub endings_add_up : {r : Report} → Made r → total r.endings ≡ r.marks
endings_add_up {r} (ms, came) = rw (figures_of came) (endings_sum r.columns ms (held_of came).each)

-- ---- 'the columns' counts add up to the total'

shift : (f : ℕ → ℕ) (i n : ℕ) → map f (up_from (suc i) n) ≡ map (λ k. f (suc k)) (up_from i n)
unfolding up_from
shift f i zero = refl
shift f i (suc n) = ap (◌∷◌ (f (suc i))) (shift f (suc i) n)

flags_sum : (fs : List ℕ) (n : ℕ) → length fs ≤ n → total (map (λ i. flag (eqb (get_or fs i 0) 1)) (up_from 0 n)) ≡ wrong_flags fs
unfolding total up_from count
flags_sum [] n h = sum_none 0 n
flags_sum (f ∷ fs) zero h = absurd (omega arith)
flags_sum (f ∷ fs) (suc n) h = ap (λ (k : ℕ). flag (eqb f 1) + k)
    (ap total (shift (λ i. flag (eqb (get_or (f ∷ fs) i 0) 1)) 0 n) ∙ flags_sum fs n (omega arith))

mark-sum : (m : Mark) (n : ℕ) → length m.flags ≤ n → total (map (λ i. flag (wrong_at i m)) (up_from 0 n)) ≡ wrong_in m
mark-sum m n h = go (is_corrected m)
  where
    go : (b : Bool) → total (map (λ i. flag (b && eqb (get_or m.flags i 0) 1)) (up_from 0 n)) ≡ cond b (wrong_flags m.flags) 0
    go true = flags_sum m.flags n h
    go false = sum_none 0 n

columns-sum : (n : ℕ) (ms : List Mark) → n ≤ 96 → All (Enterable n) ms
    → total (map (wrong_of ms) (up_from 0 96)) ≡ total (map wrong_in ms)
unfolding count total
columns-sum n [] few h = sum_none 0 96
columns-sum n (m ∷ ms) few (p, h) =
    sum_both (λ i. flag (wrong_at i m)) (wrong_of ms) (up_from 0 96)
    ∙ ap₂ ◌+◌ (mark-sum m 96 (omega (arith, p.flags))) (columns-sum n ms few h)

pub columns-add_up : {r : Report} → Made r → total r.each ≡ r.wrong
columns-add_up {r} (ms, came) = rw (figures_of came) (columns-sum r.columns ms (held_of came).most_columns (held_of came).each)

-- ---- 'for each column number'

unflagged : (n i : ℕ) (ms : List Mark) → n ≤ i → All (Enterable n) ms → count (wrong_at i) ms ≡ 0
unfolding count
unflagged n i [] low h = refl
unflagged n i (m ∷ ms) low (p, h) =
    omega (arith, zero_flag (is_corrected m), unflagged n i ms low h)
  where
    zero_flag : (b : Bool) → flag (b && eqb (get_or m.flags i 0) 1) ≡ 0
    zero_flag true = rw (get_or-eq_default m.flags 0 {n = i} (omega (arith, p.flags)))
    zero_flag false = refl

pub others_zero : {r : Report} → Made r → (i : ℕ) → r.columns ≤ i → get_or r.each i 0 ≡ 0
others_zero {r} (ms, came) i low =
    let none : wrong_of ms i ≤ 0 = omega (arith, unflagged r.columns i ms low (held_of came).each) in
    rw (figures_of came) (omega (arith, place_most (wrong_of ms) 96 i 0 none))

-- ---- 'Up to 1,000,000 marks.'

pub most_marks : {r : Report} → Made r → r.marks ≤ 1000000
most_marks {r} (ms, came) = rw (figures_of came) (held_of came).most_marks
