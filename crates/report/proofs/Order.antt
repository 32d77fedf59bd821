-- The ranking of suppliers is a total order of reports, up to those that rank equal.
--
--   asymmetric      of two suppliers one at most comes before the other
--   compared        where one comes before another, any third comes behind the first or before the second
--   ranks_first, ranks_second, ranks_equal    how a ranking follows from who comes before whom
--   unique_ranking  there is one ranking of two reports
--   ranks_self, ranks_swapped    a supplier ranks equal to itself, and the ranking does not depend on who is named first
--   first_through, equal_through    coming first, and ranking equal, carry over from one to the next
--   first_exactly   of two with corrected marks the one with the smaller fraction comes first; equal_exactly, with the same they rank equal
--   comes_last      one with no corrected mark comes last; two_such, two such rank equal
-- Assumes nothing.
use mathlib.Core.Path.{◌≡◌, refl}
use mathlib.Core.Logic.{◌↔◌, ◌⊎◌, inl, inr, ⊎_elim}
use Prim.Native.Nat.{ℕ, ◌*◌, ◌≤◌, ◌<◌}
use native.Mathlib.Nat.{mul_right_comm, mul-le-mul_right, mul-lt-mul_of_pos_right, lt_of_mul-lt-mul_right}
use native.Mathlib.Decide.{ℕ_discrete, dec_lt}
use native.Mathlib.Omega.{arith}
use Rattle.report.specs.Ranking.{corrected, Before, Ranks}
use Rattle.report.specs.declared.Report.{Report}
use Rattle.report.specs.declared.Ranking.{Ranking}
use Rattle.report.specs.declared.Ranking.TheVariants.{Equal, First, Second}

pub asymmetric : {r s : Report} → Before r s → Before s r → ⊥
asymmetric {r} {s} p q = go p.less q.less
  where
    go : (corrected s ≡ 0) ⊎ (r.wrong * corrected s < s.wrong * corrected r)
        → (corrected r ≡ 0) ⊎ (s.wrong * corrected r < r.wrong * corrected s) → ⊥
    go (inl z) h = omega (arith, q.some)
    go (inr l) (inl z) = omega (arith, p.some)
    go (inr l) (inr g) = omega arith

-- a/b below e/f, and c/d not above a/b: c/d is below e/f
carried : (a b c d e f : ℕ) → 0 < d → a * f < e * b → c * b ≤ a * d → c * f < e * d
carried a b c d e f pos below level =
    let low = mul-le-mul_right f level in
    let high = mul-lt-mul_of_pos_right below pos in
    lt_of_mul-lt-mul_right b (omega (arith, mul_right_comm c b f, mul_right_comm a d f, mul_right_comm e b d))

pub compared : {r t : Report} (s : Report) → Before r t → Before r s ⊎ Before s t
compared {r} {t} s h = go (ℕ_discrete (corrected s) 0) h.less
  where
    by : 0 < corrected s → r.wrong * corrected t < t.wrong * corrected r
        → Dec (r.wrong * corrected s < s.wrong * corrected r) → Before r s ⊎ Before s t
    by pos l (yes g) = inl (record { some = h.some; less = inr g })
    by pos l (no g) = inr (record {
      some = pos;
      less = inr (carried r.wrong (corrected r) s.wrong (corrected s) t.wrong (corrected t) pos l (omega arith));
    })

    go : Dec (corrected s ≡ 0) → (corrected t ≡ 0) ⊎ (r.wrong * corrected t < t.wrong * corrected r) → Before r s ⊎ Before s t
    go (yes z) l = inl (record { some = h.some; less = inl z })
    go (no z) (inl last) = inr (record { some = omega arith; less = inl last })
    go (no z) (inr l) = by (omega arith) l (dec_lt (r.wrong * corrected s) (s.wrong * corrected r))

-- ---- rankings

pub ranks_first : {r s : Report} → Before r s → Ranks r s First
ranks_first h = record { first = (λ e. h, λ b. refl); second = (λ e. absurd (omega arith), λ b. absurd (asymmetric h b)) }

pub ranks_second : {r s : Report} → Before s r → Ranks r s Second
ranks_second h = record { first = (λ e. absurd (omega arith), λ b. absurd (asymmetric h b)); second = (λ e. h, λ b. refl) }

pub ranks_equal : {r s : Report} → (Before r s → ⊥) → (Before s r → ⊥) → Ranks r s Equal
ranks_equal n m = record { first = (λ e. absurd (omega arith), λ b. absurd (n b)); second = (λ e. absurd (omega arith), λ b. absurd (m b)) }

pub unique_ranking : (r s : Report) (o o' : Ranking) → Ranks r s o → Ranks r s o' → o ≡ o'
unique_ranking r s Equal Equal p q = refl
unique_ranking r s Equal First p q = absurd (omega (arith, p.first.1 (q.first.0 refl)))
unique_ranking r s Equal Second p q = absurd (omega (arith, p.second.1 (q.second.0 refl)))
unique_ranking r s First Equal p q = absurd (omega (arith, q.first.1 (p.first.0 refl)))
unique_ranking r s First First p q = refl
unique_ranking r s First Second p q = absurd (omega (arith, p.second.1 (q.second.0 refl)))
unique_ranking r s Second Equal p q = absurd (omega (arith, q.second.1 (p.second.0 refl)))
unique_ranking r s Second First p q = absurd (omega (arith, p.first.1 (q.first.0 refl)))
unique_ranking r s Second Second p q = refl

pub ranks_self : (r : Report) → Ranks r r Equal
ranks_self r = ranks_equal (λ b. asymmetric b b) (λ b. asymmetric b b)

abbrev pub swapped : Ranking → Ranking
swapped Equal = Equal
swapped First = Second
swapped Second = First

-- who does not come first, where they do not rank equal so
not-before : {r s : Report} → Ranks r s Equal → (Before r s → ⊥) × (Before s r → ⊥)
not-before p = (λ b. omega (arith, p.first.1 b), λ b. omega (arith, p.second.1 b))

pub ranks_swapped : (r s : Report) (o : Ranking) → Ranks r s o → Ranks s r (swapped o)
ranks_swapped r s Equal p = ranks_equal (not-before p).1 (not-before p).0
ranks_swapped r s First p = ranks_second (p.first.0 refl)
ranks_swapped r s Second p = ranks_first (p.second.0 refl)

pub first_through : (r s t : Report) → Ranks r s First → Ranks s t First → Ranks r t First
first_through r s t p q = ranks_first (⊎_elim (λ b. b) (λ b. absurd (asymmetric (q.first.0 refl) b)) (compared t (p.first.0 refl)))

pub equal_through : (r s t : Report) → Ranks r s Equal → Ranks s t Equal → Ranks r t Equal
equal_through r s t p q = ranks_equal
    (λ b. ⊎_elim (not-before p).0 (not-before q).0 (compared s b))
    (λ b. ⊎_elim (not-before q).1 (not-before p).1 (compared s b))

-- 'ranked by wrong columns per corrected mark, as exact fractions'
module _ (r s : Report) (own : 0 < corrected r) (others : 0 < corrected s) where
  less_before : r.wrong * corrected s < s.wrong * corrected r → Before r s
  less_before l = record { some = own; less = inr l }

  pub before_less : Before r s → r.wrong * corrected s < s.wrong * corrected r
  before_less b = ⊎_elim (λ z. absurd (omega arith)) (λ l. l) b.less

  pub first_exactly : Ranks r s First ↔ (r.wrong * corrected s < s.wrong * corrected r)
  first_exactly = (λ p. before_less (p.first.0 refl), λ l. ranks_first (less_before l))

pub equal_exactly : (r s : Report) → 0 < corrected r → 0 < corrected s
    → Ranks r s Equal ↔ (r.wrong * corrected s ≡ s.wrong * corrected r)
equal_exactly r s own others = (
  λ p. level (dec_lt _ _) (dec_lt _ _)
      (λ l. (not-before p).0 (less_before r s own others l))
      (λ l. (not-before p).1 (less_before s r others own l)),
  λ e. ranks_equal (λ b. omega (arith, before_less r s own others b)) (λ b. omega (arith, before_less s r others own b)),
)
  where
    level : Dec (r.wrong * corrected s < s.wrong * corrected r) → Dec (s.wrong * corrected r < r.wrong * corrected s)
        → (r.wrong * corrected s < s.wrong * corrected r → ⊥) → (s.wrong * corrected r < r.wrong * corrected s → ⊥)
        → r.wrong * corrected s ≡ s.wrong * corrected r
    level (yes l) d n m = absurd (n l)
    level (no l) (yes g) n m = absurd (m g)
    level (no l) (no g) n m = omega arith

-- 'one with no corrected mark comes last'
pub comes_last : (r s : Report) → 0 < corrected r → corrected s ≡ 0 → Ranks r s First
comes_last r s own none = ranks_first (record { some = own; less = inl none })

-- 'and two such rank equal'
pub two_such : (r s : Report) → corrected r ≡ 0 → corrected s ≡ 0 → Ranks r s Equal
two_such r s z y = ranks_equal (λ b. omega (arith, b.some)) (λ b. omega (arith, b.some))
