-- A report that came from opening and entering: whose figures it has, and that there is room for more.
--
--   passed          what the checks of entering leave: fewer marks than a million, and one mark for the columns
--   Held n ms       what holds of the columns n and the marks ms of such a report
--   next_added      the next report is the last one with the mark counted
--   figures_of      it has the figures of the marks that were entered and not refused; held_of, those are held
--   corrected-most, wrong_most    two of its figures are not large
--   adding          where no check applies a mark can be counted; next, that gives the next report; made_entered, which came so too
-- Assumes nothing.
use mathlib.Core.Path.{◌≡◌, refl, sym, ap, ◌∙◌, subst}
use mathlib.Core.Bool.{Bool, true, false, ◌&&◌, true≢false}
use mathlib.Core.List.{List, [], ◌∷◌, map}
use Prim.Native.Nat.{ℕ, ◌*◌, ◌≤◌, ◌<◌}
use native.Mathlib.Nat.{mul-suc, mul-le-mul_left}
use native.Mathlib.Omega.{arith}
use lib.Dec.{eqb, ltb}
use lib.ListN.{length, get_or}
use borrow.Author.Tests.{eqb-true, ltb-false, leb-false, not-false}
use Rattle.refusal.specs.Refusal.{first, some_outside}
use Rattle.refusal.proofs.Laws.{within, neither}
use Rattle.refusal.proofs.Ladders.{clear}
use Rattle.poly.specs.Poly.{All}
use Rattle.codes.specs.Code.{total, up_from}
use Rattle.codes.proofs.Passed.{right-length}
use Rattle.mark.specs.Promises.{Outcome}
use Rattle.mark.proofs.Handing.{handed, handed_by}
use Rattle.report.specs.Report.{Mark, is_corrected, wrong_at, wrong_in, figures, open_checks, bad_mark, enter_checks}
use Rattle.report.specs.Report.{Next, Enters, taken, Came, opened, entered, Made}
use Rattle.report.specs.Ranking.{corrected}
use Rattle.report.specs.Working.{Adding, added}
use Rattle.report.specs.declared.Report.{Report}
use Rattle.mark.specs.declared.Handed.{Handed}
use Rattle.report.proofs.Figures.{place_most, count_most, wrong_flags_most, ended_with, wrong_of, Enterable, added-figures}

-- ---- what the checks leave

conditional : (a b : Bool) → a && b ≡ false → a ≡ true → b ≡ false
conditional true b e h = e
conditional false b e h = absurd (true≢false (sym h))

enterable : (n : ℕ) (m : Mark) → length m.flags ≡ n → bad_mark m ≡ false → Enterable n m
enterable n m e h =
    let both = neither (ltb 4 m.ending) _ h in record {
      ending = omega (arith, ltb-false 4 m.ending both.0);
      flags = e;
      detail = λ is. eqb-true _ _ (not-false _ (neither (some_outside 0 2 m.flags) _ (conditional (is_corrected m) _ both.1 is)).1);
    }

pub passed : (r : Report) (m : Mark) → 0 ≡ first (enter_checks r m) → (r.marks < 1000000) × Enterable r.columns m
passed r m e =
    let p₂₄ = clear 23 _ _ e in
    let p₅ = clear 4 _ _ p₂₄.1 in
    let p₂₆ = clear 25 _ _ p₅.1 in
    (leb-false 1000000 r.marks p₂₄.0, enterable r.columns m (right-length r.columns m.flags p₅.0) p₂₆.0)

-- ---- the marks of a report

pub record Held (n : ℕ) (ms : List Mark) : Type 0 where
  pub some_columns : 1 ≤ n
  pub most_columns : n ≤ 96
  pub most_marks : length ms ≤ 1000000
  pub each : All (Enterable n) ms

pub next_added : {r e : Report} {m : Mark} → r.columns ≤ 96 → Enterable r.columns m → Next r m e → e ≡ added r m
next_added {r} {e} {m} few p (ms, was, is) =
    is ∙ sym (added-figures r.columns ms m few p) ∙ ap (λ (r : Report). added r m) (sym was)

abbrev Of : List Mark → Report → Type 0
Of ms r = (r ≡ figures r.columns ms) × Held r.columns ms

none_held : (n : ℕ) → 1 ≤ n → n ≤ 96 → Of [] (figures n [])
none_held n some most = (refl, record { some_columns = some; most_columns = most; most_marks = omega arith; each = tt })

more_held : (ms : List Mark) (r e : Report) (m : Mark) → Of ms r → 0 ≡ first (enter_checks r m) → Next r m e → Of (m ∷ ms) e
more_held ms r e m (was, held) none next =
    let p = passed r m none in
    let n = r.columns in
    let is : e ≡ figures n (m ∷ ms) =
    next_added held.most_columns p.1 next ∙ ap (λ (r : Report). added r m) was
    ∙ added-figures n ms m held.most_columns p.1 in
    let marks : r.marks ≡ length ms = ap (λ (r : Report). r.marks) was in
    subst (Of (m ∷ ms)) (sym is) (
      refl,
      record {
        some_columns = held.some_columns;
        most_columns = held.most_columns;
        most_marks = omega (arith, p.0);
        each = (p.1, held.each);
      },
    )

of : {ms : List Mark} {r : Report} → Came ms r → Of ms r
of (opened n o h) = handed (open_checks n) (λ e. e ≡ figures n []) (figures 1 []) _ h
    (λ none is. let n-in = within 1 96 n (clear 2 _ _ none).0 in subst (Of []) (sym is) (none_held n n-in.0 n-in.1))
    (λ is. subst (Of []) (sym is) (none_held 1 (omega arith) (omega arith)))
of (entered ms r m e came h) = handed_by (enter_checks r m) (Next r m) r e.outcome e.next h
    (λ none done next. subst (λ (o : Outcome). Of (taken o m ms) e.next) (sym done) (more_held ms r e.next m (of came) none next))
    (λ k stopped same. subst (λ (o : Outcome). Of (taken o m ms) e.next) (sym stopped) (subst (Of ms) (sym same) (of came)))

pub figures_of : {ms : List Mark} {r : Report} → Came ms r → r ≡ figures r.columns ms
figures_of came = (of came).0

pub held_of : {ms : List Mark} {r : Report} → Came ms r → Held r.columns ms
held_of came = (of came).1

-- ---- bounds

wrong_small : (n : ℕ) (ms : List Mark) → n ≤ 96 → All (Enterable n) ms → total (map wrong_in ms) ≤ 96 * length ms
unfolding total
wrong_small n [] few h = omega arith
wrong_small n (m ∷ ms) few (p, h) =
    omega (arith, wrong_flags_most m, p.flags, wrong_small n ms few h, mul-suc 96 (length ms))

column-count : (ms : List Mark) (i : ℕ) → get_or (map (wrong_of ms) (up_from 0 96)) i 0 ≤ length ms
column-count ms i = place_most (wrong_of ms) 96 i (length ms) (count_most (wrong_at i) ms)

ending_count : (ms : List Mark) (k : ℕ) → get_or (map (ended_with ms) (up_from 0 5)) k 0 ≤ length ms
ending_count ms k = place_most (ended_with ms) 5 k (length ms) (count_most (λ (m : Mark). eqb m.ending k) ms)

-- a million marks have at most 96 million wrong columns
wrong_limit : {n : ℕ} {ms : List Mark} → Held n ms → total (map wrong_in ms) ≤ 96 * 1000000
wrong_limit {n} {ms} h = omega (arith, wrong_small n ms h.most_columns h.each, mul-le-mul_left 96 h.most_marks)

pub corrected-most : {r : Report} → Made r → corrected r ≤ 1000000
corrected-most {r} (ms, came) = rw (figures_of came) (omega (arith, ending_count ms 1, (held_of came).most_marks))

pub wrong_most : {r : Report} → Made r → r.wrong ≤ 96 * 1000000
wrong_most {r} (ms, came) = rw (figures_of came) (wrong_limit (held_of came))

pub adding : {r : Report} (m : Mark) → Made r → 0 ≡ first (enter_checks r m) → Adding r m
adding {r} m (ms, came) none =
    let p = passed r m none in
    let held = held_of came in
    let marks : r.marks ≡ length ms = ap (λ (r : Report). r.marks) (figures_of came) in
    let below : length ms < 1000000 = omega (arith, p.0) in
    subst (λ (r : Report). Adding r m) (sym (figures_of came)) (record {
      below = below;
      ending = p.1.ending;
      room = omega (arith, ending_count ms m.ending);
      wrong = wrong_limit held;
      flagging = record { few = omega (arith, p.1.flags, held.most_columns); room = λ i. omega (arith, column-count ms i) };
      detail = p.1.detail;
    })

pub next : {r e : Report} (m : Mark) → Made r → 0 ≡ first (enter_checks r m) → e ≡ added r m → Next r m e
next {r} {e} m (ms, came) none is =
    let was = figures_of came in (
      ms,
      was,
      is ∙ ap (λ (r : Report). added r m) was
          ∙ added-figures r.columns ms m (held_of came).most_columns (passed r m none).1,
    )

pub made_entered : {r : Report} (m : Mark) (e : Handed Report) → Made r → Enters r m e → Made e.next
made_entered {r} m e (ms, came) h = (taken e.outcome m ms, entered ms r m e came h)
