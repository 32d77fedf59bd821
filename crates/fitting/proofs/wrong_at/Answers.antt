-- `wrong_at` looks for a row in which the arrays differ.
use Rattle.std.proofs.Common.{◌≡◌, ◌∙◌, ◌+◌, ◌*◌, ◌<◌, ℕ, List, Bool, true, false, MatchBool, refl, arith, rules, tests, length, get_or, zero-add}
use Rattle.std.specs.List.{AllWithin, HoldsAt, range_with_len}
use Rattle.std.proofs.lemmas.Bool.{true_from_ne_false}
use Rattle.std.proofs.lemmas.Iterator.{cases_from_any, YieldsList-from_range}
use Rattle.std.proofs.lemmas.List.FromFn.{length-range_with_len, get_or-range_with_len}
use mir.Val.{bool_byte}
use Rattle.codes.specs.Code.{differs, flag}
use Rattle.codes.proofs.Columns.{differs_exactly}
use Rattle.fitting.proofs.wrong_at.Goals as goal

-- the arrays agree in column i of a row
abbrev Same : (n i : ℕ) (a b : List ℕ) → ℕ → Type 0
Same n i a b row = get_or a (row * n + i) 0 ≡ get_or b (row * n + i) 0

decided : (r : Bool) (rows n i : ℕ) (a b : List ℕ)
    → MatchBool r ((k : ℕ) × (k < length (range_with_len 0 rows)) × HoldsAt (λ row. ¬ Same n i a b row) (range_with_len 0 rows) k)
    (AllWithin (Same n i a b) (range_with_len 0 rows) 0 (length (range_with_len 0 rows)))
    → bool_byte r ≡ flag (differs rows n i a b)
decided true rows n i a b (k, lt, other) =
    let below : k < rows = omega (arith, length-range_with_len 0 rows) in
    let found : ¬ Same n i a b k = rw (get_or-range_with_len 0 rows k 0 below, zero-add) at (other 0) in
    let e : differs rows n i a b ≡ true = true_from_ne_false _ (λ e. found ((differs_exactly rows n i a b).0 e k below)) in
    rw e refl
decided false rows n i a b all =
    let same : (k : ℕ) → k < rows → Same n i a b k =
    λ k lt. rw (get_or-range_with_len 0 rows k 0 lt, zero-add) at (all k 0 (omega arith) (omega (arith, length-range_with_len 0 rows))) in
    let e : differs rows n i a b ≡ false = (differs_exactly rows n i a b).1 same in
    rw e refl

pub returns : goal.returns
returns c =
    let s = c.args in
    let told = cases_from_any _ _ c.any.result (λ row. ¬ Same s.n s.i s.a.now s.b.now row) (Same s.n s.i s.a.now s.b.now) c.any.ensures.ran
    (YieldsList-from_range 0 s.rows s.rows (cc) (omega arith)) (λ x q called. search (rules, tests)) (λ x q called. search (rules, tests)) in
    c.from.ensures ∙ decided c.any.result s.rows s.n s.i s.a.now s.b.now told
