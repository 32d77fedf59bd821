-- `wrong_exactly` compares the flags column by column.
use Rattle.std.proofs.Common.{◌≡◌, ◌∙◌, ◌<◌, ◌↔◌, ℕ, List, Bool, true, false, MatchBool, refl, sym, ap, arith, rules, tests, length, get_or, zero-add}
use Rattle.std.specs.List.{AllWithin, HoldsAt, enumerate_from}
use Rattle.std.proofs.lemmas.Bool.{true≢false}
use Rattle.std.proofs.lemmas.Iterator.{cases_from_all, YieldsList-from_slice}
use Rattle.std.proofs.lemmas.Iterator.Consumers.{YieldsList-from_enumerate, YieldsList-at}
use Rattle.std.proofs.lemmas.List.FromFn.{length-enumerate_from, get_or-enumerate_from}
use lib.Seq.{ext_get_or}
use Rattle.codes.specs.Code.{differs, flag, flags_from}
use Rattle.codes.proofs.Flags.{flags-length, flag_here}
use Rattle.fitting.proofs.wrong_exactly.Goals as goal

-- flags that agree at every column, and that do not at one
module _ (f : ℕ → Bool) (W : List ℕ) where
  abbrev Right : ℕ × ℕ → Type 0
  Right p = flag (f p.0) ≡ p.1

  abbrev all : List (ℕ × ℕ)
  all = enumerate_from 0 W

  decided : (r : Bool) → MatchBool r (AllWithin Right all 0 (length all)) ((k : ℕ) × (k < length all) × HoldsAt (λ p. ¬ Right p) all k)
      → (r ≡ true) ↔ (flags_from f 0 (length W) ≡ W)
  decided true right = (λ e. ext_get_or 0 (flags_from f 0 (length W)) W (flags-length f 0 (length W)) at, λ e. refl)
    where
      at : (k : ℕ) → k < length (flags_from f 0 (length W)) → get_or (flags_from f 0 (length W)) k 0 ≡ get_or W k 0
      at k l =
          let below : k < length W = omega (arith, flags-length f 0 (length W)) in
          flag_here f (length W) k below
          ∙ (rw (get_or-enumerate_from 0 W k (0, 0) below, zero-add) at (right k (0, 0) (omega arith) (omega (arith, length-enumerate_from 0 W))))
  decided false (k, lt, wrong) =
      let below : k < length W = omega (arith, length-enumerate_from 0 W) in
      let other : ¬ Right (k, get_or W k 0) = rw (get_or-enumerate_from 0 W k (0, 0) below, zero-add) at (wrong (0, 0)) in (
        λ e. absurd (true≢false (sym e)),
        λ e. absurd (other (sym (flag_here f (length W) k below) ∙ ap (λ (l : List ℕ). get_or l k 0) e)),
      )

pub returns : goal.returns
returns c =
    let s = c.args in
    let W = s.set.now in
    let f : ℕ → Bool = λ i. differs s.rows (length W) i s.a.now s.b.now in
    let told = cases_from_all _ _ c.all.result (Right f W) (λ p. ¬ Right f W p) c.all.ensures.ran
    (YieldsList-from_enumerate (YieldsList-at c.enumerate.ensures.source (YieldsList-from_slice W cc)) cc)
    (λ x q called. search (rules, tests)) (λ x q called. search (rules, tests)) in
    decided f W c.all.result told
