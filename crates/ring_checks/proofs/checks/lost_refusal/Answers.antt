-- `checks::lost_refusal` gives the first check of decoding with lost sectors that applies.
use Rattle.std.proofs.Common.{◌≡◌, ℕ, ◌*◌, List, [], ◌++◌, refl, sym, ap, ◌∙◌}
use Rattle.std.proofs.lemmas.Result.{err_from_is_err_and}
use Rattle.refusal.specs.Refusal.{Check, first}
use Rattle.refusal.proofs.Ladders.{passed_on}
use Rattle.refusal.proofs.Numbers.{handed_on}
use Rattle.hermitian.specs.Checks.{ring_checks, received_checks}
use Rattle.hermitian.proofs.Passed.{Passed, ring_passed}
use Rattle.ring_checks.proofs.checks.lost_refusal.Goals.{In_ok-ring_refusal, After-side-n}
use Rattle.ring_checks.proofs.checks.lost_refusal.Goals as goal

pub returns-in_err-ring_refusal : goal.returns-in_err-ring_refusal
returns-in_err-ring_refusal c w f s p r u = let e = err_from_is_err_and c.from_residual.result c.from_residual.ensures.1 in
    rw (e.1, e.2) (handed_on (ring_checks c.args.q c.args.m) _ _ c.in_err-ring_refusal.ensures)

-- 10, 11 and 18 do not apply
passed : (c : In_ok-ring_refusal) → Passed c.args.q c.args.m
passed c = (ring_passed c.args.q c.args.m [] c.in_ok-ring_refusal.ensures).0

pub received_refusal-requires : goal.received_refusal-requires
received_refusal-requires c = (passed (goal.at.received_refusal-requires c).In_ok-ring_refusal).size

pub remaining_refusal-requires : goal.remaining_refusal-requires
remaining_refusal-requires c = passed (goal.at.remaining_refusal-requires c).In_ok-ring_refusal

module _ (c : After-side-n) (w f s : List ℕ) where
  abbrev checks : List Check
  checks = received_checks c.args.q (c.args.q * c.args.q) c.args.received.now w f s

  onward : (ds : List Check) → first (ring_checks c.args.q c.args.m ++ ds) ≡ first ds
  onward ds = passed_on (ring_checks c.args.q c.args.m) ds tt c.in_ok-ring_refusal.ensures refl

  -- 5 and 7 of a flag a sector
  answered : {k : ℕ} → k ≡ first (received_checks c.args.q (c.side-n.result * c.side-n.result) c.args.received.now w f s)
      → k ≡ first checks
  answered e = e ∙ ap (λ (n : ℕ). first (received_checks c.args.q (n * n) c.args.received.now w f s)) c.side-n.ensures

pub returns-in_err-received_refusal : goal.returns-in_err-received_refusal
returns-in_err-received_refusal c w f s p r u = let k = (goal.at.returns-in_err-received_refusal c).After-side-n in
    let e = err_from_is_err_and c.from_residual-in_err-received_refusal.result c.from_residual-in_err-received_refusal.ensures.1 in
    rw (e.1, e.2) (handed_on (checks k w f s) _ _ (answered k w f s (c.in_err-received_refusal.ensures w f s p r u))
    ∙ sym (onward k w f s _))

pub returns : goal.returns
returns c w f s p r u = let k = (goal.at.returns c).After-side-n in
    c.remaining_refusal.ensures
    ∙ sym (onward k w f s _
    ∙ passed_on (checks k w f s) _ tt (answered k w f s (c.in_ok-received_refusal.ensures w f s p r u)) refl)
