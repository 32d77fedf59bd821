-- `scattered::decode_refusal` gives the first check that applies.
use Rattle.std.proofs.Common.{◌≡◌, ℕ, ◌*◌, List, [], ◌++◌, length, refl, sym, ap, ◌∙◌, arith}
use Rattle.std.proofs.lemmas.Result.{err_from_is_err_and}
use Rattle.refusal.specs.Refusal.{Check, first}
use Rattle.refusal.proofs.Ladders.{hit, miss_last, passed_on}
use Rattle.refusal.proofs.Numbers.{handed_on}
use Rattle.hermitian.specs.Checks.{ring_checks, received_checks}
use Rattle.hermitian.proofs.Passed.{Passed, ring_passed}
use Rattle.hermitian.proofs.Sizes.{Sides, sides}
use Rattle.scattered.proofs.decode_refusal.Goals.{In_ok-ring_refusal, After-side-n, In_ok-received_refusal}
use Rattle.scattered.proofs.decode_refusal.Goals as goal

pub returns-in_err-ring_refusal : goal.returns-in_err-ring_refusal
returns-in_err-ring_refusal c w f s p r u = let e = err_from_is_err_and c.from_residual.result c.from_residual.ensures.1 in
    rw (e.1, e.2) (handed_on (ring_checks c.args.q c.args.m) _ _ c.in_err-ring_refusal.ensures)

-- 10, 11 and 18 do not apply
passed : (c : In_ok-ring_refusal) → Passed c.args.q c.args.m
passed c = (ring_passed c.args.q c.args.m [] c.in_ok-ring_refusal.ensures).0

pub received_refusal-requires : goal.received_refusal-requires
received_refusal-requires c = (passed (goal.at.received_refusal-requires c).In_ok-ring_refusal).size

pub bad_limit-requires : goal.bad_limit-requires
bad_limit-requires c = passed (goal.at.bad_limit-requires c).In_ok-ring_refusal

pub overflow_mul-n-2 : goal.overflow_mul-n-2
overflow_mul-n-2 c =
    let counts : Sides c.args.q c.side-n.result =
    sides c.args.q c.side-n.result (passed (goal.at.overflow_mul-n-2 c).In_ok-ring_refusal).size c.side-n.ensures in
    omega (arith, counts)

module _ (c : After-side-n) (w f s : List ℕ) where
  abbrev q : ℕ
  q = c.args.q

  abbrev checks : List Check
  checks = received_checks q (q * q * q) c.args.received.now w f s

  onward : (ds : List Check) → first (ring_checks q c.args.m ++ ds) ≡ first ds
  onward ds = passed_on (ring_checks q c.args.m) ds tt c.in_ok-ring_refusal.ensures refl

  -- 5 and 7 of a flag a symbol
  answered : {k : ℕ} → k ≡ first (received_checks q (c.side-n.result * c.side-n.result * c.side-n.result) c.args.received.now w f s)
      → k ≡ first checks
  answered e = e ∙ ap (λ (n : ℕ). first (received_checks q (n * n * n) c.args.received.now w f s)) c.side-n.ensures

pub returns-in_err-received_refusal : goal.returns-in_err-received_refusal
returns-in_err-received_refusal c w f s p r u = let k = (goal.at.returns-in_err-received_refusal c).After-side-n in
    let e = err_from_is_err_and c.from_residual-in_err-received_refusal.result c.from_residual-in_err-received_refusal.ensures.1 in
    rw (e.1, e.2) (handed_on (checks k w f s) _ _ (answered k w f s (c.in_err-received_refusal.ensures w f s p r u))
    ∙ sym (onward k w f s _))

-- none of these applies either, and 19 is left
module _ (c : In_ok-received_refusal) (w f s : List ℕ) (p : length w ≡ c.args.answer) (r : length f ≡ c.args.flags)
    (u : length s ≡ c.args.space) where
  abbrev before : After-side-n
  before = (goal.at.bad_limit-requires c).After-side-n

  last : (ds : List Check) → first (ring_checks c.args.q c.args.m ++ checks before w f s ++ ds) ≡ first ds
  last ds = onward before w f s _
      ∙ passed_on (checks before w f s) ds tt (answered before w f s (c.in_ok-received_refusal.ensures w f s p r u)) refl

pub returns-then-bad_limit : goal.returns-then-bad_limit
returns-then-bad_limit c w f s p r u = sym (last (goal.at.returns-then-bad_limit c).In_ok-received_refusal w f s p r u _
    ∙ hit 19 _ _ (sym c.bad_limit.ensures ∙ c.if-bad_limit.true))

pub returns : goal.returns
returns c w f s p r u = sym (last (goal.at.returns c).In_ok-received_refusal w f s p r u _
    ∙ miss_last 19 _ (sym c.bad_limit.ensures ∙ c.if-bad_limit.false))
