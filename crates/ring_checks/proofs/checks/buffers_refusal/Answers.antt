-- `checks::buffers_refusal` gives the first of the checks 10, 11, 18, 5 and 7 that applies to a message and a word.
use Rattle.std.proofs.Common.{◌≡◌, ℕ, ◌*◌, Bool, not, ◌||◌, List, [], ◌++◌, length, nat_eq, refl, sym, ◌∙◌, arith}
use Rattle.std.proofs.lemmas.Result.{err_from_is_err_and}
use Rattle.refusal.specs.Refusal.{first}
use Rattle.refusal.proofs.Ladders.{hit, miss, miss_last, passed_on}
use Rattle.refusal.proofs.Numbers.{handed_on}
use Rattle.codes.specs.Code.{total}
use Rattle.codes.specs.Checks.{wrong_length}
use Rattle.hermitian.specs.Ring.{ring_lengths}
use Rattle.hermitian.specs.Checks.{ring_checks, buffer_checks}
use Rattle.hermitian.proofs.Passed.{Passed, ring_passed}
use Rattle.hermitian.proofs.Sizes.{Sides, sides}
use Rattle.ring_checks.proofs.checks.buffers_refusal.Goals.{In_ok-ring_refusal, After-total}
use Rattle.ring_checks.proofs.checks.buffers_refusal.Goals as goal

pub returns-in_err-ring_refusal : goal.returns-in_err-ring_refusal
returns-in_err-ring_refusal c f w p r = let e = err_from_is_err_and c.from_residual.result c.from_residual.ensures.1 in
    rw (e.1, e.2) (handed_on (ring_checks c.args.q c.args.m) _ _ c.in_err-ring_refusal.ensures)

-- 10, 11 and 18 do not apply
passed : (c : In_ok-ring_refusal) → Passed c.args.q c.args.m
passed c = (ring_passed c.args.q c.args.m [] c.in_ok-ring_refusal.ensures).0

pub total-requires : goal.total-requires
total-requires c = passed (goal.at.total-requires c).In_ok-ring_refusal

counts : (c : After-total) → Sides c.args.q c.side-n.result
counts c = sides c.args.q c.side-n.result (passed (goal.at.overflow_mul-n-2 c).In_ok-ring_refusal).size c.side-n.ensures

pub overflow_mul-n-2 : goal.overflow_mul-n-2
overflow_mul-n-2 c = omega (arith, counts c)

-- the test of number 5 reads lengths alone; n is q as a count, and k the sum of the message lengths
fifth : (q m n k : ℕ) → n ≡ q → k ≡ total (ring_lengths q m) → (f w : List ℕ) {message word : ℕ} {b : Bool}
    → length f ≡ message → length w ≡ word → (not (nat_eq message k) || not (nat_eq word (n * n * n))) ≡ b
    → (wrong_length (total (ring_lengths q m)) f || wrong_length (q * q * q) w) ≡ b
fifth q m n k e sum f w p r h = rw (p, r, ← sum, ← e) h

module _ (c : After-total) (f w : List ℕ) (p : length f ≡ c.args.message) (r : length w ≡ c.args.word) where
  abbrev n : ℕ
  n = c.side-n.result

  onward : first (ring_checks c.args.q c.args.m ++ buffer_checks c.args.q c.args.m f w c.args.symbols.now)
      ≡ first (buffer_checks c.args.q c.args.m f w c.args.symbols.now)
  onward = passed_on (ring_checks c.args.q c.args.m) _ tt c.in_ok-ring_refusal.ensures refl

  is_fifth : {b : Bool} → (not (nat_eq c.args.message c.total.result) || not (nat_eq c.args.word (n * n * n))) ≡ b
      → (wrong_length (total (ring_lengths c.args.q c.args.m)) f || wrong_length (c.args.q * c.args.q * c.args.q) w) ≡ b
  is_fifth = fifth c.args.q c.args.m n c.total.result c.side-n.ensures c.total.ensures f w p r

pub returns-then-message-total : goal.returns-then-message-total
returns-then-message-total c f w p r = let k = (goal.at.returns-then-message-total c).After-total in
    sym (onward k f w p r ∙ hit _ _ _ (is_fifth k f w p r c.if-message-total.true))

pub returns-then-some_outside_field : goal.returns-then-some_outside_field
returns-then-some_outside_field c f w p r = let k = (goal.at.returns-then-some_outside_field c).After-total in
    sym (onward k f w p r ∙ (miss _ _ _ (is_fifth k f w p r c.if-message-total.false)
    ∙ hit _ _ _ (sym c.some_outside_field.ensures ∙ c.if-some_outside_field.true)))

pub returns : goal.returns
returns c f w p r = let k = (goal.at.returns c).After-total in
    sym (onward k f w p r ∙ (miss _ _ _ (is_fifth k f w p r c.if-message-total.false)
    ∙ miss_last _ _ (sym c.some_outside_field.ensures ∙ c.if-some_outside_field.false)))
