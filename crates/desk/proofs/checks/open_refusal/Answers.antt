-- `checks::open_refusal` gives the first check of opening that applies.
use Rattle.std.proofs.Common.{◌≡◌, List, length, drop, refl, sym, ap, not, ◌∙◌}
use Rattle.std.proofs.lemmas.Result.{err_from_is_err_and}
use borrow.Author.Tests.{ne_eqb}
use Rattle.refusal.specs.Refusal.{Check, first}
use Rattle.refusal.proofs.Ladders.{hit, miss, clear, passed_on}
use Rattle.refusal.proofs.Numbers.{handed_on}
use Rattle.codes.specs.Factors.{description_of}
use Rattle.codes.proofs.Passed.{is_right}
use Rattle.desk.specs.Desk.{open_checks}
use Rattle.desk.proofs.checks.open_refusal.Goals.{In_ok-code_refusal}
use Rattle.desk.proofs.checks.open_refusal.Goals as goal

pub returns-in_err-code_refusal : goal.returns-in_err-code_refusal
returns-in_err-code_refusal c = let e = err_from_is_err_and c.from_residual.result c.from_residual.ensures.1 in
    rw (e.1, e.2) (handed_on _ _ _ c.in_err-code_refusal.ensures)

-- where the checks 1 to 4 and 18 do not apply
module _ (c : In_ok-code_refusal) where
  abbrev checks : List Check
  checks = open_checks (description_of c.args.degree c.args.points.now c.args.factors.now c.args.lengths.now)

  -- so that 5 is the first that is left
  counted : first checks ≡ first (drop 5 checks)
  counted = passed_on _ (drop 5 checks) tt c.in_ok-code_refusal.ensures refl

pub returns-then-factors-points : goal.returns-then-factors-points
returns-then-factors-points c = sym (counted (goal.at.returns-then-factors-points c).In_ok-code_refusal
    ∙ hit _ _ _ (ap not (ne_eqb _ _ c.if-factors-points.true)))

pub columns_refusal-requires : goal.columns_refusal-requires
columns_refusal-requires c = (clear 0 _ _ c.in_ok-code_refusal.ensures).0

pub returns : goal.returns
returns c = c.columns_refusal.ensures ∙ sym (counted (goal.at.returns c).In_ok-code_refusal
    ∙ miss 5 _ _ (is_right (length c.args.points.now) c.args.factors.now c.if-factors-points.false))
