-- `contents_refusal` gives the first of the checks 6, 23, 7 and 8 that applies.
use Rattle.std.proofs.Common.{◌≡◌, true, false, ℕ, ◌≤◌, ◌<◌, List, ◌++◌, nat_lt, refl, sym, ◌∙◌, arith}
use Rattle.std.proofs.lemmas.Result.{err_from_is_err_and}
use borrow.Author.Tests.{le-ltb, lt-ltb}
use Rattle.refusal.specs.Refusal.{Check, first}
use Rattle.refusal.proofs.Ladders.{hit, miss, miss_last, passed_on}
use Rattle.refusal.proofs.Numbers.{handed_on}
use Rattle.codes.specs.Code.{joint_limit}
use Rattle.codes.specs.Factors.{Description, description_of}
use Rattle.codes.specs.Checks.{column_checks}
use Rattle.listing.proofs.contents_refusal.Goals.{In_ok-columns_refusal, After-joint_limit}
use Rattle.listing.proofs.contents_refusal.Goals as goal

-- where 6 and 23 do not apply
module _ (c : In_ok-columns_refusal) where
  abbrev D : Description
  D = description_of c.args.degree c.args.points.now c.args.factors.now c.args.lengths.now

  columns_passed : (ds : List Check) → first (column_checks D ++ ds) ≡ first ds
  columns_passed ds = passed_on (column_checks D) ds tt c.in_ok-columns_refusal.ensures refl

-- where 7 does not either
module _ (c : After-joint_limit) where
  abbrev limit : ℕ
  limit = joint_limit (description_of c.args.degree c.args.points.now c.args.factors.now c.args.lengths.now).code

  above : c.joint_limit.result < c.args.limit → nat_lt limit c.args.limit ≡ true
  above h = lt-ltb limit c.args.limit (omega (arith, c.joint_limit.ensures c.args.degree))

  not_above : c.args.limit ≤ c.joint_limit.result → nat_lt limit c.args.limit ≡ false
  not_above h = le-ltb limit c.args.limit (omega (arith, c.joint_limit.ensures c.args.degree))

pub returns-in_err-columns_refusal : goal.returns-in_err-columns_refusal
returns-in_err-columns_refusal c = let e = err_from_is_err_and c.from_residual.result c.from_residual.ensures.1 in
    rw (e.1, e.2) (handed_on _ _ _ c.in_err-columns_refusal.ensures)

pub returns-then-some_outside_field : goal.returns-then-some_outside_field
returns-then-some_outside_field c = sym (columns_passed (goal.at.returns-then-some_outside_field c).In_ok-columns_refusal _
    ∙ hit _ _ _ (sym c.some_outside_field.ensures ∙ c.if-some_outside_field.true))

pub returns-then-joint_limit-limit : goal.returns-then-joint_limit-limit
returns-then-joint_limit-limit c = let at = goal.at.returns-then-joint_limit-limit c in
    sym (columns_passed at.In_ok-columns_refusal _ ∙ (miss _ _ _ (sym c.some_outside_field.ensures ∙ c.if-some_outside_field.false)
    ∙ hit _ _ _ (above at.After-joint_limit c.if-joint_limit-limit.true)))

pub returns : goal.returns
returns c = let at = goal.at.returns c in
    sym (columns_passed at.In_ok-columns_refusal _ ∙ (miss _ _ _ (sym c.some_outside_field.ensures ∙ c.if-some_outside_field.false)
    ∙ miss_last _ _ (not_above at.After-joint_limit c.if-joint_limit-limit.false)))
