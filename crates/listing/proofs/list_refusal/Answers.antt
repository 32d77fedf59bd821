-- `list_refusal` gives the first check that applies.
use Rattle.std.proofs.Common.{◌≡◌, List, [], ◌++◌, refl, sym, ◌∙◌}
use Rattle.std.proofs.lemmas.Result.{err_from_is_err_and}
use Rattle.refusal.specs.Refusal.{Check, first}
use Rattle.refusal.proofs.Ladders.{passed_on}
use Rattle.refusal.proofs.Numbers.{handed_on}
use Rattle.codes.specs.Code.{Code, code_of}
use Rattle.codes.proofs.Passed.{Counts}
use Rattle.listing.specs.Checks.{code_checks}
use Rattle.listing.proofs.Passed.{shaped}
use Rattle.listing.proofs.list_refusal.Goals.{In_ok-code_refusal}
use Rattle.listing.proofs.list_refusal.Goals as goal

-- where the checks of the code do not apply
module _ (c : In_ok-code_refusal) where
  abbrev code : Code
  code = code_of c.args.degree c.args.points.now c.args.lengths.now

  counts : Counts code
  counts = (shaped code [] c.in_ok-code_refusal.ensures).0.counts

  code_passed : (ds : List Check) → first (code_checks code ++ ds) ≡ first ds
  code_passed ds = passed_on (code_checks code) ds tt c.in_ok-code_refusal.ensures refl

pub returns-in_err-code_refusal : goal.returns-in_err-code_refusal
returns-in_err-code_refusal c s p = let e = err_from_is_err_and c.from_residual.result c.from_residual.ensures.1 in
    rw (e.1, e.2) (handed_on _ _ _ c.in_err-code_refusal.ensures)

pub lengths_refusal-requires : goal.lengths_refusal-requires
lengths_refusal-requires c = let n = counts c in (n.some_rows, n.most_rows, n.some_columns, n.most_columns)

pub returns-in_err-lengths_refusal : goal.returns-in_err-lengths_refusal
returns-in_err-lengths_refusal c s p =
    let e = err_from_is_err_and c.from_residual-in_err-lengths_refusal.result c.from_residual-in_err-lengths_refusal.ensures.1 in
    rw (e.1, e.2) (handed_on _ _ _ (c.in_err-lengths_refusal.ensures c.args.degree s p)
    ∙ sym (code_passed (goal.at.returns-in_err-lengths_refusal c).In_ok-code_refusal _))

pub contents_refusal-requires : goal.contents_refusal-requires
contents_refusal-requires c = counts (goal.at.contents_refusal-requires c).In_ok-code_refusal

pub returns : goal.returns
returns c s p = c.contents_refusal.ensures
    ∙ sym (passed_on _ _ tt (c.in_ok-lengths_refusal.ensures c.args.degree s p) refl)
    ∙ sym (code_passed (goal.at.returns c).In_ok-code_refusal _)
