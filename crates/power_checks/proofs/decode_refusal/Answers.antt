-- `decode_refusal` gives the first check that applies.
use Rattle.std.proofs.Common.{◌≡◌, ℕ, List, [], ◌∷◌, ◌++◌, length, refl, sym, ap, ◌∙◌}
use Rattle.std.proofs.lemmas.Result.{err_from_is_err_and}
use Rattle.refusal.specs.Refusal.{Check, first}
use Rattle.refusal.proofs.Ladders.{passed_on}
use Rattle.refusal.proofs.Numbers.{handed_on}
use Rattle.codes.specs.Code.{Code, code_of}
use Rattle.codes.specs.Checks.{remaining_checks}
use Rattle.codes.proofs.Passed.{Counts}
use Rattle.codes.proofs.Proper.{lengths_test}
use Rattle.codes.proofs.Lost.{none_limit}
use Rattle.power_checks.specs.Powers.{power_lengths, power_code}
use Rattle.power_checks.specs.Checks.{shape_checks}
use Rattle.power_checks.proofs.Sizes.{length_powers, front_room}
use Rattle.power_checks.proofs.Passed.{Sized, sized, power_counts, short_of}
use Rattle.power_checks.proofs.decode_refusal.Goals.{In_ok-code_refusal}
use Rattle.power_checks.proofs.decode_refusal.Goals as goal

-- where the checks of the code do not apply
module _ (c : In_ok-code_refusal) where
  sizes : Sized c.args.degree (length c.args.points.now) c.args.k c.args.powers
  sizes = (sized c.args.degree (length c.args.points.now) c.args.k c.args.powers [] c.in_ok-code_refusal.ensures).0

  code_passed : (ds : List Check) → first (shape_checks c.args.degree (length c.args.points.now) c.args.k c.args.powers ++ ds) ≡ first ds
  code_passed ds = passed_on (shape_checks c.args.degree (length c.args.points.now) c.args.k c.args.powers) ds tt
      c.in_ok-code_refusal.ensures refl

  abbrev code : Code
  code = power_code c.args.degree c.args.points.now c.args.k c.args.powers

  counts : Counts code
  counts = power_counts c.args.points.now sizes

pub returns-in_err-code_refusal : goal.returns-in_err-code_refusal
returns-in_err-code_refusal c a f w p q h =
    let e = err_from_is_err_and c.from_residual.result c.from_residual.ensures.1 in
    rw (e.1, e.2) (handed_on _ _ _ c.in_err-code_refusal.ensures)

pub received_refusal-requires : goal.received_refusal-requires
received_refusal-requires c = (sizes c).degree

pub returns-in_err-received_refusal : goal.returns-in_err-received_refusal
returns-in_err-received_refusal c a f w p q h =
    let e = err_from_is_err_and c.from_residual-in_err-received_refusal.result c.from_residual-in_err-received_refusal.ensures.1 in
    rw (e.1, e.2) (handed_on _ _ _ (c.in_err-received_refusal.ensures (c.args.k ∷ []) a f w p q h)
    ∙ sym (code_passed (goal.at.returns-in_err-received_refusal c).In_ok-code_refusal _))

pub lengths-ks-requires : goal.lengths-ks-requires
lengths-ks-requires c = short_of (sizes (goal.at.lengths-ks-requires c).In_ok-code_refusal)

pub slice_bounds-ks-end : goal.slice_bounds-ks-end
slice_bounds-ks-end c = front_room c.args.powers c.lengths-ks.result c.lengths-ks.ensures (length_powers c.args.k 1 c.args.powers)

pub slice_bounds-remaining_refusal-end : goal.slice_bounds-remaining_refusal-end
slice_bounds-remaining_refusal-end c = sym (ap length c.lengths-ks.ensures ∙ length_powers c.args.k 1 c.args.powers)

pub remaining_refusal-requires-clause-in_bounds : goal.remaining_refusal-requires-clause-in_bounds
remaining_refusal-requires-clause-in_bounds c =
    let n = counts (goal.at.remaining_refusal-requires-clause-in_bounds c).In_ok-code_refusal in (n.some_columns, n.most_columns)

pub remaining_refusal-requires-clause-lengths_value : goal.remaining_refusal-requires-clause-lengths_value
remaining_refusal-requires-clause-lengths_value c =
    let n = counts (goal.at.remaining_refusal-requires-clause-lengths_value c).In_ok-code_refusal in
    rw c.lengths-ks.ensures ((lengths_test 1 (length c.args.points.now) (power_lengths c.args.k c.args.powers)).1 n.lengths)

pub returns : goal.returns
returns c a f w p q h =
    let k = (goal.at.returns c).In_ok-code_refusal in
    c.remaining_refusal.ensures c.args.degree
    ∙ ap (λ (ks : List ℕ). first (remaining_checks (code_of c.args.degree c.args.points.now ks) c.args.limit [])) c.lengths-ks.ensures
    ∙ none_limit (code k) c.args.limit (counts k).lengths
    ∙ sym (passed_on _ _ tt (c.in_ok-received_refusal.ensures (c.args.k ∷ []) a f w p q h) refl)
    ∙ sym (code_passed k _)
