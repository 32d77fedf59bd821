-- `array_refusal` gives the first of the checks 1 to 7 of decoding that applies.
use Rattle.std.proofs.Common.{ℕ, refl, sym, ap, ◌∙◌}
use Rattle.std.proofs.lemmas.Result.{err_from_is_err_and}
use Rattle.refusal.specs.Refusal.{first}
use Rattle.refusal.proofs.Ladders.{passed_on}
use Rattle.refusal.proofs.Numbers.{handed_on}
use Rattle.codes.specs.Factors.{Description, description_of}
use Rattle.codes.specs.Checks.{received_checks, code_checks}
use Rattle.codes.proofs.Passed.{Counts, counts_of}
use Rattle.array_checks.proofs.Sizes.{sizes_of}
use Rattle.array_checks.proofs.array_refusal.Goals.{Start, In_ok-code_refusal}
use Rattle.array_checks.proofs.array_refusal.Goals as goal

abbrev described : Start → Description
described s = description_of s.args.degree s.args.points.now s.args.factors.now s.args.lengths.now

counts : (c : In_ok-code_refusal) → Counts (described (goal.at.cells-requires c).Start).code
counts c = counts_of (described (goal.at.cells-requires c).Start).code c.in_ok-code_refusal.ensures refl

pub returns-in_err-code_refusal : goal.returns-in_err-code_refusal
returns-in_err-code_refusal c a f w p q s = let e = err_from_is_err_and c.from_residual.result c.from_residual.ensures.1 in
    rw (e.1, e.2) (handed_on _ _ _ c.in_err-code_refusal.ensures)

pub cells-requires : goal.cells-requires
cells-requires c = sizes_of (counts c)

pub lent_refusal-requires-clause-degree_value : goal.lent_refusal-requires-clause-degree_value
lent_refusal-requires-clause-degree_value c = (counts (goal.at.lent_refusal-requires-clause-degree_value c).In_ok-code_refusal).degree

pub returns : goal.returns
returns c a f w p q s = let D = described (goal.at.returns c).Start in
    c.lent_refusal.ensures D.code.lengths a f w p q s
    ∙ ap (λ (n : ℕ). first (received_checks n D c.args.received.now a f w)) c.cells.ensures
    ∙ sym (passed_on (code_checks D.code) _ tt c.in_ok-code_refusal.ensures refl)
