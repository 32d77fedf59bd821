-- `is_in` answers its test, which recurses as `any` goes over the list.
use Rattle.std.proofs.Common.{rules, tests, eqb, refl, ◌∙◌}
use Rattle.std.proofs.lemmas.Iterator.{YieldsList-from_slice}
use Rattle.std.proofs.lemmas.Iterator.Search.{any_from_yields_List}
use Rattle.std.proofs.lemmas.List.Recursion.{same_from_clauses}
use Rattle.std.specs.List.{list_any}
use mathlib.Core.Bool.{◌||◌}
use Rattle.refusal.specs.Refusal.{is_in}
use Rattle.refusal.proofs.is_in.Goals as goal

pub returns : goal.returns
unfolding is_in
returns c =
    let a = c.args in
    any_from_yields_List (eqb a.n) _ _ _ c.any.ensures.ran (YieldsList-from_slice a.ks.now cc) (λ x b q k. search (rules, tests))
    ∙ same_from_clauses (list_any (eqb a.n)) (is_in a.n) (λ x b. eqb a.n x || b) refl (λ _ _. refl) (λ _ _. refl) a.ks.now
