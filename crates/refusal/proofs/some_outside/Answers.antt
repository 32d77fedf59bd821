-- `some_outside` answers its test, which recurses as `any` goes over the list.
use Rattle.std.proofs.Common.{rules, refl, ◌∙◌}
use Rattle.std.proofs.lemmas.Iterator.{YieldsList-from_slice}
use Rattle.std.proofs.lemmas.Iterator.Search.{any_from_yields_List}
use Rattle.std.proofs.lemmas.List.Recursion.{same_from_clauses}
use Rattle.std.specs.List.{list_any}
use mathlib.Core.Bool.{◌||◌}
use Rattle.refusal.specs.Refusal.{outside, some_outside}
use Rattle.refusal.proofs.some_outside.Goals as goal

pub returns : goal.returns
unfolding some_outside
returns c =
    let a = c.args in
    any_from_yields_List (outside a.lo a.hi) _ _ _ c.any.ensures.ran (YieldsList-from_slice a.ks.now cc) (λ x b q k. search rules)
    ∙ same_from_clauses (list_any (outside a.lo a.hi)) (some_outside a.lo a.hi) (λ x b. outside a.lo a.hi x || b) refl
    (λ _ _. refl) (λ _ _. refl) a.ks.now
