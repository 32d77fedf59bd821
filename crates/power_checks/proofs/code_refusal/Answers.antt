-- `code_refusal` gives the first of the checks 1, 3, 20, 4 and 18 that applies.
use Rattle.std.proofs.Common.{◌≡◌, ℕ, List, drop, sym, ◌∙◌}
use Rattle.refusal.specs.Refusal.{Check, first}
use Rattle.refusal.proofs.Ladders.{hit, miss}
use Rattle.refusal.proofs.Laws.{within}
use Rattle.power_checks.specs.Checks.{shape_checks}
use Rattle.power_checks.proofs.Passed.{first-outside}
use Rattle.power_checks.proofs.code_refusal.Goals.{Else-outside, Else-no_powers}
use Rattle.power_checks.proofs.code_refusal.Goals as goal

-- that the first k checks do not apply
abbrev Rest : ℕ → List Check → Type 0
Rest k cs = first cs ≡ first (drop k cs)

-- where 1 and 3 do not apply, and where 20 does not
rest2 : (c : Else-outside) → let s = c.args in Rest 2 (shape_checks s.degree s.n s.k s.powers)
rest2 c = miss _ _ _ (sym c.bad_degree.ensures ∙ c.if-bad_degree.false) ∙ miss _ _ _ (sym c.outside.ensures ∙ c.if-outside.false)

rest3 : (c : Else-no_powers) → let s = c.args in Rest 3 (shape_checks s.degree s.n s.k s.powers)
rest3 c = miss _ _ _ (sym c.bad_degree.ensures ∙ c.if-bad_degree.false) ∙ (miss _ _ _ (sym c.outside.ensures ∙ c.if-outside.false)
    ∙ miss _ _ _ (sym c.outside-no_powers.ensures ∙ c.if-no_powers.false))

pub returns-then-bad_degree : goal.returns-then-bad_degree
returns-then-bad_degree c = sym (hit _ _ _ (sym c.bad_degree.ensures ∙ c.if-bad_degree.true))

pub returns-then-outside : goal.returns-then-outside
returns-then-outside c = sym (miss _ _ _ (sym c.bad_degree.ensures ∙ c.if-bad_degree.false)
    ∙ hit _ _ _ (sym c.outside.ensures ∙ c.if-outside.true))

pub returns-then-no_powers : goal.returns-then-no_powers
returns-then-no_powers c = sym (rest2 (goal.at.returns-then-no_powers c).Else-outside
    ∙ hit _ _ _ (sym c.outside-no_powers.ensures ∙ c.if-no_powers.true))

pub returns-then-no_length : goal.returns-then-no_length
returns-then-no_length c = let a = c.args in
    sym (rest3 (goal.at.returns-then-no_length c).Else-no_powers
    ∙ hit _ _ _ (first-outside a.n a.k a.powers (sym c.outside-no_length.ensures ∙ c.if-no_length.true)))

pub length_refusal-requires : goal.length_refusal-requires
length_refusal-requires c =
    let k = within 1 c.args.n c.args.k (sym c.outside-no_length.ensures ∙ c.if-no_length.false) in
    let p = within 1 4 c.args.powers (sym c.outside-no_powers.ensures ∙ c.if-no_powers.false) in
    let n = within 1 96 c.args.n (sym c.outside.ensures ∙ c.if-outside.false) in
    record { some = k.0; fits = k.1; most_columns = n.1; powers = p.0; most_powers = p.1 }

pub returns : goal.returns
returns c = c.length_refusal.ensures ∙ sym (rest3 (goal.at.returns c).Else-no_powers)
