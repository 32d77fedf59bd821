-- `code_refusal` gives the first of the checks 1 to 4 and 18 that applies.
use Rattle.std.proofs.Common.{◌≡◌, ℕ, List, drop, sym, ◌∙◌}
use Rattle.refusal.specs.Refusal.{Check, first}
use Rattle.refusal.proofs.Ladders.{hit, miss, miss_last}
use Rattle.codes.specs.Code.{code_of}
use Rattle.codes.specs.Checks.{shape_checks}
use Rattle.array_checks.proofs.code_refusal.Goals.{Start, Else-outside-2, Else-outside-3}
use Rattle.array_checks.proofs.code_refusal.Goals as goal

-- that the first k checks do not apply
abbrev Rest : ℕ → List Check → Type 0
Rest k cs = first cs ≡ first (drop k cs)

-- where 1, 2 and 3 do not apply, and where 4 does not
rest3 : (c : Else-outside-2) → let s = c.args in Rest 3 (shape_checks s.most (code_of s.degree s.points.now s.lengths.now))
rest3 c = miss _ _ _ (sym c.bad_degree.ensures ∙ c.if-bad_degree.false) ∙ (miss _ _ _ (sym c.outside.ensures ∙ c.if-outside.false)
    ∙ miss _ _ _ (sym c.outside-2.ensures ∙ c.if-outside-2.false))

rest4 : (c : Else-outside-3) → let s = c.args in Rest 4 (shape_checks s.most (code_of s.degree s.points.now s.lengths.now))
rest4 c = miss _ _ _ (sym c.bad_degree.ensures ∙ c.if-bad_degree.false) ∙ (miss _ _ _ (sym c.outside.ensures ∙ c.if-outside.false)
    ∙ (miss _ _ _ (sym c.outside-2.ensures ∙ c.if-outside-2.false)
    ∙ miss _ _ _ (sym c.some_outside-outside.ensures ∙ c.if-outside-3.false)))

pub returns-then-bad_degree : goal.returns-then-bad_degree
returns-then-bad_degree c = sym (hit _ _ _ (sym c.bad_degree.ensures ∙ c.if-bad_degree.true))

pub returns-then-outside : goal.returns-then-outside
returns-then-outside c = sym (miss _ _ _ (sym c.bad_degree.ensures ∙ c.if-bad_degree.false)
    ∙ hit _ _ _ (sym c.outside.ensures ∙ c.if-outside.true))

pub returns-then-outside-2 : goal.returns-then-outside-2
returns-then-outside-2 c = sym (miss _ _ _ (sym c.bad_degree.ensures ∙ c.if-bad_degree.false)
    ∙ (miss _ _ _ (sym c.outside.ensures ∙ c.if-outside.false) ∙ hit _ _ _ (sym c.outside-2.ensures ∙ c.if-outside-2.true)))

pub returns-then-outside-3 : goal.returns-then-outside-3
returns-then-outside-3 c = sym (rest3 (goal.at.returns-then-outside-3 c).Else-outside-2
    ∙ hit _ _ _ (sym c.some_outside-outside.ensures ∙ c.if-outside-3.true))

pub returns-then-unchecked : goal.returns-then-unchecked
returns-then-unchecked c = sym (rest4 (goal.at.returns-then-unchecked c).Else-outside-3
    ∙ hit _ _ _ (sym c.is_in-unchecked.ensures ∙ c.if-unchecked.true))

pub returns : goal.returns
returns c = sym (rest4 (goal.at.returns c).Else-outside-3 ∙ miss_last _ _ (sym c.is_in-unchecked.ensures ∙ c.if-unchecked.false))
