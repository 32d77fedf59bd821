-- `field::first_refusal` gives the first check that applies.
use Rattle.std.proofs.Common.{sym, ◌∙◌}
use mathlib.Core.Path.{ap₂}
use mathlib.Core.Bool.{◌||◌}
use Rattle.refusal.proofs.Ladders.{hit, miss, miss_last}
use Rattle.field.proofs.first_refusal.Goals as goal

pub returns-then-bad_degree : goal.returns-then-bad_degree
returns-then-bad_degree c = sym (hit _ _ _ (sym c.bad_degree.ensures ∙ c.if-bad_degree.true))

pub returns-then-outside_field : goal.returns-then-outside_field
returns-then-outside_field c = sym (miss _ _ _ (sym c.bad_degree.ensures ∙ c.if-bad_degree.false)
    ∙ hit _ _ _ (ap₂ ◌||◌ (sym c.outside_field.ensures) (sym c.outside_field-2.ensures) ∙ c.if-outside_field.true))

pub returns : goal.returns
returns c = sym (miss _ _ _ (sym c.bad_degree.ensures ∙ c.if-bad_degree.false)
    ∙ miss_last _ _ (ap₂ ◌||◌ (sym c.outside_field.ensures) (sym c.outside_field-2.ensures) ∙ c.if-outside_field.false))
