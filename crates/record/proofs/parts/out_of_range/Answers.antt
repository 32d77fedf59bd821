-- `parts::out_of_range` tests the two counts.
use Rattle.std.proofs.Common.{sym, ap, ◌∙◌}
use Rattle.refusal.specs.Refusal.{outside}
use Rattle.record.proofs.Heads.{rows_out, rows_in_lem}
use Rattle.record.proofs.parts.out_of_range.Goals as goal

pub returns-then-outside : goal.returns-then-outside
returns-then-outside c = c.if-outside.true ∙ sym (rows_out _ (sym (c.outside.ensures ∙ ap (outside 1 4) c.from.ensures) ∙ c.if-outside.true))

pub returns-else-outside : goal.returns-else-outside
returns-else-outside c = c.outside-else-outside.ensures ∙ ap (outside 1 96) c.from-else-outside.ensures
    ∙ sym (rows_in_lem _ (sym (c.outside.ensures ∙ ap (outside 1 4) c.from.ensures) ∙ c.if-outside.false))
