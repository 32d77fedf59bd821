-- `field::divisor_refusal` gives check 25 where it applies.
use Rattle.std.proofs.Common.{sym}
use borrow.Author.Tests.{eq-eqb, ne_eqb}
use Rattle.refusal.proofs.Ladders.{hit, miss_last}
use Rattle.field.proofs.divisor_refusal.Goals as goal

pub returns-then-b-eq0 : goal.returns-then-b-eq0
returns-then-b-eq0 c = sym (hit _ _ _ (eq-eqb _ 0 c.if-b-eq0.true))

pub returns : goal.returns
returns c = sym (miss_last _ _ (ne_eqb _ 0 c.if-b-eq0.false))
