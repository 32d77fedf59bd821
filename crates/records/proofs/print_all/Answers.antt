-- Each line is the next of the input's.
use Rattle.std.proofs.Common.{rules, subst}
use Rattle.records.specs.Printing.{Answered}
use Rattle.records.proofs.Printing.{at_next}
use Rattle.records.proofs.print_all.Goals as goal

pub loop-number-preserved : goal.loop-number-preserved
loop-number-preserved g c =
    let number = c.loop-number.number in (
      search rules,
      at_next number _ _ _ _ _ _ c.loop-number.invariant.1 (subst (Answered number _ _ _ _) c.if-not-branch.false c.in_ok-next_line.ensures.answered),
    )
