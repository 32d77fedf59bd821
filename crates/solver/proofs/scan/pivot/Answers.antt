-- `pivot` scans the lines, one after the other.
use Rattle.std.proofs.Common.{◌∙◌, sym, arith, rules}
use Rattle.solver.proofs.Scanned.{rest_all, rest_turn, rest_none}
use Rattle.solver.proofs.scan.pivot.Goals as goal

pub loop-j-init : goal.loop-j-init
loop-j-init c = (tt, rest_all _ _ _)

pub loop-j-preserved : goal.loop-j-preserved
loop-j-preserved c =
    (search rules, rest_turn _ _ _ _ _ _ c.loop-j-test.true c.better-best.ensures.0 ∙ c.loop-j.invariant.1)

pub returns : goal.returns
returns c = (sym (rest_none _ _ _ _ _ (omega arith)) ∙ c.loop-j.invariant.1, search rules)
