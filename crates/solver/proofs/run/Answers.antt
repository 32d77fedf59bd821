-- `run` takes the steps, one after the other.
use Rattle.std.proofs.Common.{◌∙◌, arith}
use Rattle.solver.proofs.Ran.{left_turn, left_none}
use Rattle.solver.proofs.Raising.{padded}
use Rattle.solver.proofs.run.Goals as goal

pub step-requires-clause-points : goal.step-requires-clause-points
step-requires-clause-points c = (c.requires.points, padded _ (omega arith) c.store.ensures)

pub loop-i-preserved : goal.loop-i-preserved
loop-i-preserved c =
    let (w, left) = c.loop-i.invariant in
    (c.step.auto.w ∙ w, left_turn _ _ _ _ _ _ _ _ _ _ c.loop-i-test.true left c.step.ensures)

pub returns : goal.returns
returns c = left_none _ _ _ _ _ _ _ _ (omega arith) c.loop-i.invariant.1
