-- A turn writes one x more.
use Rattle.patch.proofs.Loops.{filling, turn}
use Rattle.pits.proofs.abscissas.Goals as goal

pub loop-i-init : goal.loop-i-init
loop-i-init c = filling

pub loop-i-preserved : goal.loop-i-preserved
loop-i-preserved c = turn c.loop-i.invariant c.loop-i-test.true c.abscissa.ensures
