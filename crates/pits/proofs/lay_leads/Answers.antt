-- A turn writes one lead more.
use Rattle.std.proofs.Common.{refl}
use Rattle.patch.proofs.Loops.{filling, turn}
use Rattle.pits.proofs.lay_leads.Goals as goal

pub loop-j-init : goal.loop-j-init
loop-j-init c = filling

pub loop-j-preserved : goal.loop-j-preserved
loop-j-preserved c = turn c.loop-j.invariant c.loop-j-test.true refl
