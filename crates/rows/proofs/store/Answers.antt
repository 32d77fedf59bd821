-- `store` stores the row, one number after the other.
use Rattle.std.proofs.Common.{refl}
use Rattle.patch.specs.Parts.{lay}
use Rattle.patch.proofs.Loops.{filling, turn, filled}
use Rattle.rows.proofs.store.Goals as goal

pub loop-i-init : goal.loop-i-init
loop-i-init c = filling

pub loop-i-preserved : goal.loop-i-preserved
loop-i-preserved c = turn c.loop-i.invariant c.loop-i-test.true refl

pub returns : goal.returns
unfolding lay
returns c = filled c.loop-i.invariant c.loop-i-test.false
