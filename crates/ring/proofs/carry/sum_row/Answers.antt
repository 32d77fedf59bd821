-- There are as many sectors as the square of n, which is q.
use Rattle.std.proofs.Common.{◌<◌, ◌*◌, arith}
use Rattle.patch.proofs.Loops.{filling, turn}
use Rattle.ring.proofs.carry.sum_row.Goals as goal

pub loop-x-init : goal.loop-x-init
loop-x-init c = filling

pub loop-x-preserved : goal.loop-x-preserved
loop-x-preserved c =
    let below : c.loop-x.x < c.args.q * c.args.q = grind arith in
    turn c.loop-x.invariant below c.sector_sum.ensures
