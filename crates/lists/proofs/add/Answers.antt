-- `add` adds the symbols, one after the other.
use Rattle.std.proofs.Common.{ℕ, get_or, ap}
use Rattle.patch.proofs.Loops.{filling, unfilled, turn}
use Rattle.field.specs.Symbols.{plus}
use Rattle.lists.specs.Working.Lists.{summed}
use Rattle.lists.proofs.add.Goals as goal

pub loop-i-init : goal.loop-i-init
loop-i-init c = filling

pub loop-i-preserved : goal.loop-i-preserved
unfolding plus summed
loop-i-preserved c =
    let so_far = c.loop-i.invariant in
    turn so_far c.loop-i-test.true (ap (λ (x : ℕ). plus x (get_or c.args.w.now c.loop-i.i 0)) (unfilled so_far 0))
