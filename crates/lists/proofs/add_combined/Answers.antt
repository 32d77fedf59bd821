-- `add_combined` adds the combined symbols, one after the other.
use mathlib.Core.Path.{ap₂}
use Rattle.patch.proofs.Loops.{filling, unfilled, turn}
use Rattle.field.specs.Symbols.{plus}
use Rattle.lists.proofs.add_combined.Goals as goal

pub loop-i-init : goal.loop-i-init
loop-i-init c = filling

pub loop-i-preserved : goal.loop-i-preserved
unfolding plus
loop-i-preserved c =
    let so_far = c.loop-i.invariant in
    turn so_far c.loop-i-test.true (ap₂ plus (unfilled so_far 0) c.combine.ensures)
