-- `carry_combined` adds the combined symbol behind each symbol, one after the other.
use mathlib.Core.Path.{ap₂}
use Rattle.std.proofs.Common.{ℕ, ap, get_or, ◌∙◌}
use native.Mathlib.Nat.{add_assoc}
use Rattle.patch.proofs.Loops.{filling, unfilled, turn}
use Rattle.field.specs.Symbols.{plus}
use Rattle.lists.specs.Working.Combining.{combined}
use Rattle.lists.proofs.Turns.{behind}
use Rattle.lists.proofs.carry_combined.Goals as goal

pub loop-i-init : goal.loop-i-init
loop-i-init c = filling

pub loop-i-preserved : goal.loop-i-preserved
unfolding plus
loop-i-preserved c =
    let so_far = c.loop-i.invariant in
    let next = ap (λ (x : ℕ). get_or c.loop-i.s x 0) (add_assoc c.args.at c.loop-i.i 1) in
    turn so_far c.loop-i-test.true (ap₂ plus (unfilled so_far 0) (c.combine.ensures ∙ ap (combined _) (next ∙ behind so_far)))
