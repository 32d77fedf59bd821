-- `lengths` are the message lengths of the powers 1 to s.
use Rattle.std.proofs.Common.{add-one, zero-add, ap, ◌∙◌, arith}
use Rattle.patch.proofs.Loops.{filling, turn, filled}
use Rattle.power_checks.specs.Powers.{power_length}
use Rattle.power_checks.proofs.Sizes.{lengths_written}
use Rattle.power_checks.proofs.lengths.Goals as goal

pub loop-i-init : goal.loop-i-init
loop-i-init c = filling

pub loop-i-preserved : goal.loop-i-preserved
loop-i-preserved c =
    rw zero-add at (turn c.loop-i.invariant c.loop-i-test.true (c.length.ensures ∙ ap (power_length c.args.k) (add-one c.loop-i.i)))

pub returns : goal.returns
returns c = lengths_written c.args.k c.args.powers _ (filled c.loop-i.invariant (omega arith)) (omega (arith, c.requires.countable.powers))
