-- `firmware::number` is 256, or the number of the refusal.
use Rattle.std.proofs.Common.{arith}
use Rattle.refusal.specs.Meaning.{packed}
use Rattle.firmware.proofs.number.Goals as goal

pub returns-in-Ok : goal.returns-in-Ok
unfolding packed
returns-in-Ok c = rw c.in-Ok.is (omega arith)

pub returns-in-Err : goal.returns-in-Err
unfolding packed
returns-in-Err c = rw c.in-Err.is (omega (arith, c.from.ensures, c.number.ensures))
