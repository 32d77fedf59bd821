-- `packed` is 256 times the ending's code, and its detail.
use Rattle.std.proofs.Common.{arith}
use Rattle.refusal.specs.Meaning.{packed}
use Rattle.ending.proofs.Ending.packed.Goals as goal

pub returns-in-Refused : goal.returns-in-Refused
unfolding packed
returns-in-Refused c = rw c.in-Refused.is (omega (arith, c.from.ensures, c.number.ensures))

pub returns-in-Corrected : goal.returns-in-Corrected
unfolding packed
returns-in-Corrected c = rw c.in-Corrected.is (omega (arith, c.from-in-Corrected.ensures))

pub returns-in-Nothing : goal.returns-in-Nothing
unfolding packed
returns-in-Nothing c = rw c.in-Nothing.is

pub returns-in-Several : goal.returns-in-Several
unfolding packed
returns-in-Several c = rw c.in-Several.is (omega (arith, c.from-in-Several.ensures))

pub returns-in-Hollow : goal.returns-in-Hollow
unfolding packed
returns-in-Hollow c = rw c.in-Hollow.is (omega (arith, c.from-in-Hollow.ensures))
