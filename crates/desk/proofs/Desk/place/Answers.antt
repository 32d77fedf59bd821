-- `place` writes the symbols into the column, one row after the other.
use Rattle.std.proofs.Common.{refl}
use Rattle.desk.proofs.Columns.{writing_begin, writing-again, writing_end}
use Rattle.desk.proofs.Desk.place.Goals as goal

pub loop-l-init : goal.loop-l-init
loop-l-init c = writing_begin _ _ _

pub loop-l-preserved : goal.loop-l-preserved
loop-l-preserved c = writing-again c.loop-l.invariant _ refl c.loop-l-test.true

pub returns : goal.returns
returns c = writing_end c.loop-l.invariant c.loop-l-test.false
