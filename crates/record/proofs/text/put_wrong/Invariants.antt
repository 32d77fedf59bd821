-- `text::put_wrong` writes the columns whose flag is not 0, one after the other.
use Rattle.record.proofs.Fields.{Wrong}
use Rattle.record.proofs.text.put_wrong.Given as goal

abbrev pub invariant-loop-column : goal.invariant-loop-column
invariant-loop-column l = Wrong l.fn.out l.at l.flags l.out l.end l.gap l.column
