-- The symbols of the rows before l are in the column.
use Rattle.desk.proofs.Columns.{Writing}
use Rattle.desk.proofs.Desk.place.Given as goal

abbrev pub invariant-loop-l : goal.invariant-loop-l
invariant-loop-l l = Writing l.fn.self l.column l.symbol-items l.self l.l
