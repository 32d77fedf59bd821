-- `raise` writes a power after the other, each the one before times the row.
use Rattle.powers.proofs.Raising.{Raised}
use Rattle.powers.proofs.raise.Given as goal

abbrev pub invariant-loop : goal.invariant-loop
invariant-loop l = Raised l.field.degree l.powers l.row l.fn.rows l.rows l.power l.at l.counter
