-- The inverses of j rounds are in ws.
use Rattle.rows.specs.Working.Rows.{Inverses}
use Rattle.rows.proofs.lent.all_inverses.Given as goal

abbrev pub invariant-loop-j : goal.invariant-loop-j
invariant-loop-j l = Inverses l.field.degree l.points l.j l.ws
