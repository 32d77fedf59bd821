-- j rounds are done.
use Rattle.rows.proofs.Sharing.{Shared}
use Rattle.rows.proofs.lent.reduce.Given as goal

abbrev pub invariant-loop-j : goal.invariant-loop-j
invariant-loop-j l = Shared l.field.degree l.points l.fn.s l.j l.s
