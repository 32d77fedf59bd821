-- The lines lead from condition i on to what they led to at first.
use Rattle.std.proofs.Common.{◌≡◌, length}
use Rattle.solver.proofs.Ran.{Left}
use Rattle.solver.proofs.run.Given as goal

abbrev pub invariant-loop-i : goal.invariant-loop-i
invariant-loop-i l = (length l.w ≡ 784) × Left l.field.degree l.points l.lines l.fn.leads l.fn.space l.i l.leads l.space
