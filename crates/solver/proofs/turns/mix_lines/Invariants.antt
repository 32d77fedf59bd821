-- The lines before line j are changed.
use Rattle.solver.specs.Working.Turns.{mixed}
use Rattle.solver.proofs.Slots.{Begun}
use Rattle.solver.proofs.turns.mix_lines.Given as goal

abbrev pub invariant-loop-j : goal.invariant-loop-j
invariant-loop-j l = Begun l.j (mixed l.field.degree l.ds l.p l.w l.at) l.fn.space l.space
