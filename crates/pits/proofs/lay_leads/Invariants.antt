-- The leads so far are written.
use Rattle.std.proofs.Common.{◌+◌, ◌*◌}
use Rattle.patch.proofs.Loops.{Filling}
use Rattle.pits.proofs.lay_leads.Given as goal

abbrev pub invariant-loop-j : goal.invariant-loop-j
invariant-loop-j l = Filling l.first l.n (λ j. l.base + j * l.by) l.initial.leads l.leads l.j
