-- The x of the points so far are written.
use Rattle.std.proofs.Common.{◌/◌}
use Rattle.patch.proofs.Loops.{Filling}
use Rattle.pits.proofs.abscissas.Given as goal

abbrev pub invariant-loop-i : goal.invariant-loop-i
invariant-loop-i l = Filling l.at l.n (λ i. i / l.q) l.initial.xs l.xs l.i
