-- The combined symbols behind those so far are added.
use Rattle.patch.proofs.Loops.{Filling}
use Rattle.lists.specs.Working.Combining.{carried_by}
use Rattle.lists.proofs.carry_combined.Given as goal

abbrev pub invariant-loop-i : goal.invariant-loop-i
invariant-loop-i l = Filling l.at l.n (carried_by l.r l.fn.s l.at) l.fn.s l.s l.i
