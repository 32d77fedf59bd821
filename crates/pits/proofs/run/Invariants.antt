-- The steps so far are taken.
use Rattle.std.proofs.Common.{◌≡◌}
use Rattle.pits.specs.Working.Table.{ran}
use Rattle.pits.proofs.run.Given as goal

abbrev pub invariant-loop-i : goal.invariant-loop-i
invariant-loop-i l = (l.leads, l.slots) ≡ ran l.field.degree l.xs l.lines l.used l.i (l.initial.leads, l.initial.slots)
