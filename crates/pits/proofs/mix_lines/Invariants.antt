-- The lines so far are mixed.
use Rattle.std.proofs.Common.{◌≡◌}
use Rattle.pits.specs.Working.Table.{lines_mixed}
use Rattle.pits.proofs.mix_lines.Given as goal

abbrev pub invariant-loop-j : goal.invariant-loop-j
invariant-loop-j l = l.slots ≡ lines_mixed l.field.degree l.ds l.p l.w l.j l.initial.slots
