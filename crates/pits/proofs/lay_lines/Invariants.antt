-- The lines so far are laid, and w is the line that comes next.
use Rattle.std.proofs.Common.{◌≡◌}
use Rattle.pits.specs.Working.Rings.{grown, lines_laid}
use Rattle.pits.proofs.lay_lines.Given as goal

abbrev pub invariant-loop-j : goal.invariant-loop-j
invariant-loop-j l = record {
  next : l.w ≡ grown l.field.degree l.ys l.initial.w l.j;
  laid : l.slots ≡ lines_laid l.field.degree l.ys l.initial.w l.first l.j l.initial.slots;
}
