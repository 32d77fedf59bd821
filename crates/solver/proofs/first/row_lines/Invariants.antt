-- The lines of the rows before row j are written.
use Rattle.std.proofs.Common.{◌≡◌, ◌+◌, take}
use Rattle.solver.specs.Working.Start.{all_counts, row_line}
use Rattle.solver.proofs.Slots.{Begun}
use Rattle.solver.proofs.first.row_lines.Given as goal

abbrev pub invariant-loop-j : goal.invariant-loop-j
invariant-loop-j l = (l.at ≡ all_counts (take l.j l.counts)) × Begun (l.j + 1) (row_line l.counts) l.fn.space l.space
