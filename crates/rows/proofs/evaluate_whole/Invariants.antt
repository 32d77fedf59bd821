-- At coefficient j the values so far are in s.
use Rattle.std.proofs.Common.{◌≡◌, ◌<◌, map}
use Rattle.patch.specs.Parts.{lay}
use Rattle.rows.proofs.Evaluation.{inner}
use Rattle.rows.proofs.evaluate_whole.Given as goal

abbrev pub invariant-loop-j : goal.invariant-loop-j
invariant-loop-j l = (0 < l.j) × (l.s ≡ lay l.at (map (inner l.reducer.degree l.nodes l.us l.j) l.xs) l.initial.s)
