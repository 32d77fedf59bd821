-- What the lines that are left give decides.
use Rattle.std.proofs.Common.{◌≡◌, ◌<◌, IfSome}
use Rattle.solver.specs.Working.Scan.{found, first_lowest}
use Rattle.solver.proofs.Scanned.{rest}
use Rattle.solver.proofs.scan.pivot.Given as goal

abbrev pub invariant-loop-j : goal.invariant-loop-j
invariant-loop-j l = IfSome l.best (λ r. r < l.j) × (rest l.marks l.leads l.lines (found l.best) l.j ≡ first_lowest l.marks l.leads l.lines)
