-- The flags of 1 before this one are counted, and those of the rest are still to be.
use Rattle.std.proofs.Common.{◌≡◌, ◌≤◌, ◌+◌, drop}
use Rattle.report.specs.Report.{wrong_flags}
use Rattle.report.proofs.counts.wrong_flags.Given as goal

abbrev pub invariant-loop-f : goal.invariant-loop-f
invariant-loop-f l = (l.sum ≤ l.f-index) × (l.sum + wrong_flags (drop l.f-index l.flags) ≡ wrong_flags l.flags)
