-- The flags before i are counted, each in its place.
use Rattle.patch.proofs.Loops.{Filling}
use Rattle.report.specs.Working.{flagged}
use Rattle.std.proofs.Common.{length}
use Rattle.report.proofs.counts.with_flags.Given as goal

abbrev pub invariant-loop-i : goal.invariant-loop-i
invariant-loop-i l = Filling 0 (length l.flags) (flagged l.fn.each l.flags) l.fn.each l.each l.i
