-- Whether a flag is above 2 is known of those before this one, and the rest are still to be looked at.
use Rattle.std.proofs.Common.{◌≡◌, drop}
use mathlib.Core.Bool.{◌||◌}
use Rattle.refusal.specs.Refusal.{some_outside}
use Rattle.report.proofs.counts.some_above.Given as goal

abbrev pub invariant-loop-f : goal.invariant-loop-f
invariant-loop-f l = (l.above || some_outside 0 2 (drop l.f-index l.flags)) ≡ some_outside 0 2 l.flags
