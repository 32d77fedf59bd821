-- No entry before i stood earlier, and it is known whether entry i is one of those before j.
use Rattle.std.proofs.Common.{◌≡◌, ℕ, ◌<◌, false}
use Rattle.refusal.proofs.Repeats.{Fresh, Looked}
use Rattle.refusal.proofs.repeated.Given as goal

abbrev pub invariant-points : goal.invariant-points
invariant-points l = (l.repeated ≡ false) × ((k : ℕ) → k < l.i → Fresh l.xs k k)

abbrev pub invariant-loop-j : goal.invariant-loop-j
invariant-loop-j l = (l.repeated ≡ false) × Looked l.xs l.i l.j l.same
