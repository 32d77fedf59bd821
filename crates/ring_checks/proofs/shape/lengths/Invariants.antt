-- The lengths of the rows so far are written.
use Rattle.std.proofs.Common.{◌≡◌}
use Rattle.patch.specs.Patch.{patch}
use Rattle.hermitian.specs.Ring.{ring_length}
use Rattle.ring_checks.proofs.shape.lengths.Given as goal

abbrev pub invariant-loop-j : goal.invariant-loop-j
invariant-loop-j l = l.ks ≡ patch 0 l.j (ring_length l.q l.m) l.initial.ks
