-- The values of the lines before line j are read.
use Rattle.std.proofs.Common.{◌≡◌, ◌+◌, ◌*◌, get_or}
use Rattle.patch.specs.Patch.{patch}
use Rattle.solver.proofs.turns.heads.Given as goal

abbrev pub invariant-loop-j : goal.invariant-loop-j
invariant-loop-j l = l.ds ≡ patch 0 l.j (λ k. get_or l.slots (l.stride * k + l.i) 0) l.initial.ds
