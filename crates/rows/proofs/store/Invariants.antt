-- The numbers so far are stored.
use Rattle.std.proofs.Common.{length, get_or}
use Rattle.patch.proofs.Loops.{Filling}
use Rattle.rows.proofs.store.Given as goal

abbrev pub invariant-loop-i : goal.invariant-loop-i
invariant-loop-i l = Filling l.at (length l.w) (λ k. get_or l.w k 0) l.fn.s l.s l.i
