-- No more bytes are zero than were looked at.
use Rattle.std.proofs.Common.{◌≤◌}
use Rattle.compared.proofs.zeros.Given as goal

abbrev pub invariant-loop-x : goal.invariant-loop-x
invariant-loop-x l = l.n ≤ l.x-index
