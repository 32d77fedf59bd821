-- A turn that reads on is followed by one that goes on by a byte at least, and the offsets end.
use Rattle.std.proofs.Common.{◌≡◌, ◌+◌, ◌-◌, ◌*◌, ◌^◌, ◌≤◌, length}
use Rattle.salvages.proofs.Moving.{due}
use Rattle.salvages.proofs.main.Given as goal

abbrev pub invariant-loop-at : goal.invariant-loop-at
invariant-loop-at l = (length l.held ≡ 4096) × (l.from ≤ l.got) × (l.got ≤ 4096) × (l.start ≤ l.at)

abbrev pub decreases-loop-at : goal.decreases-loop-at
decreases-loop-at l = 2 * (2 ^ 64 - l.at) + due l.from l.got
