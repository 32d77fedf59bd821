-- The symbols so far have that of their column added.
use Rattle.std.proofs.Common.{◌≡◌}
use Rattle.patch.specs.Patch.{patch}
use Rattle.ring.specs.Working.{column_added}
use Rattle.ring.proofs.carry.add_row.Given as goal

abbrev pub invariant-loop-i : goal.invariant-loop-i
invariant-loop-i l = l.ring ≡ patch 0 l.i (column_added l.q l.array l.at l.initial.ring) l.initial.ring
