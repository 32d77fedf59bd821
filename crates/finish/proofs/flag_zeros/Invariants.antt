-- What is flagged and the flags of the rest make up the whole.
use Rattle.std.proofs.Common.{◌≡◌, ◌+◌, ◌≤◌, drop}
use Rattle.patch.specs.Parts.{lay}
use Rattle.codes.specs.Code.{total}
use Rattle.finish.specs.Working.{zeros_in}
use Rattle.finish.proofs.flag_zeros.Given as goal

abbrev pub invariant-loop-i : goal.invariant-loop-i
invariant-loop-i l =
    (l.count ≤ l.i) × (l.count + total (zeros_in (drop l.i l.values)) ≡ total (zeros_in l.values))
    × (lay l.i (zeros_in (drop l.i l.values)) l.flags ≡ lay 0 (zeros_in l.values) l.fn.flags)
