-- `remaining::lost_flags` flags one lost column after the other.
use Rattle.std.proofs.Common.{◌≡◌, take}
use Rattle.codes.specs.Lost.{lost_flags}
use Rattle.remaining.proofs.lost_flags.Given as goal

abbrev pub invariant-loop-l : goal.invariant-loop-l
invariant-loop-l l = l.gone ≡ lost_flags 96 (take l.l-index l.lost)
