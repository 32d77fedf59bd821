-- No more bytes are held than are wanted, and they are the input's next ones. Each turn but the last reads a byte at least.
use Rattle.std.proofs.Common.{◌≡◌, ◌-◌, length, take}
use Rattle.std.specs.Io.KnownBytes.{Consumes}
use Rattle.records.specs.Held.{Held}
use Rattle.records.proofs.next_record.Given as goal

abbrev pub invariant-loop-got : goal.invariant-loop-got
invariant-loop-got g l =
    (length l.held ≡ length l.initial.held) × Held l.held l.got
    × Consumes (g.R.Read.remaining l.initial.input) (g.R.Read.remaining l.input) (take l.got l.held)

abbrev pub decreases-loop-got : goal.decreases-loop-got
decreases-loop-got g l = 490 - l.got
