-- The records so far are the input's, and their lines are written.
use Rattle.std.proofs.Common.{◌≡◌, length}
use Rattle.records.specs.Printing.{At}
use Rattle.records.proofs.print_all.Given as goal

abbrev pub invariant-loop-number : goal.invariant-loop-number
invariant-loop-number g l =
    (length l.held ≡ 490)
    × At l.number (g.R.Read.remaining l.initial.input) (g.R.Read.remaining l.input)
    (g.W.Write.contents l.initial.out) (g.W.Write.contents l.out)
