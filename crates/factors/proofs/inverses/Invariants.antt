-- `inverses` takes the inverses, one after the other.
use Rattle.std.proofs.Common.{length, get_or}
use Rattle.patch.proofs.Loops.{Filling}
use Rattle.field.specs.Symbols.{over}
use Rattle.factors.proofs.inverses.Given as goal

abbrev pub invariant-loop-i : goal.invariant-loop-i
invariant-loop-i l = Filling 0 (length l.factors) (λ k. over l.field.degree 1 (get_or l.factors k 0)) l.fn.w l.w l.i
