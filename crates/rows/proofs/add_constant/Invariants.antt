-- c was added to the symbols so far, and the others stay.
use Rattle.std.proofs.Common.{get_or}
use Rattle.patch.proofs.Loops.{Filling}
use Rattle.field.specs.Symbols.{plus}
use Rattle.rows.proofs.add_constant.Given as goal

abbrev pub invariant-loop-x : goal.invariant-loop-x
invariant-loop-x l = Filling 0 l.n (λ k. plus (get_or l.initial.x-items k 0) l.c) l.initial.x-items l.x-items l.x-index
