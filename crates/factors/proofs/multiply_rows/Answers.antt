-- `multiply_rows` multiplies a row after the other.
use Rattle.std.proofs.Common.{zero-add, arith}
use Rattle.std.proofs.Math.Nat.{sub-zero}
use Rattle.field.specs.Symbols.{IsSymbol}
use Rattle.codes.proofs.Parts.{all-at}
use Rattle.factors.proofs.Rows.{first_rows, row_fits, row_symbols, next_row, last_rows}
use Rattle.factors.proofs.multiply_rows.Goals as goal

pub loop-init : goal.loop-init
loop-init c = rw sub-zero (first_rows _ _ c.requires.symbols)

pub multiply-requires-clause-symbols_at : goal.multiply-requires-clause-symbols_at
multiply-requires-clause-symbols_at c = (
  λ k h. rw (zero-add k) (all-at (IsSymbol c.args.field.now.degree) c.args.factors.now k 0 h c.requires.factors),
  row_symbols _ _ c.loop.invariant c.requires.room (omega arith),
)

pub overflow_add-at : goal.overflow_add-at
overflow_add-at c = omega (arith, row_fits _ _ c.loop.invariant c.requires.room (omega arith))

pub loop-preserved : goal.loop-preserved
loop-preserved c = next_row _ _ c.loop.invariant c.requires.room (omega arith) c.multiply.ensures (omega arith)

pub returns : goal.returns
returns c = last_rows _ _ c.loop.invariant (omega arith)
