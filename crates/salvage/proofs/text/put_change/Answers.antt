-- `text::put_change` writes four numbers, each behind a byte.
use Rattle.std.proofs.Common.{ℕ, ◌≤◌, ◌<◌, ◌/◌, ◌%◌, ◌∷◌, length, arith}
use native.Mathlib.Nat.{div-le_self, mod-le}
use Rattle.record.specs.Lines.{decimal}
use Rattle.salvage.proofs.Lines.{short, behind, column_short}
use Rattle.salvage.proofs.text.put_change.Goals as goal

row_short : (i n : ℕ) → i < 384 → length (32 ∷ decimal (i / n)) ≤ 4
row_short i n h = column_short 32 (i / n) (omega (arith, div-le_self i n))

inner_short : (i n : ℕ) → i < 384 → length (58 ∷ decimal (i % n)) ≤ 4
inner_short i n h = column_short 58 (i % n) (omega (arith, mod-le i n))

pub put_column-end-requires : goal.put_column-end-requires
put_column-end-requires c = omega (arith, row_short c.args.i c.args.n c.requires.few)

pub put_column-end-requires-2 : goal.put_column-end-requires-2
put_column-end-requires-2 c =
    omega (arith, row_short c.args.i c.args.n c.requires.few, inner_short c.args.i c.args.n c.requires.few)

pub put_column-end-requires-3 : goal.put_column-end-requires-3
put_column-end-requires-3 c = omega (
  arith,
  row_short c.args.i c.args.n c.requires.few,
  inner_short c.args.i c.args.n c.requires.few,
  column_short 58 c.from.result (omega arith),
)

pub put_column-requires : goal.put_column-requires
put_column-requires c = omega (
  arith,
  row_short c.args.i c.args.n c.requires.few,
  inner_short c.args.i c.args.n c.requires.few,
  column_short 58 c.from.result (omega arith),
  column_short 58 c.from-2.result (omega arith),
)

pub returns : goal.returns
returns c =
    let row = short c.put_column-end.ensures (row_short c.args.i c.args.n c.requires.few) in
    let column = short c.put_column-end-2.ensures (inner_short c.args.i c.args.n c.requires.few) in
    let old = rw c.from.ensures at (short c.put_column-end-3.ensures (column_short 58 c.from.result (omega arith))) in
    let new = rw c.from-2.ensures at (short c.put_column.ensures (column_short 58 c.from-2.result (omega arith))) in
    behind (behind (behind row column (omega arith)) old (omega arith)) new (omega arith)
