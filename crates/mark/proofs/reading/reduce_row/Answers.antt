-- `reading::reduce_row` reduces a copy of the row, and what stands behind the first k is zero or not.
use Rattle.std.proofs.Common.{arith}
use Rattle.rows.proofs.Symbols.{symbols_over}
use Rattle.rows.proofs.Reduced.{held_front, reduced_rest}
use Rattle.mark.proofs.reading.reduce_row.Goals as goal

pub reduce-requires-clause-symbols_at : goal.reduce-requires-clause-symbols_at
reduce-requires-clause-symbols_at c =
    let p = c.requires in
    let few = p.room in
    let same = p.row.count in (
      symbols_over c.args.field.now.degree c.args.row.now c.args.s.now c.store.ensures (omega arith) few p.row.symbols p.symbols,
      p.row.inverses,
    )

pub returns : goal.returns
returns c =
    let a = c.args in
    let d = a.field.now.degree in
    let p = c.requires in
    let few = p.room in
    let same = p.row.count in
    let front = held_front d a.k a.points.now a.row.now a.s.now _ same (omega arith) c.store.ensures c.reduce.ensures in
    record { front = front; zeros = rw (reduced_rest d a.k a.points.now a.row.now _ same front same) at c.all_zero.ensures }
