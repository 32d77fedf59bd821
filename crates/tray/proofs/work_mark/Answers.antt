-- `work_mark` lends the single decoder what the space has for all marks, and a room of its own.
use Rattle.std.proofs.Common.{◌≡◌, ◌≤◌, ◌∙◌, List, ℕ, sym, subst, arith, length, take, replicate}
use lib.Seq.{length-take-le, take_all}
use Rattle.patch.proofs.Parts.{take-lay}
use Rattle.field.specs.Working.Tables.{table_bytes, IsTable}
use Rattle.rows.specs.Working.Rows.{Inverses}
use Rattle.codes.specs.Code.{largest}
use Rattle.codes.specs.Factors.{description_of}
use Rattle.codes.specs.Checks.{space_bytes}
use Rattle.joint.specs.Promises.{buffers}
use Rattle.conditions.specs.Working.{most_inverses}
use Rattle.tray.specs.Working.{table_of}
use Rattle.tray.proofs.Places.{lent_row}
use Rattle.tray.proofs.Single.{ready}
use Rattle.tray.proofs.work_mark.Goals as goal

front : (w : List ℕ) → space_bytes ≤ length w → length (take table_bytes w) ≡ table_bytes
front w room = length-take-le table_bytes w (omega (arith, room))

pub slice_bounds-store-end : goal.slice_bounds-store-end
slice_bounds-store-end c = sym (front c.args.space.now c.requires.0.shared.room)

pub store-requires : goal.store-requires
store-requires c = omega (arith, front c.args.space.now c.requires.0.shared.room)

-- the table, copied
pub lent-field-requires-clause-table : goal.lent-field-requires-clause-table
lent-field-requires-clause-table c =
    let w = c.args.space.now in
    let table = c.store.new.s in
    let long : length table ≡ table_bytes = c.store.auto.s in
    let is : table ≡ table_of w =
    sym (take_all table_bytes table (omega arith))
    ∙ take-lay (take table_bytes w) (replicate table_bytes 0) c.store.ensures (front w c.requires.0.shared.room) (omega arith)
    ∙ lent_row 0 table_bytes w in
    subst (IsTable c.args.degree) (sym is) c.requires.0.shared.table

pub decode_struck-requires-clause-ready_lost : goal.decode_struck-requires-clause-ready_lost
decode_struck-requires-clause-ready_lost c =
    let a = c.args in
    let p = c.requires.0 in
    rw c.lent-field.ensures (
      ready (description_of a.degree a.points.now a.factors.now a.lengths.now) a.limit p.common a.received.now
          (buffers a.array.now a.flags.now) p.received p.array p.flags c.requires.1,
      omega arith,
    )

pub decode_struck-requires-clause-inverses : goal.decode_struck-requires-clause-inverses
decode_struck-requires-clause-inverses c = λ some.
    let a = c.args in
    rw c.lent-field.ensures
    (subst (Inverses a.degree a.points.now (largest a.lengths.now)) (sym (lent_row table_bytes most_inverses a.space.now))
    c.requires.0.shared.inverses)
