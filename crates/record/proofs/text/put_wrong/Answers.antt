-- `text::put_wrong` writes the columns whose flag is not 0, one after the other.
use Rattle.record.proofs.Fields.{wrong_skip, wrong_room, wrong_put, wrong_end}
use Rattle.record.proofs.text.put_wrong.Goals.{then-flag-ne0, else-flag-ne0}
use Rattle.record.proofs.text.put_wrong.Goals as goal

pub put_column-end-requires : goal.put_column-end-requires
put_column-end-requires c = wrong_room c.loop-column.invariant c.loop-column-test.true c.if-flag-ne0.true c.requires

pub loop-column-preserved : goal.loop-column-preserved
loop-column-preserved c =
    let turn = c.loop-column in
    let more = c.loop-column-test.true in
    elim c.if-flag-ne0.branch [
      | then-flag-ne0 w ↦ rw (w.out-is, w.end-is, w.gap-is)
          (wrong_put turn.invariant more w.if-flag-ne0.true c.requires w.put_column-end.ensures)
      | else-flag-ne0 w ↦ rw (w.out-is, w.end-is, w.gap-is) (wrong_skip turn.invariant more w.if-flag-ne0.false)
    ]

pub returns : goal.returns
returns c = wrong_end c.loop-column.invariant c.loop-column-test.false
