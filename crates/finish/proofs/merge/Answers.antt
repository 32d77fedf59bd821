-- `finish::merge` stores one column after the other.
use Rattle.std.proofs.Common.{◌≤◌, ◌+◌, arith, length, sym, ◌∙◌}
use Rattle.patch.proofs.Parts.{lay_none}
use Rattle.finish.proofs.Marks.{put_none, zero_left, Merged, merged_in, merged_out}
use Rattle.finish.proofs.merge.Goals as goal
use Rattle.finish.proofs.merge.Goals.{then-mark-eq0, else-mark-eq0}

pub bounds-vs-j : goal.bounds-vs-j
bounds-vs-j c = omega (arith, zero_left c.args.marks.now c.loop-i.i c.loop-i-test.true c.if-mark-eq0.true)

pub loop-i-preserved : goal.loop-i-preserved
loop-i-preserved c =
    let turn = c.loop-i in
    let ms = c.args.marks.now in
    let vs = c.args.vs.now in
    let ys = c.args.row.now in
    let at = c.args.at in
    let same = c.requires.1 in
    let more = c.loop-i-test.true in
    let fits : at + length ms ≤ length turn.s = omega arith in
    let one : Merged ms vs ys turn.i same at turn.s turn.j c.if-mark-eq0.s c.if-mark-eq0.j = elim c.if-mark-eq0.branch [
      | then-mark-eq0 w ↦ merged_in ms vs ys turn.i same more at turn.s fits turn.j w.if-mark-eq0.true
          (omega (arith, zero_left ms turn.i more w.if-mark-eq0.true, turn.invariant.0)) w.s-is w.j-is
      | else-mark-eq0 w ↦ merged_out ms vs ys turn.i same more at turn.s fits turn.j w.if-mark-eq0.false w.s-is w.j-is
    ] in
    (omega (arith, one.counted), one.laid ∙ turn.invariant.1)

pub returns : goal.returns
returns c =
    let a = c.args in
    let turn = c.loop-i in
    let none = put_none a.marks.now a.vs.now a.row.now turn.i c.requires.1 turn.j c.loop-i-test.false in
    sym (lay_none (a.at + turn.i) turn.s) ∙ rw none at turn.invariant.1
