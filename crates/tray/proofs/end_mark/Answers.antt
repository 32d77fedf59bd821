-- `end_mark` refuses a mark with 7, or has it decoded.
use Rattle.std.proofs.Common.{sym, ◌∙◌}
use Rattle.codes.specs.Factors.{description_of}
use Rattle.joint.specs.Promises.{buffers}
use Rattle.tray.proofs.Single.{decoded_seven, decoded_by}
use Rattle.tray.proofs.end_mark.Goals as goal

pub returns-then-some_outside_field : goal.returns-then-some_outside_field
returns-then-some_outside_field c =
    let s = c.args in
    let p = c.requires in
    decoded_seven (description_of s.degree s.points.now s.factors.now s.lengths.now) s.limit p.common s.received.now
    (buffers s.array.now s.flags.now) p.received p.array p.flags (sym c.some_outside_field.ensures ∙ c.if-some_outside_field.true)

pub returns : goal.returns
returns c =
    let s = c.args in
    let p = c.requires in
    decoded_by (description_of s.degree s.points.now s.factors.now s.lengths.now) s.limit p.common s.received.now
    (buffers s.array.now s.flags.now) p.received p.array p.flags (sym c.some_outside_field.ensures ∙ c.if-some_outside_field.false)
    c.work_mark.result (buffers c.work_mark.new.array c.work_mark.new.flags) c.work_mark.ensures
