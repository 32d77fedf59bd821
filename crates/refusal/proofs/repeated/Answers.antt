-- `repeated` answers its test: an entry that is equal to an earlier one is a repeat, and where all differ there is none.
use Rattle.std.proofs.Common.{◌≡◌, arith, length, sym, ◌∙◌}
use Rattle.refusal.proofs.Repeats.{repeats_not, looked_none, looked_more, looked_stood}
use Rattle.refusal.proofs.repeated.Goals as goal

pub loop-j-init : goal.loop-j-init
loop-j-init c = (c.points.invariant.0, looked_none c.args.xs.now c.points.i)

pub loop-j-preserved : goal.loop-j-preserved
loop-j-preserved c = (c.points.invariant.0, looked_more c.loop-j.invariant.1)

pub returns-then-same : goal.returns-then-same
returns-then-same c =
    sym (looked_stood c.args.xs.now c.points.i c.loop-j.j c.loop-j.auto.j-end c.points-test.true (rw c.if-same.true at c.loop-j.invariant.1))

pub returns-after-points : goal.returns-after-points
returns-after-points c =
    let l = c.args.xs.now in
    let whole : c.points.i ≡ length l = omega arith in
    c.points.invariant.0 ∙ sym (repeats_not l (rw whole at c.points.invariant.1))
