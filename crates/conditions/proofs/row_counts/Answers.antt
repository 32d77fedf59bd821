-- `conditions::row_counts` writes n − k for each row, one after the other.
use Rattle.std.proofs.Common.{ℕ, ◌-◌, length, ap, zero-add, arith}
use Rattle.patch.proofs.Loops.{filling, turn, filled}
use Rattle.refusal.proofs.Laws.{each_within}
use Rattle.codes.proofs.Proper.{lengths_test}
use Rattle.conditions.proofs.row_counts.Goals as goal

pub overflow_sub-counts : goal.overflow_sub-counts
overflow_sub-counts c =
    let n = length c.args.points.now in
    let ks = c.args.lengths.now in
    let within = each_within 1 n ks ((lengths_test 1 n ks).1 c.requires.0) c.loop-l.l c.loop-l-test.true in
    omega (arith, within.1)

pub loop-l-init : goal.loop-l-init
loop-l-init c = filling

pub loop-l-preserved : goal.loop-l-preserved
loop-l-preserved c =
    rw zero-add at (turn c.loop-l.invariant c.loop-l-test.true (ap (λ (k : ℕ). length c.args.points.now - k) c.from.ensures))

pub returns : goal.returns
returns c = filled c.loop-l.invariant (omega arith)
