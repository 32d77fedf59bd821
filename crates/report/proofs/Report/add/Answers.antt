-- The detail of a corrected mark counts flags.
use Rattle.std.proofs.Common.{eqb, arith, eq-eqb}
use Rattle.report.proofs.Figures.{count_most}
use Rattle.report.proofs.Report.add.Goals as goal

pub overflow_add-self-3 : goal.overflow_add-self-3
overflow_add-self-3 c =
    let own = c.requires.detail (eq-eqb _ _ c.if-ending-ne1.false) in
    omega (arith, own, c.requires.wrong, c.requires.flagging.few, count_most (λ f. eqb f 1) c.args.flags.now)
