-- The flags of 1 are counted.
use Rattle.std.proofs.Common.{◌≡◌, ◌∙◌, arith, eqb, get_or}
use native.Mathlib.Nat.{add-zero}
use lib.ListN.{drop_of_length-le}
use Rattle.codes.specs.Code.{flag}
use Rattle.codes.proofs.Flags.{flag-most}
use Rattle.report.specs.Report.{count}
use Rattle.report.proofs.Figures.{count-drop, flag_is}
use Rattle.report.proofs.counts.wrong_flags.Goals as goal

pub loop-f-preserved : goal.loop-f-preserved
loop-f-preserved c =
    let b = eqb (get_or c.args.flags.now c.loop-f.f-index 0) 1 in
    let one : c.from-sum.result ≡ flag b = c.from-sum.ensures ∙ flag_is b in
    let rest = count-drop (λ f. eqb f 1) c.args.flags.now c.loop-f.f-index 0 c.loop-f-test.true in
    (omega (arith, one, flag-most b), omega (arith, one, rest, c.loop-f.invariant.1))

pub returns : goal.returns
unfolding count
returns c = rw (drop_of_length-le _ c.loop-f-test.false, add-zero) at c.loop-f.invariant.1
