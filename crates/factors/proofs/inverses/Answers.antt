-- `inverses` takes the inverses, one after the other.
use Rattle.std.proofs.Common.{length, sym, ◌∙◌, zero-add, arith}
use Rattle.patch.proofs.Loops.{filling, turn, filled}
use Rattle.patch.proofs.Parts.{patch_is_lay}
use Rattle.field.proofs.Instance.{field}
use Rattle.codes.proofs.Parts.{all-at}
use Rattle.codes.proofs.Factors.{Factor}
use Rattle.factors.specs.Working.{inverses}
use Rattle.factors.proofs.Rows.{length-inverses, get_or-inverses}
use Rattle.factors.proofs.inverses.Goals as goal

pub loop-i-init : goal.loop-i-init
loop-i-init c = filling

pub quotient-requires : goal.quotient-requires
quotient-requires c =
    let f = all-at (Factor c.args.field.now.degree) c.args.factors.now c.loop-i.i 0 c.loop-i-test.true c.requires.factors in
    record { left = (field _ c.args.field.now.degree_value).one_in; right = f.0; nonzero = f.1 }

pub loop-i-preserved : goal.loop-i-preserved
loop-i-preserved c = rw zero-add at (turn c.loop-i.invariant c.loop-i-test.true c.quotient.ensures)

pub returns : goal.returns
returns c =
    let a = c.args in
    filled c.loop-i.invariant (omega arith)
    ∙ patch_is_lay 0 (length a.factors.now) _ (inverses a.field.now.degree a.factors.now) a.w.now
    (length-inverses a.field.now.degree a.factors.now) (λ k h. sym (get_or-inverses a.field.now.degree a.factors.now k h))
