-- Steps keep the lines laid and the leads low, by 8 a condition.
use Rattle.std.proofs.Common.{◌+◌, ◌*◌, ◌<◌, List, ℕ, length, sym, ap, arith, ◌∙◌}
use mathlib.Core.Path.{ap₂}
use Rattle.pits.specs.Working.Table.{stepped}
use Rattle.pits.proofs.Stepped.{Keeps, run_none, run_idle, run_more, run_keeps}
use Rattle.pits.proofs.run.Goals as goal
use Rattle.pits.proofs.run.Goals.{then-flag-ne0, else-flag-ne0}

pub loop-i-init : goal.loop-i-init
loop-i-init c = sym (run_none _ _ _ _ _)

pub step-requires : goal.step-requires
step-requires c =
    let a = c.args in
    let turn = c.loop-i in
    let here : turn.i < length a.xs.now = omega (arith, c.requires.short) in
    let k : Keeps a.field.now.degree a.xs.now a.lines (4096 + 8 * turn.i) (a.leads.now, a.slots.now) (turn.leads, turn.slots) =
    run_keeps _ _ _ _ _ a.field.now.degree_value c.requires.laid 4096 c.requires.low turn.i (omega arith) turn.invariant in
    record { laid = k.laid; here = here; low = λ j lt. omega (arith, k.low j lt, k.laid.narrow) }

pub loop-i-preserved : goal.loop-i-preserved
loop-i-preserved c =
    let a = c.args in
    let turn = c.loop-i in
    let pair : List ℕ → List ℕ → List ℕ × List ℕ = λ leads slots. (leads, slots) in
    elim c.if-flag-ne0.branch [
      | then-flag-ne0 w ↦ ap₂ pair w.leads-is w.slots-is ∙ w.step.ensures
          ∙ ap (stepped a.field.now.degree a.xs.now a.lines turn.i) turn.invariant ∙ sym (run_more _ _ _ _ _ _ w.if-flag-ne0.true)
      | else-flag-ne0 w ↦ ap₂ pair w.leads-is w.slots-is ∙ turn.invariant ∙ sym (run_idle _ _ _ _ _ _ w.if-flag-ne0.false)
    ]
