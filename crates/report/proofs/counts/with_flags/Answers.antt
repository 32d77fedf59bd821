-- `with_flags` adds 1 in the place of each flag of 1.
use Rattle.std.proofs.Common.{◌≡◌, ◌+◌, eqb, ap₂, arith, get_or, ◌∙◌}
use native.Mathlib.Nat.{zero-add}
use Rattle.patch.proofs.Laws.{patch_front}
use Rattle.patch.proofs.Loops.{filling, unfilled, filled}
use Rattle.codes.specs.Code.{flag}
use Rattle.codes.proofs.Flags.{flag-most}
use Rattle.report.specs.Working.{flagged, with_flags}
use Rattle.report.proofs.Figures.{flag_is}
use Rattle.report.proofs.counts.with_flags.Goals.{After-from}
use Rattle.report.proofs.counts.with_flags.Goals as goal

module _ (c : After-from) where
  -- what stands at the flag's place is what stood there
  old : get_or c.loop-i.each c.loop-i.i 0 ≡ get_or c.args.each c.loop-i.i 0
  old = rw zero-add at (unfilled c.loop-i.invariant 0)

  one : c.from.result ≡ flag (eqb (get_or c.args.flags.now c.loop-i.i 0) 1)
  one = c.from.ensures ∙ flag_is _

pub loop-i-init : goal.loop-i-init
loop-i-init c = filling

pub overflow_add-each : goal.overflow_add-each
overflow_add-each c =
    let t = (goal.at.overflow_add-each c).After-from in
    omega (arith, old t, one t, c.requires.room c.loop-i.i, flag-most (eqb (get_or c.args.flags.now c.loop-i.i 0) 1))

pub loop-i-preserved : goal.loop-i-preserved
loop-i-preserved c =
    let t = (goal.at.loop-i-preserved c).After-from in
    let a = c.args in record {
      within = omega arith;
      so_far_lem = patch_front c.loop-i.i (flagged a.each a.flags.now) a.each c.loop-i.invariant.so_far_lem (ap₂ ◌+◌ (old t) (one t));
    }

pub returns : goal.returns
unfolding with_flags
returns c = filled c.loop-i.invariant c.loop-i-test.false
