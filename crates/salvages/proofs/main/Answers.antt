-- The measure falls: by the turn that was due, or by the bytes that are stepped over.
use Rattle.std.proofs.Common.{arith, ◌+◌, sym, subst, ◌∙◌}
use Rattle.salvages.specs.Held.{Steps}
use Rattle.salvages.proofs.Moving.{due_most, due_now, due_no_more}
use Rattle.salvages.proofs.main.Goals as goal

pub loop-at-smaller-then-wants_more : goal.loop-at-smaller-then-wants_more
loop-at-smaller-then-wants_more c =
    let l = c.loop-at in
    omega (arith, due_now l.from l.got (sym c.wants_more.ensures ∙ c.if-wants_more.true), due_no_more c.in_ok-got.got)

pub loop-at-smaller-in-Kept : goal.loop-at-smaller-in-Kept
loop-at-smaller-in-Kept c =
    let l = c.loop-at in
    let goes = subst (Steps _) c.in-Kept.is c.in_ok-step.ensures in
    omega (arith, goes.0, c.loop-at-test.true, due_most (l.from + c.in-Kept.n) l.got)

pub loop-at-smaller : goal.loop-at-smaller
loop-at-smaller c =
    let l = c.loop-at in
    let goes = subst (Steps _) c.in-Skipped.is c.in_ok-step.ensures in
    omega (arith, goes.0, c.loop-at-test.true, due_most (l.from + c.in-Skipped.n) l.got)
