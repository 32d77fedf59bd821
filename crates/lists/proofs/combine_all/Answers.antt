-- `combine_all` combines the symbols of the part, one after the other.
use Rattle.std.proofs.Common.{◌+◌, arith, ap, ◌∙◌}
use Rattle.std.proofs.lemmas.List.Edits.{get_or-between}
use native.Mathlib.Nat.{zero-add}
use Rattle.patch.proofs.Loops.{filling, unfilled, turn, filled}
use Rattle.lists.specs.Working.Combining.{combined}
use Rattle.lists.proofs.Turns.{laid_back}
use Rattle.lists.proofs.combine_all.Goals as goal

pub loop-a-init : goal.loop-a-init
loop-a-init c = filling

pub loop-a-preserved : goal.loop-a-preserved
loop-a-preserved c =
    let a = c.args in
    let i = c.loop-a.a-index in
    let so_far = c.loop-a.invariant in
    let read = get_or-between a.s.now a.at (a.at + a.n) i 0 (omega arith) in
    rw zero-add at (turn so_far (omega arith) (c.combine.ensures ∙ ap (combined a.r.now) ((rw zero-add at (unfilled so_far 0)) ∙ read)))

pub returns : goal.returns
returns c = laid_back c.args.at c.args.n _ c.args.s.now c.requires.n_in_bounds (filled c.loop-a.invariant (omega arith))
