-- The copy of the pivot's line is that line.
use Rattle.std.proofs.Common.{◌≤◌, ◌+◌, ◌*◌, length, arith}
use native.Mathlib.Nat.{zero-add}
use Rattle.pits.proofs.Slots.{line_below}
use Rattle.pits.proofs.Turned.{copied, made_in, made_turned}
use Rattle.pits.proofs.turn.Goals.{Start}
use Rattle.pits.proofs.turn.Goals as goal

fits : (c : Start) → length c.args.xs.now * c.args.p + length c.args.xs.now ≤ length c.args.slots.now
fits c = omega (arith, line_below (length c.args.xs.now) c.args.lines c.args.p c.requires.pivot, c.requires.laid.room)

pub multiply-requires-clause-symbols_at : goal.multiply-requires-clause-symbols_at
multiply-requires-clause-symbols_at c =
    let a = c.args in
    let laid = c.requires.laid in
    let copy = copied _ a.p a.slots.now _ (fits (goal.at.multiply-requires-clause-symbols_at c).Start) c.copy_from_slice.ensures.after in (
      λ k h. rw zero-add (laid.points k h),
      made_in _ a.xs.now a.i _ _ _ _ c.requires.pivot laid.room a.field.now.degree_value copy c.mix_lines.ensures laid.symbols,
    )

pub returns : goal.returns
returns c =
    let a = c.args in
    let laid = c.requires.laid in
    made_turned _ _ _ _ _ _ _ c.requires.pivot laid.room a.field.now.degree_value
    (copied _ a.p a.slots.now _ (fits (goal.at.returns c).Start) c.copy_from_slice.ensures.after)
    c.mix_lines.ensures c.multiply.ensures
