-- `raise` multiplies the pivot's values and locator, and adds the locator one place up.
use Rattle.std.proofs.Common.{◌≡◌, ◌+◌, ◌-◌, ◌*◌, length, arith}
use native.Mathlib.Nat.{add_assoc, zero-add}
use Rattle.patch.specs.Parts.{part}
use Rattle.patch.proofs.Parts.{length_part, get_d_part}
use Rattle.solver.proofs.Slots.{slots_at}
use Rattle.solver.proofs.Raising.{rounded, raised_only}
use Rattle.solver.proofs.turns.raise.Goals as goal

pub multiply-requires-clause-symbols_at : goal.multiply-requires-clause-symbols_at
unfolding part
multiply-requires-clause-symbols_at c =
    let a = c.args in
    let (points, raisable) = c.requires.pointed in
    let m = c.whole-m.result in
    let e : a.at + m - a.at ≡ m = omega arith in
    let size : length (part a.at m a.xs.now) ≡ m = length_part a.at m a.xs.now (omega (arith, c.whole-m.ensures, points.long)) in
    rw e (
      λ k h. rw (zero-add k, get_d_part a.at m a.xs.now k (omega (arith, size))) (points.symbols (a.at + k)),
      λ k h. rw (add_assoc (768 * a.p) a.at k, ← (slots_at a.p a.space.now (a.at + k) (omega (arith, h, size, c.whole-m.ensures))))
          (raisable.symbols k),
    )

pub returns : goal.returns
unfolding part
returns c =
    let a = c.args in
    let (points, raisable) = c.requires.pointed in
    let (room, copy) = c.requires.in_bounds in
    let m = c.whole-m.result in
    let v = c.whole-v.result in
    let e : a.at + m - a.at ≡ m = omega arith in
    let f : a.later + v - a.later ≡ v = omega arith in
    let g = rounded _ a.later a.width a.p a.at m v a.xs.now a.space.now a.w.now points raisable room copy c.whole-m.ensures
    c.whole-v.ensures in
    raised_only _ a.field.now.degree_value _ _ _ a.p a.at a.later a.width m v _ _ g
    (length_part a.at m a.xs.now (omega (arith, c.whole-m.ensures, points.long)))
    (length_part a.later v a.w.now (omega (arith, c.whole-v.ensures, room, raisable.within)))
    raisable.line (rw e at c.multiply.ensures) (rw f at c.add.ensures)
