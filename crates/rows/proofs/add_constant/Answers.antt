-- The constant is added to one symbol after the other.
use Rattle.std.proofs.Common.{ℕ, ◌≤◌, ap, arith}
use native.Mathlib.Nat.{zero-add}
use Rattle.patch.proofs.Laws.{patch_front}
use Rattle.patch.proofs.Loops.{filling, unfilled, filled}
use Rattle.field.specs.Symbols.{plus}
use Rattle.rows.proofs.Written.{part_long, part_changed}
use Rattle.rows.proofs.add_constant.Goals as goal

pub loop-x-init : goal.loop-x-init
loop-x-init c = filling

pub loop-x-preserved : goal.loop-x-preserved
unfolding plus
loop-x-preserved c =
    let inv = c.loop-x.invariant in record {
      within = omega (arith, part_long c.args.at c.args.n c.args.s.now c.requires);
      so_far_lem = patch_front c.loop-x.x-index _ _ inv.so_far_lem (ap (λ (x : ℕ). plus x c.args.c) (rw zero-add at (unfilled inv 0)));
    }

pub returns : goal.returns
returns c =
    let a = c.args in
    let done : a.n ≤ c.loop-x.x-index = omega (arith, part_long a.at a.n a.s.now c.requires) in
    part_changed a.at a.n a.s.now c.requires (λ x. plus x a.c) c.loop-x.x-items (filled c.loop-x.invariant done)
