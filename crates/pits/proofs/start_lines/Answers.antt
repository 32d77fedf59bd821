-- `start_lines` lays the lines of L, and then those of N.
use Rattle.std.proofs.Common.{◌≤◌, ◌+◌, ◌*◌, length, refl, ap, arith, ◌∙◌}
use native.Mathlib.Nat.{mul-le-mul_left}
use lib.ListN.{replicate}
use Rattle.patch.proofs.Laws.{length-patch}
use Rattle.patch.proofs.Parts.{length-lay}
use Rattle.hermitian.proofs.Sizes.{Sides, sides}
use Rattle.pits.proofs.Lines.{length-lines}
use Rattle.pits.proofs.Begun.{line_L_in, line_N_in, lines_room, start_made}
use Rattle.pits.proofs.start_lines.Goals.{Start}
use Rattle.pits.proofs.start_lines.Goals as goal

counts : (c : Start) → Sides c.args.field.now.degree c.args.field.now.degree
counts c = sides _ _ c.requires.size refl

size : (c : Start) → length c.args.ring.now ≤ 64
size c = omega (arith, c.requires.ring.count, (counts c).most)

narrow : (c : Start) → length c.args.ys.now ≤ 128
narrow c = omega (arith, c.requires.wide, (counts c).most)

all_room : (c : Start) → length c.args.ys.now * (c.args.field.now.degree + c.args.field.now.degree) ≤ length c.args.slots.now
all_room c = rw (c.requires.wide, c.requires.long) (lines_room _ c.requires.size c.args.ring.now c.requires.ring)

pub store-requires : goal.store-requires
store-requires c = omega (arith, size (goal.at.store-requires c).Start)

pub lay_lines-requires : goal.lay_lines-requires
lay_lines-requires c =
    let s = (goal.at.lay_lines-requires c).Start in
    let a = c.args in
    let q = a.field.now.degree in
    let pre = c.requires in
    let e = c.store.ensures in
    let less : 0 + q ≤ q + q = omega arith in
    record {
      narrow = narrow s;
      enough = omega (arith, narrow s, ap length e ∙ length-lay 0 a.ring.now (replicate 128 1));
      factors = pre.factors;
      symbols = rw e (line_L_in q pre.size a.ring.now pre.ring a.ys.now pre.wide);
      few = omega (arith, (counts s).side);
      room = omega (arith, all_room s, mul-le-mul_left (length a.ys.now) less);
    }

pub clear-requires : goal.clear-requires
clear-requires c = omega (arith, size (goal.at.clear-requires c).Start)

pub lay_lines-requires-2 : goal.lay_lines-requires-2
lay_lines-requires-2 c =
    let s = (goal.at.lay_lines-requires-2 c).Start in
    let a = c.args in
    let r = a.ring.now in
    let pre = c.requires in
    let e = c.clear.ensures in
    record {
      narrow = narrow s;
      enough = omega (arith, narrow s, ap length e ∙ length-patch (length r) _ (replicate 128 1) (length r));
      factors = pre.factors;
      symbols = rw e (line_N_in a.field.now.degree pre.size r pre.ring a.ys.now pre.wide);
      few = omega (arith, (counts s).side);
      room = omega (arith, all_room s, ap length c.lay_lines.ensures ∙ length-lines _ _ _ _ _ _);
    }

pub returns : goal.returns
returns c = start_made _ _ _ _ c.store.ensures c.lay_lines.ensures c.clear.ensures c.lay_lines-2.ensures
