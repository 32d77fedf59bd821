-- A row is added at a point's place and multiplied by y with the rows behind it, and behind the loop only row 0 is left.
use Rattle.std.proofs.Common.{◌≡◌, ◌<◌, ◌-◌, ◌*◌, ℕ, suc, ap, sym, refl, arith}
use native.Mathlib.Nat.{zero-mul}
use lib.Pow.{pow_pos}
use Rattle.hermitian.proofs.Sizes.{sides}
use Rattle.ring_checks.proofs.Ordinates.{all_y}
use Rattle.ring.proofs.Horner.{raised_none, Added, added, added_in, raised, added_whole, ordinates_in}
use Rattle.ring.proofs.carry.carry_rows.Goals.{After-add_row}
use Rattle.ring.proofs.carry.carry_rows.Goals as goal

pub loop-j-init : goal.loop-j-init
loop-j-init c =
    let g = c.requires.sectors_given in
    record {
      some = omega (arith, sides c.args.field.now.degree c.args.field.now.degree g.size refl);
      risen = rw c.side-n.ensures (raised_none g c.requires.ring_len (c.fill.ensures.after (λ y e. e)));
    }

row_in : (c : After-add_row) → Added c.args.field.now.degree c.args.ys.now c.args.array.now c.add_row.new.ring (c.loop-j.j - 1)
row_in c =
    let j = c.loop-j.j in
    let less : suc (j - 1) ≡ j = omega arith in
    let below : j - 1 < c.args.field.now.degree = omega arith in
    added c.requires.sectors_given (j - 1) below (ap (λ (k : ℕ). (j - 1) * (k * k)) c.side-n.ensures)
    (rw less c.loop-j.invariant.risen) c.add_row.ensures

pub multiply-requires-clause-a_bound : goal.multiply-requires-clause-a_bound
multiply-requires-clause-a_bound c = (pow_pos c.args.field.now.degree, pow_pos c.args.field.now.degree)

pub multiply-requires-clause-w_in_bounds : goal.multiply-requires-clause-w_in_bounds
multiply-requires-clause-w_in_bounds c =
    let g = c.requires.sectors_given in
    let r = row_in (goal.at.multiply-requires-clause-w_in_bounds c).After-add_row in
    omega (arith, r.long, all_y c.args.field.now.degree g.size g.ordinates)

pub multiply-requires-clause-symbols_at : goal.multiply-requires-clause-symbols_at
multiply-requires-clause-symbols_at c =
    let g = c.requires.sectors_given in
    (ordinates_in g, added_in g (row_in (goal.at.multiply-requires-clause-symbols_at c).After-add_row))

pub loop-j-preserved : goal.loop-j-preserved
loop-j-preserved c = record {
  some = omega arith;
  risen = raised c.requires.sectors_given (row_in (goal.at.loop-j-preserved c).After-add_row) c.multiply.ensures;
}

pub returns : goal.returns
returns c =
    let g = c.requires.sectors_given in
    let last : c.loop-j.j ≡ 1 = omega arith in
    let some : 0 < c.args.field.now.degree = omega (arith, sides c.args.field.now.degree c.args.field.now.degree g.size refl) in
    added_whole g (added g 0 some (sym (zero-mul _)) (rw last at c.loop-j.invariant.risen) c.add_row-2.ensures)
