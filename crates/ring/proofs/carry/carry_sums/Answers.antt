-- Behind the loop only row 0 is left.
use Rattle.std.proofs.Common.{◌≡◌, ◌<◌, ◌-◌, ◌*◌, ℕ, ap, refl, arith}
use lib.Pow.{pow_pos}
use Rattle.hermitian.proofs.Sizes.{sides}
use Rattle.ring_checks.proofs.Ordinates.{all_y}
use Rattle.ring.proofs.Horner.{ordinates_in}
use Rattle.ring.proofs.Summing.{multiplied_in, going_start, going_row, going_end}
use Rattle.ring.proofs.carry.carry_sums.Goals as goal

pub loop-j-init : goal.loop-j-init
loop-j-init c =
    let g = c.requires.sectors_given in
    record {
      some = omega (arith, sides c.args.field.now.degree c.args.field.now.degree g.size refl);
      going = going_start g _ (ap (λ (k : ℕ). k - 1) c.side-n.ensures) c.requires.holds;
    }

pub multiply-requires-clause-a_bound : goal.multiply-requires-clause-a_bound
multiply-requires-clause-a_bound c = (pow_pos c.args.field.now.degree, pow_pos c.args.field.now.degree)

pub multiply-requires-clause-w_in_bounds : goal.multiply-requires-clause-w_in_bounds
multiply-requires-clause-w_in_bounds c =
    let g = c.requires.sectors_given in
    omega (arith, c.loop-j.invariant.going.room, all_y c.args.field.now.degree g.size g.ordinates)

pub multiply-requires-clause-symbols_at : goal.multiply-requires-clause-symbols_at
multiply-requires-clause-symbols_at c =
    let g = c.requires.sectors_given in
    (ordinates_in g, multiplied_in g c.loop-j.invariant.going)

pub loop-j-preserved : goal.loop-j-preserved
loop-j-preserved c =
    let j = c.loop-j.j - 1 in
    let more : 0 < j = omega arith in
    let below : j < c.args.field.now.degree = omega arith in
    record {
      some = omega arith;
      going = going_row c.requires.sectors_given j more below (ap (λ (k : ℕ). j * (k * k)) c.side-n.ensures) c.loop-j.auto.array
          c.loop-j.invariant.going c.sum_row.ensures c.multiply.ensures;
    }

pub returns : goal.returns
returns c =
    let none : c.loop-j.j - 1 ≡ 0 = omega arith in
    going_end c.requires.sectors_given none c.loop-j.auto.array c.loop-j.invariant.going c.add.ensures c.sum_row-2.ensures
