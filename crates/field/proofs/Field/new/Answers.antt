-- `Field::new` has at each symbol its inverse: in a turn it writes a power of x and its inverse, each at the place of the other.
use Rattle.std.proofs.Common.{◌-◌, ◌^◌, ◌≤◌, arith, refl}
use lib.ListN.{length-set}
use Rattle.refusal.proofs.Laws.{field_size, positive}
use Rattle.field.proofs.BitByBit.{size_half}
use Rattle.field.proofs.Inverting.{paired_first, paired_symbol, paired_next, inverted_next, inverted_all}
use Rattle.field.proofs.Instance.{generated}
use Rattle.field.proofs.Field.new.Goals as goal

pub loop-init : goal.loop-init
loop-init c = (refl, paired_first _ (generated _ c.requires), λ j h. absurd (omega arith))

pub bounds-inverses-from : goal.bounds-inverses-from
bounds-inverses-from c =
    omega (arith, c.from.ensures, paired_symbol _ (generated _ c.requires) c.loop.invariant.1, field_size _ c.requires)

pub bounds-inverses-from-in-loop : goal.bounds-inverses-from-in-loop
bounds-inverses-from-in-loop c = omega (arith, c.from-in-loop.ensures, c.loop.invariant.1.inverse.symbol, field_size _ c.requires)

pub double-power-requires : goal.double-power-requires
double-power-requires c = rw c.new-reducer.ensures (paired_symbol _ (generated _ c.requires) c.loop.invariant.1)

pub loop-preserved : goal.loop-preserved
loop-preserved c =
    let d = c.args.degree in
    let known = generated d c.requires in
    let turn = c.loop in
    let (long, pair, so_far) = turn.invariant in
    let power_in = paired_symbol d known pair in
    let room : turn.counter ≤ 2 ^ d - 1 = omega (arith, c.loop-test.true, c.size-pairs.ensures) in (
      simp length-set long,
      rw (c.double-power.ensures, c.halve-inverse.ensures, c.new-reducer.ensures) (paired_next _ known pair),
      rw (c.from.ensures, c.from-in-loop.ensures) (inverted_next _ known pair turn.inverses room
          (omega (arith, power_in, field_size d c.requires)) (omega (arith, pair.inverse.symbol, field_size d c.requires)) so_far),
    )

pub invariant_of-result : goal.invariant_of-result
invariant_of-result c = record {
  degree_value = c.requires;
  table = inverted_all _ (generated _ c.requires) c.loop.counter c.loop.inverses
      (omega (arith, c.size-pairs.ensures, size_half _ (positive _ c.requires))) c.loop.invariant.2;
}
