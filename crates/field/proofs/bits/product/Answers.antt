-- `product` is the product: each turn takes a bit more.
use Rattle.std.proofs.Common.{◌≡◌, ◌-◌, arith, ◌∙◌}
use native.Mathlib.Nat.{div-one}
use lib.Pow.{pow_pos}
use Rattle.refusal.proofs.Laws.{up_to_eight}
use Rattle.field.proofs.BitByBit.{low_zero, low_bit, low_times}
use Rattle.field.proofs.bits.product.Goals as goal

pub loop-i-init : goal.loop-i-init
loop-i-init c =
    let d = c.args.degree in
    let none : d - d ≡ 0 = omega arith in
    (rw none (low_zero _ _ _), pow_pos d)

pub overflow_cast-i : goal.overflow_cast-i
overflow_cast-i c = record { fits = omega (arith, up_to_eight _ c.requires.degree_value) }

pub overflow_shr-a : goal.overflow_shr-a
overflow_shr-a c = omega (arith, up_to_eight _ c.requires.degree_value)

pub loop-i-preserved : goal.loop-i-preserved
loop-i-preserved c = (
  low_bit _ c.loop-i.i _ _ (omega arith) (omega arith) c.loop-i.invariant.0 (rw c.new-reducer.ensures at c.bit_more-r.ensures.0),
  rw c.new-reducer.ensures at c.bit_more-r.ensures.1,
)

pub returns : goal.returns
returns c =
    let end : c.loop-i.i ≡ 0 = omega arith in
    (rw (end, div-one) at c.loop-i.invariant.0)
    ∙ low_times _ (c.args.degree - 0) _ _ (omega arith) c.requires.a_bound.0 c.requires.a_bound.1
