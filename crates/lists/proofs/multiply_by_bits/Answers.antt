-- `multiply_by_bits` multiplies the symbols, one after the other.
use Rattle.patch.proofs.Loops.{filling}
use Rattle.field.specs.Symbols.{plus}
use Rattle.lists.proofs.Turns.{left-symbol, right-symbol, multiplied_turn}
use Rattle.lists.proofs.multiply_by_bits.Goals as goal

pub loop-i-init : goal.loop-i-init
loop-i-init c = filling

pub product-requires : goal.product-requires
unfolding plus
product-requires c =
    let so_far = c.loop-i.invariant in
    (left-symbol c.requires so_far c.loop-i-test.true, right-symbol c.requires so_far c.loop-i-test.true)

pub loop-i-preserved : goal.loop-i-preserved
unfolding plus
loop-i-preserved c = multiplied_turn c.requires c.loop-i.invariant c.loop-i-test.true c.product.ensures
