-- `bit_more` adds a bit of a product.
use mathlib.Core.Path.{ap₂}
use Rattle.field.specs.Symbols.{plus}
use Rattle.field.proofs.Sums.{plus_below}
use Rattle.field.proofs.Instance.{tested, doubled_below}
use Rattle.field.proofs.BitByBit.{bit_below}
use Rattle.field.proofs.bits.Reducer.bit_more.Goals as goal

pub returns : goal.returns
unfolding plus
returns c =
    let good = c.args.self.degree_value in
    let (small, small') = c.requires in
    let is = ap₂ plus c.masked.ensures c.double.ensures in
    (is, rw is (plus_below _ _ _ (bit_below _ (tested _ good) _ _ small) (doubled_below _ _ good small')))
