-- `four_more` takes four bits of a product.
use Rattle.std.proofs.Common.{suc}
use Rattle.field.proofs.BitByBit.{low_step}
use Rattle.field.proofs.bits.Reducer.four_more.Goals as goal

pub returns : goal.returns
returns c = (
  c.bit_more.ensures.1,
  λ n e. low_step _ (suc (suc (suc n))) _ _ (low_step _ (suc (suc n)) _ _ (low_step _ (suc n) _ _ (low_step _ n _ _ e
      c.bit_more-v3.ensures.0)
      c.bit_more-v2.ensures.0)
      c.bit_more-v1.ensures.0)
      c.bit_more.ensures.0,
)
