-- `Reducer::product` is the product.
use Rattle.std.proofs.Common.{refl, ◌∙◌}
use Rattle.refusal.proofs.Laws.{up_to_eight}
use Rattle.field.proofs.BitByBit.{eight, sixteenth, low_zero, low_times}
use Rattle.field.proofs.bits.Reducer.product.Goals as goal

pub returns-then-self-le4 : goal.returns-then-self-le4
returns-then-self-le4 c =
    c.four_more.ensures.1 0 (low_zero _ _ _) ∙ low_times _ 4 _ _ c.if-self-le4.true c.requires.0 c.requires.1

-- the top bit of a byte, in the field of 256
pub invariant_of-byte : goal.invariant_of-byte
invariant_of-byte c =
    let g = c.args.self in
    record {
      degree_value = g.degree_value;
      top = rw (eight _ g.degree_value c.if-self-le4.false) refl;
      rest = g.rest;
    }

pub returns : goal.returns
returns c =
    c.four_more-2.ensures.1 4 (rw (sixteenth _) at (c.four_more-higher.ensures.1 0 (low_zero _ _ _)))
    ∙ low_times _ 8 _ _ (up_to_eight _ c.args.self.degree_value) c.requires.0 c.requires.1
