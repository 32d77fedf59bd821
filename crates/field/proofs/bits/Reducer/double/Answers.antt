-- `double` is x times the symbol.
use Rattle.std.proofs.Common.{◌*◌, ◌%◌, ap, ◌∙◌}
use Rattle.refusal.proofs.Laws.{up_to_eight, positive}
use Rattle.field.specs.Symbols.{plus}
use Rattle.field.proofs.Instance.{tested}
use Rattle.field.proofs.BitByBit.{doubled_small, doubled_large}
use Rattle.field.proofs.bits.Reducer.double.Goals as goal

pub returns-then-v-self : goal.returns-then-v-self
returns-then-v-self c =
    let g = c.args.self in
    doubled_small _ (tested _ g.degree_value) _ (up_to_eight _ g.degree_value) c.requires (rw g.top at c.if-v-self.true)

pub returns-else-v-self : goal.returns-else-v-self
unfolding plus
returns-else-v-self c =
    let g = c.args.self in
    ap (plus (c.args.v * 2 % 256)) g.rest
    ∙ doubled_large _ (tested _ g.degree_value) _ (up_to_eight _ g.degree_value) c.requires (positive _ g.degree_value)
    (rw g.top at c.if-v-self.false)
