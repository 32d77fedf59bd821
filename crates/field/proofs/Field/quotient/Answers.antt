-- `Field::quotient` is the quotient by a symbol that is not zero: the product with its inverse.
use Rattle.std.proofs.Common.{ℕ, List, get_or, ◌∙◌}
use Rattle.field.specs.Symbols.{Quotient}
use Rattle.field.specs.Working.Tables.{IsTable, Dividing}
use Rattle.field.proofs.Inverting.{over_one, quotient_by}
use Rattle.field.proofs.Instance.{generated}
use Rattle.field.proofs.Field.quotient.Goals as goal

-- at the divisor stands its inverse
inverse : {d a b : ℕ} (t : List ℕ) → IsTable d t → Dividing d a b → Quotient d 1 b (get_or t b 0)
unfolding IsTable
inverse {b = b} t q p = q b p.right p.nonzero

pub returns-then-a-eq1 : goal.returns-then-a-eq1
returns-then-a-eq1 c =
    let f = c.args.self.now in
    let p = c.requires in
    rw (c.if-a-eq1.true, c.from.ensures) (over_one _ (generated _ f.degree_value) p.right p.nonzero (inverse _ f.table p))

pub product-requires-clause-a_bound : goal.product-requires-clause-a_bound
product-requires-clause-a_bound c = (c.requires.left, rw c.from.ensures (inverse _ c.args.self.now.table c.requires).symbol)

pub returns : goal.returns
returns c =
    let f = c.args.self.now in
    let p = c.requires in
    c.product.ensures ∙ rw c.from.ensures (quotient_by _ (generated _ f.degree_value) p.left p.right p.nonzero (inverse _ f.table p))
