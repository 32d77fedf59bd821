-- `multiply` multiplies all rows of an array, unless all factors are one.
use Rattle.std.proofs.Common.{length, refl, sym, ◌∙◌, arith}
use native.Mathlib.Nat.{le_refl}
use lib.Seq.{take_all}
use Rattle.field.specs.Symbols.{IsSymbol}
use Rattle.codes.proofs.Parts.{all_map}
use Rattle.codes.proofs.Factors.{Factor}
use Rattle.factors.proofs.Rows.{ones_multiply, multiplying, multiplied_front, part_all}
use Rattle.factors.proofs.multiply.Goals as goal

pub returns-then-all_ones : goal.returns-then-all_ones
returns-then-all_ones c = sym (ones_multiply c.requires (c.all_ones.ensures.0 c.if-all_ones.true))

pub multiply_rows-requires : goal.multiply_rows-requires
multiply_rows-requires c =
    let fs = c.args.factors.now in
    let a = c.args.array.now in
    rw c.new-field.ensures (multiplying c.requires fs a refl (le_refl (length a)) (part_all a)
    (all_map (Factor c.args.degree) (IsSymbol c.args.degree) fs (λ f h. h.0) c.requires.factors))

pub returns : goal.returns
returns c =
    let a = c.args.array.now in
    sym (take_all (length a) _ (omega (arith, c.multiply_rows.auto.s)))
    ∙ multiplied_front c.requires c.args.factors.now a refl (le_refl (length a)) (part_all a)
    (rw c.new-field.ensures at c.multiply_rows.ensures)
