-- `evaluate_whole` goes from the last Newton coefficient to the first, at all points at once.
use Rattle.std.proofs.Common.{◌≡◌, ◌∙◌, ◌-◌, ap, arith, length}
use Rattle.patch.proofs.Laws.{length-patch}
use Rattle.rows.proofs.Symbols.{symbol_at, symbols_whole}
use Rattle.rows.proofs.Evaluation.{values_start, values_in, values_step, values_end}
use Rattle.rows.proofs.evaluate_whole.Goals as goal

pub loop-j-init : goal.loop-j-init
loop-j-init c = let g = c.requires.evaluating in (g.some, values_start c.args.reducer.degree_value g c.clear.ensures)

pub multiply_by_bits-requires : goal.multiply_by_bits-requires
multiply_by_bits-requires c =
    let g = c.requires.evaluating in
    let j = c.loop-j.j in
    let long = ap length c.clear.ensures ∙ length-patch c.args.at (λ k. 0) c.args.s.now (length c.args.xs.now) in record {
      left = symbol_at _ c.args.nodes.now (j - 1 - 1) g.nodes_in (omega (arith, g.enough, c.loop-j.auto.j, c.loop-j-test.true));
      right = symbol_at _ c.args.us.now (j - 1) g.coefficients (omega (arith, c.loop-j.auto.j, c.loop-j-test.true));
      room = omega (arith, g.room, c.loop-j.auto.s, long);
      factors = symbols_whole _ c.args.xs.now g.points;
      symbols = values_in c.args.reducer.degree_value g c.clear.ensures j c.loop-j.invariant.1;
    }

pub loop-j-preserved : goal.loop-j-preserved
loop-j-preserved c =
    let turn = c.loop-j in (
      omega arith,
      values_step c.args.reducer.degree_value c.requires.evaluating c.clear.ensures turn.j
          (omega arith) (omega arith) turn.invariant.1 c.multiply_by_bits.ensures,
    )

pub returns : goal.returns
returns c =
    let one : c.loop-j.j ≡ 1 = omega arith in
    values_end c.args.reducer.degree_value c.requires.evaluating c.clear.ensures one c.loop-j.invariant.1 c.add_constant.ensures
