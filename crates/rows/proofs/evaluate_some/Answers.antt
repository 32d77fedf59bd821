-- `evaluate_some` evaluates at the rounded list of points, and stores the values that count.
use Rattle.std.proofs.Common.{List, ℕ, ◌≤◌, ap, arith, ◌∙◌}
use Rattle.patch.specs.Parts.{lay}
use Rattle.rows.proofs.Pieces.{rounded, rounded_in, front_values}
use Rattle.rows.proofs.evaluate_some.Goals.{After-next_multiple_of-m}
use Rattle.rows.proofs.evaluate_some.Goals as goal

-- the sixteens are within the array
fit : (c : After-next_multiple_of-m) → c.next_multiple_of-m.result ≤ 96
fit c = let m = c.next_multiple_of-m.ensures in omega (arith, m.upper_bound, m.multiple, c.requires.xs_len_bound)

pub evaluate_whole-requires-clause-evaluating : goal.evaluate_whole-requires-clause-evaluating
evaluate_whole-requires-clause-evaluating c =
    let m = c.next_multiple_of-m in
    let most = fit (goal.at.evaluate_whole-requires-clause-evaluating c).After-next_multiple_of-m in
    let g = c.requires.evaluating in record {
      points = rounded_in c.args.xs.now 96 _ c.store.ensures m.ensures.lower_bound most _ g.points;
      nodes_in = g.nodes_in;
      coefficients = g.coefficients;
      some = g.some;
      enough = g.enough;
      room = omega (arith, most, rounded c.args.xs.now 96 _ c.store.ensures m.ensures.lower_bound most);
    }

pub returns : goal.returns
returns c =
    let most = fit (goal.at.returns c).After-next_multiple_of-m in
    c.store-2.ensures
    ∙ ap (λ (v : List ℕ). lay c.args.at v c.args.s.now)
    (front_values c.args.xs.now 96 _ c.store.ensures c.next_multiple_of-m.ensures.lower_bound most _ _ most c.evaluate_whole.ensures)
