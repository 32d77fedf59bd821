-- `locate` has the solver run on the conditions, and decides on its lines.
use Rattle.std.proofs.Common.{◌≡◌, ◌≤◌, ◌∙◌, List, ℕ, suc, sym, ap, subst, arith, length, take, replicate}
use mathlib.Core.Path.{subst₂}
use lib.Seq.{length-take-le}
use Rattle.field.specs.Symbols.{IsSymbol}
use Rattle.poly.specs.Poly.{All}
use Rattle.codes.specs.Code.{Code, code_of}
use Rattle.solver.specs.Working.Held.{HoldsLines}
use Rattle.solver.specs.Working.Solver.{RowsAre}
use Rattle.ending.proofs.Model.{rows_of, lines_of}
use Rattle.ending.proofs.ModelRows.{rows-count}
use Rattle.conditions.specs.Working.{reduced_points, reduced_values}
use Rattle.conditions.proofs.Reduced.{most_points, points_symbols, values_symbols, length-values, counts_front}
use Rattle.judging.proofs.Decisions.{solved_rows}
use Rattle.judging.proofs.locate.Goals.{After-row_counts}
use Rattle.judging.proofs.locate.Goals as goal

-- where the rows' counts are written
module _ (c : After-row_counts) where
  abbrev d : ℕ
  d = c.args.field.now.degree

  abbrev ps : List ℕ
  ps = c.args.points.now

  abbrev ks : List ℕ
  ks = c.args.lengths.now

  abbrev y : List ℕ
  y = c.args.received.now

  abbrev code : Code
  code = code_of d ps ks

  -- the conditions: their values, and their points
  values_are : c.args.us.now ≡ reduced_values d ps ks y
  values_are = c.requires.us_value.0

  points_are : c.args.xs.now ≡ reduced_points ps ks
  points_are = c.requires.us_value.1

  values : All (IsSymbol d) c.args.us.now
  values = subst (All (IsSymbol d)) (sym values_are)
      (values_symbols d c.requires.ready.proper.field ps ks y c.requires.ready.received.symbols)

  points : All (IsSymbol d) c.args.xs.now
  points = subst (All (IsSymbol d)) (sym points_are) (points_symbols ps d ks c.requires.ready.proper.symbols)

  count : length c.args.xs.now ≡ length c.args.us.now
  count = ap length points_are
      ∙ sym (ap length values_are ∙ length-values d c.requires.ready.proper.field ps ks y c.requires.ready.received.count)

  few : length c.args.us.now ≤ 380
  few = omega (arith, count, ap length points_are, most_points ps d ks c.requires.ready.counts)

  abbrev counts : List ℕ
  counts = c.row_counts.new.counts

  size : length (take (length ks) counts) ≡ length ks
  size = length-take-le _ counts (omega (arith, c.requires.ready.counts.most_rows, c.row_counts.auto.counts))

  are : RowsAre (take (length ks) counts) c.args.xs.now c.args.us.now (rows_of code y)
  are = let h = solved_rows c.requires.ready.proper c.requires.ready.received in record {
    counts = h.counts ∙ sym (counts_front ps ks (replicate 4 0) c.row_counts.ensures (omega (arith, c.requires.ready.counts.most_rows)));
    points = h.points ∙ sym points_are;
    values = h.values ∙ sym values_are;
  }

pub solve-requires-clause-symbols : goal.solve-requires-clause-symbols
solve-requires-clause-symbols c = let o = (goal.at.solve-requires-clause-symbols c).After-row_counts in (points o, values o)

pub solve-requires-clause-us_len_bound : goal.solve-requires-clause-us_len_bound
solve-requires-clause-us_len_bound c =
    let o = (goal.at.solve-requires-clause-us_len_bound c).After-row_counts in
    let most = c.requires.ready.counts.most_rows in
    let sized = size o in
    (omega (arith, few o), omega (arith, most, sized), omega (arith, most, sized, c.requires.in_bounds.0))

pub solve-requires-clause-some_rows : goal.solve-requires-clause-some_rows
solve-requires-clause-some_rows c =
    let o = (goal.at.solve-requires-clause-some_rows c).After-row_counts in (rows_of (code o) (y o), are o)

pub decide-requires-clause-count_bound : goal.decide-requires-clause-count_bound
decide-requires-clause-count_bound c =
    let o = (goal.at.decide-requires-clause-count_bound c).After-row_counts in
    let p = c.requires.in_bounds in
    (few o, omega (arith, p.0, c.solve.auto.space), p.1, p.2)

pub decide-requires-clause-holds_lines : goal.decide-requires-clause-holds_lines
decide-requires-clause-holds_lines c =
    let o = (goal.at.decide-requires-clause-holds_lines c).After-row_counts in
    let held = c.solve.ensures (rows_of (code o) (y o)) (are o) in
    subst₂ (λ (C n : ℕ). HoldsLines (d o) C (suc n) C c.solve.new.leads c.solve.new.space (lines_of (code o) (y o)))
    (count o) (rows-count (code o) (y o)) held
