-- `fill_row` gathers the right columns, and merges the row with the values at the wrong points.
use Rattle.std.proofs.Common.{◌≡◌, ◌-◌, ◌≤◌, ◌∙◌, List, ℕ, suc, sym, ap, arith, length, take, replicate}
use lib.Seq.{length-take-le}
use Rattle.patch.specs.Parts.{lay}
use Rattle.field.specs.Symbols.{IsSymbol}
use Rattle.field.specs.Arithmetic.{gf}
use Rattle.field.proofs.Instance.{field}
use Rattle.field.proofs.Laws.{Field}
use Rattle.poly.proofs.Differences.{symbols_reduce}
use Rattle.codes.specs.Lost.{right}
use Rattle.codes.proofs.Parts.{all_take}
use Rattle.codes.proofs.Right.{all_right}
use Rattle.rows.specs.Working.Rows.{newton_values}
use Rattle.rows.proofs.Symbols.{symbols_held}
use Rattle.rows.proofs.Sharing.{fewer_rounds}
use Rattle.finish.specs.Working.{put, refilled}
use Rattle.finish.proofs.Marks.{right-most}
use Rattle.finish.proofs.Filled.{coefficients, newton, row_filled}
use Rattle.finish.proofs.fill_row.Goals.{After-reduce}
use Rattle.finish.proofs.fill_row.Goals as goal

most : (fs ys : List ℕ) → length fs ≤ 96 → length (right fs ys) ≤ 96
most fs ys h = omega (arith, right-most fs ys)

-- where the right columns' symbols are reduced
module _ (c : After-reduce) where
  abbrev d : ℕ
  d = c.args.field.now.degree

  abbrev gs : List ℕ
  gs = c.args.nodes.now

  abbrev fs : List ℕ
  fs = c.args.flags.now

  abbrev ys : List ℕ
  ys = c.args.row.now

  abbrev us : List ℕ
  us = c.reduce.new.s

  degree_field : Field (gf d)
  degree_field = field d c.args.field.now.degree_value

  few : length (right fs ys) ≤ 96
  few = most fs ys c.requires.row_len.2

  rounds : length gs ≡ suc (length gs - 1)
  rounds = omega (arith, c.requires.nodes_nonzero.0)

  room : length gs ≤ length us
  room = omega (arith, few, c.requires.nodes_nonzero.1, c.reduce.auto.s, c.gather.auto.s)

  is : take (length gs) us ≡ coefficients d gs fs ys
  is =
      newton d degree_field gs c.args.wrong.now fs c.args.marks.now ys (replicate 112 0) us
      c.gather.ensures.1 rounds c.reduce.ensures c.requires.nodes_nonzero.1 (omega (arith, few))

  -- and where the polynomial through them is evaluated at the wrong points
  merged : {vs : List ℕ} → vs ≡ lay 0 (newton_values d gs (take (length gs) us) c.args.wrong.now) (replicate 96 0)
      → put c.args.marks.now (take (length c.args.wrong.now) vs) ys ≡ refilled d gs c.args.wrong.now fs c.args.marks.now ys
  merged valued =
      row_filled d degree_field gs c.args.wrong.now fs c.args.marks.now ys (replicate 112 0) us
      c.gather.ensures.1 rounds c.reduce.ensures c.requires.nodes_nonzero.1 (omega (arith, few))
      (replicate 96 0) valued c.requires.nodes_nonzero.2

pub reduce-requires-clause-k_in_bounds : goal.reduce-requires-clause-k_in_bounds
reduce-requires-clause-k_in_bounds c =
    let few = most c.args.flags.now c.args.row.now c.requires.row_len.2 in
    let p = c.requires.nodes_nonzero in
    (omega arith, omega (arith, few, p.1), omega (arith, few, p.1, c.gather.auto.s))

pub reduce-requires-clause-symbols_at : goal.reduce-requires-clause-symbols_at
reduce-requires-clause-symbols_at c =
    let d = c.args.field.now.degree in
    let fs = c.args.flags.now in
    let ys = c.args.row.now in
    let few = most fs ys c.requires.row_len.2 in (
      symbols_held d (right fs ys) 112 c.gather.ensures.1 (omega (arith, few)) (omega (arith, few, c.requires.nodes_nonzero.1))
          (all_right (IsSymbol d) fs ys c.requires.row_len.3),
      fewer_rounds _ _ c.requires.marks_value.2 (omega arith),
    )

pub slice_bounds-us-end : goal.slice_bounds-us-end
slice_bounds-us-end c = room (goal.at.slice_bounds-us-end c).After-reduce

pub slice_bounds-evaluate-end : goal.slice_bounds-evaluate-end
slice_bounds-evaluate-end c = sym (length-take-le _ c.reduce.new.s (room (goal.at.slice_bounds-evaluate-end c).After-reduce))

pub evaluate-requires-clause-all : goal.evaluate-requires-clause-all
evaluate-requires-clause-all c =
    let r = (goal.at.evaluate-requires-clause-all c).After-reduce in
    let k : ℕ = length (gs r) in
    let kept = all_take (IsSymbol (d r)) k (right (fs r) (ys r)) (all_right (IsSymbol (d r)) (fs r) (ys r) c.requires.row_len.3) in
    rw c.reducer.ensures (
      c.requires.points.1,
      c.requires.points.0.symbols,
      rw (is r) (symbols_reduce (gf (d r)) (degree_field r) k (gs r) _ kept),
    )

pub returns : goal.returns
returns c =
    c.merge.ensures
    ∙ ap (λ (v : List ℕ). lay c.args.at v c.args.s.now) (merged (goal.at.returns c).After-reduce (rw c.reducer.ensures at c.evaluate.ensures))
