-- `end` answers a code array with itself, and has the rest located.
use Rattle.std.proofs.Common.{◌≡◌, ◌≤◌, ◌∙◌, List, ℕ, sym, ap, subst, arith, length, take, replicate}
use lib.Seq.{length-take-le}
use Rattle.patch.proofs.Parts.{take-lay}
use Rattle.codes.specs.Code.{Code, code_of}
use Rattle.codes.proofs.Parts.{take-replicate}
use Rattle.ending.specs.Endings.{Ends, Corrects}
use Rattle.ending.proofs.Model.{Outcome}
use Rattle.ending.proofs.ModelEnds.{model_ends}
use Rattle.ending.proofs.ModelCode.{code_ends}
use Rattle.conditions.specs.Working.{reduced_points, reduced_values}
use Rattle.conditions.proofs.Reduced.{most_points, length-values, all_reduced}
use Rattle.judging.proofs.end.Goals.{After-conditions-n}
use Rattle.judging.proofs.end.Goals as goal

-- where the conditions are worked out
module _ (c : After-conditions-n) where
  abbrev d : ℕ
  d = c.args.field.now.degree

  abbrev xs : List ℕ
  xs = c.args.points.now

  abbrev ks : List ℕ
  ks = c.args.lengths.now

  abbrev y : List ℕ
  y = c.args.received.now

  abbrev code : Code
  code = code_of d xs ks

  -- the values and the points, with room behind them
  abbrev us : List ℕ
  us = c.conditions-n.new.us

  abbrev ps : List ℕ
  ps = c.conditions-n.new.xs

  abbrev n : ℕ
  n = c.conditions-n.result

  few : n ≤ 380
  few = omega (arith, c.conditions-n.ensures.0, most_points xs d ks c.requires.ready.counts)

  values_room : n ≤ length us
  values_room = omega (arith, few, c.conditions-n.auto.us)

  points_room : n ≤ length ps
  points_room = omega (arith, few, c.conditions-n.auto.xs)

  points : take n ps ≡ reduced_points xs ks
  points = take-lay (reduced_points xs ks) (replicate 384 0) c.conditions-n.ensures.2 (sym c.conditions-n.ensures.0)
      (omega (arith, few))

  values : take n us ≡ reduced_values d xs ks y
  values = take-lay (reduced_values d xs ks y) (replicate 384 0) c.conditions-n.ensures.1
      (length-values d c.requires.ready.proper.field xs ks y c.requires.ready.received.count ∙ sym c.conditions-n.ensures.0)
      (omega (arith, few))

pub slice_bounds-us-end : goal.slice_bounds-us-end
slice_bounds-us-end c = values_room (goal.at.slice_bounds-us-end c).After-conditions-n

pub slice_bounds-all_zero-end : goal.slice_bounds-all_zero-end
slice_bounds-all_zero-end c =
    let o = (goal.at.slice_bounds-all_zero-end c).After-conditions-n in sym (length-take-le (n o) (us o) (values_room o))

-- a code array is its own answer
pub returns-then-all_zero : goal.returns-then-all_zero
returns-then-all_zero c = λ lent.
    let o = (goal.at.returns-then-all_zero c).After-conditions-n in
    let p = c.requires.ready in
    let a = c.args in
    let zeros = all_reduced (d o) p.proper.field (xs o) (ks o) (y o) (rw (values o) at (c.all_zero.ensures.0 c.if-all_zero.true)) in
    let array = take-lay (y o) a.array.now c.store.ensures p.received.count (omega (arith, p.counts.cells, c.requires.in_bounds.1)) in
    let flags = ap (take (length (xs o))) c.requires.in_bounds.2 ∙ take-replicate (length (xs o)) 96 0 p.counts.most_columns in
    subst (Corrects (code o) (y o) a.limit 0) (λ i. record { array = sym array i; flags = sym flags i })
    (code_ends p.proper p.received zeros a.limit lent)

pub slice_bounds-us-end-2 : goal.slice_bounds-us-end-2
slice_bounds-us-end-2 c = values_room (goal.at.slice_bounds-us-end-2 c).After-conditions-n

pub slice_bounds-locate-end : goal.slice_bounds-locate-end
slice_bounds-locate-end c =
    let o = (goal.at.slice_bounds-locate-end c).After-conditions-n in sym (length-take-le (n o) (us o) (values_room o))

pub slice_bounds-xs-end : goal.slice_bounds-xs-end
slice_bounds-xs-end c = points_room (goal.at.slice_bounds-xs-end c).After-conditions-n

pub slice_bounds-locate-end-2 : goal.slice_bounds-locate-end-2
slice_bounds-locate-end-2 c =
    let o = (goal.at.slice_bounds-locate-end-2 c).After-conditions-n in sym (length-take-le (n o) (ps o) (points_room o))

pub locate-requires-clause-us_value : goal.locate-requires-clause-us_value
locate-requires-clause-us_value c =
    let o = (goal.at.locate-requires-clause-us_value c).After-conditions-n in (values o, points o)

pub returns : goal.returns
returns c = λ lent.
    let o = (goal.at.returns c).After-conditions-n in
    let p = c.requires.ready in
    subst (λ (r : Outcome). Ends (code o) (y o) c.args.limit lent r.0 r.1) (c.locate.ensures lent)
    (model_ends p.proper p.received c.args.limit c.requires.limit_bound lent)
