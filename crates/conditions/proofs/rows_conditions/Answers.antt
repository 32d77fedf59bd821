-- `conditions::rows_conditions` lays the conditions of each row behind those of the row before.
use Rattle.std.proofs.Common.{ℕ, ◌+◌, ◌-◌, ◌≤◌, length, drop, inl, inr, refl, sym, rules, ◌∙◌, arith}
use Rattle.patch.proofs.Parts.{lay_none}
use Rattle.field.specs.Symbols.{IsSymbol}
use Rattle.rows.proofs.Sharing.{fewer_rounds}
use Rattle.codes.proofs.Parts.{all_take, all_drop}
use Rattle.codes.proofs.Passed.{up_to_largest}
use Rattle.conditions.specs.Working.{reduced_points, reduced_values}
use Rattle.conditions.proofs.Places.{Taken, taken, left_next, none_left}
use Rattle.conditions.proofs.Reduced.{most_points, row_within, points_count, points_more, values_more}
use Rattle.conditions.proofs.rows_conditions.Goals.{After-from-k}
use Rattle.conditions.proofs.rows_conditions.Goals as goal

-- where a row's length is read: the row, and room for its conditions
next : (c : After-from-k) → let s = c.args in let i = c.loop-k.invariant in let left = c.next.new.self in
    Taken (length s.points.now) s.lengths.now s.received.now i.0 i.1 c.from-k.result c.in-Some.row.now left.a.rest.now left.b.rest.now
next c =
    let step = c.in-Some.ensures.steps in
    taken c.loop-k.invariant.2 (rw c.from-k.ensures step.0) step.1.1.0 step.1.1.1

few : (c : After-from-k) → let s = c.args in c.loop-k.at + (length s.points.now - c.from-k.result) ≤ 384
few c =
    let xs = c.args.points.now in
    let ks = c.args.lengths.now in
    omega (
      arith,
      most_points xs c.args.field.now.degree ks c.requires.ready.counts,
      points_count xs ks (next c).here,
      c.loop-k.invariant.3,
      (next c).count,
    )

pub loop-k-init : goal.loop-k-init
loop-k-init c = (
  0,
  0,
  record { place = search rules; lengths = search rules; symbols = search rules; chunks = search rules },
  omega arith,
  refl,
  refl,
)

pub row_conditions-requires-clause-k_in_bounds : goal.row_conditions-requires-clause-k_in_bounds
row_conditions-requires-clause-k_in_bounds c =
    let t = next (goal.at.row_conditions-requires-clause-k_in_bounds c).After-from-k in
    let i = c.loop-k.invariant in
    let p = c.requires.ready in
    let n : ℕ = length c.args.points.now in
    let y = c.args.received.now in
    let within = row_within c.args.points.now c.args.field.now.degree c.args.lengths.now p.counts i.0 t.here in (
      omega (arith, within, t.count),
      p.counts.most_columns,
      c.in-Some.ensures.steps.1.1.1 ∙ i.2.chunks,
      rw t.symbols (all_take (IsSymbol c.args.field.now.degree) n (drop i.1 y) (all_drop (IsSymbol c.args.field.now.degree) i.1 y p.received.symbols)),
    )

pub row_conditions-requires-clause-k_in_bounds_2 : goal.row_conditions-requires-clause-k_in_bounds_2
row_conditions-requires-clause-k_in_bounds_2 c =
    let here = (goal.at.row_conditions-requires-clause-k_in_bounds_2 c).After-from-k in
    let t = next here in
    let p = c.requires.us_len in (
      omega (arith, few here, p.0),
      omega (arith, few here, p.1),
      rw t.count (fewer_rounds _ _ p.2 (up_to_largest c.args.lengths.now c.loop-k.invariant.0 t.here)),
    )

pub overflow_add-at : goal.overflow_add-at
overflow_add-at c = omega (arith, few (goal.at.overflow_add-at c).After-from-k)

pub loop-k-preserved : goal.loop-k-preserved
loop-k-preserved c =
    let t = next (goal.at.loop-k-preserved c).After-from-k in
    let own = c.loop-k in
    let i = own.invariant in
    let p = c.requires in
    let xs = c.args.points.now in
    let ks = c.args.lengths.now in
    let y = c.args.received.now in
    let stored = rw (t.count, t.symbols) at c.row_conditions.ensures in
    let most = most_points xs c.args.field.now.degree ks p.ready.counts in (
      i.0 + 1,
      i.1 + length xs,
      left_next i.2 t c.in-Some.ensures.steps.1.0,
      omega (arith, points_count xs ks t.here, i.3, t.count),
      rw t.count (values_more c.args.field.now.degree p.ready.proper.field xs ks y p.ready.received.count i.2.place t.here own.at own.us stored.0
          (omega (arith, most, i.3, p.us_len.0))) ∙ i.4,
      rw t.count (points_more xs ks t.here own.at own.xs stored.1 (omega (arith, most, i.3, p.us_len.1))) ∙ i.5,
    )

pub returns : goal.returns
unfolding reduced_points reduced_values
returns c =
    let own = c.loop-k in
    let i = own.invariant in
    let none = none_left i.2 c.requires.ready.received.count (elim c.in-None.ensures.steps [
      | inl w ↦ inl w.1.0
      | inr w ↦ inr w.1.1.0
    ]) in (
      omega (arith, rw none at i.3),
      sym (lay_none own.at own.us) ∙ rw none at i.4,
      sym (lay_none own.at own.xs) ∙ rw none at i.5,
    )
