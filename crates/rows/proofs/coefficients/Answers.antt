-- `coefficients` goes from the last Newton coefficient to the first.
use Rattle.std.proofs.Common.{ℕ, List, ◌≡◌, ◌+◌, ◌-◌, ◌≤◌, ◌<◌, ap, arith, length, ◌∙◌}
use Rattle.patch.specs.Parts.{lay}
use Rattle.rows.proofs.Newton.{rising_start, rising_less, rising-end}
use Rattle.rows.proofs.coefficients.Goals as goal

pub loop-j-init : goal.loop-j-init
loop-j-init c =
    let r = c.requires in
    (c.store.auto.s, rising_start _ c.args.field.now.degree_value _ _ r.us_in_bounds.0 400 (omega (arith, r.us_in_bounds)) c.store.ensures)

pub loop-j-preserved : goal.loop-j-preserved
loop-j-preserved c =
    let r = c.requires in
    let turn = c.loop-j in
    let more : 0 < turn.j = omega arith in
    let m = c.next_multiple_of-m in
    let reached : length c.args.us.now - turn.j ≤ m.result = omega (arith, m.ensures.lower_bound) in
    let fits : turn.j - 1 + m.result < length turn.w = omega (arith, m.ensures.upper_bound, turn.invariant.0, r.us_in_bounds) in (
      c.carry_times.auto.s ∙ turn.invariant.0,
      rising_less _ c.args.field.now.degree_value _ _ r.us_in_bounds.0 more (omega arith) reached fits turn.invariant.1 c.carry_times.ensures,
    )

pub returns : goal.returns
returns c =
    let r = c.requires in
    let done : c.loop-j.j ≡ 0 = omega arith in
    c.store-2.ensures
    ∙ ap (λ (v : List ℕ). lay c.args.at v c.args.s.now)
    (rising-end _ c.args.field.now.degree_value _ _ r.us_in_bounds.0 done (omega (arith, c.loop-j.invariant.0, r.us_in_bounds)) c.loop-j.invariant.1)
