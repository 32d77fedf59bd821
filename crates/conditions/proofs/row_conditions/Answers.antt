-- `row_conditions` reduces the row in an array of its own, and stores what is left behind the Newton coefficients.
use Rattle.std.proofs.Common.{◌-◌, List, ℕ, refl, ap, ◌∙◌, arith, length, drop, replicate, length-drop}
use lib.Seq.{take_all}
use Rattle.patch.specs.Parts.{lay}
use Rattle.rows.proofs.Symbols.{symbols_held}
use Rattle.rows.proofs.Reduced.{held_rest}
use Rattle.conditions.proofs.row_conditions.Goals as goal

pub reduce-requires-clause-symbols_at : goal.reduce-requires-clause-symbols_at
reduce-requires-clause-symbols_at c =
    let p = c.requires.k_in_bounds in (
      symbols_held c.args.field.now.degree c.args.row.now 112 c.store.ensures (omega (arith, p)) (omega (arith, p)) p.3,
      c.requires.k_in_bounds_2.2,
    )

pub returns : goal.returns
returns c =
    let a = c.args in
    let p = c.requires.k_in_bounds in
    let xs = a.points.now in
    let left = held_rest a.field.now.degree a.k xs a.row.now (replicate 112 0) _ p.2 (omega (arith, p))
    c.store.ensures c.reduce.ensures refl in
    let rest = take_all (length xs - a.k) (drop a.k xs) (omega (arith, length-drop a.k xs)) in (
      c.store-2.ensures ∙ ap (λ (v : List ℕ). lay a.at v a.us.now) left,
      c.store-3.ensures ∙ ap (λ (v : List ℕ). lay a.at v a.xs.now) rest,
    )
