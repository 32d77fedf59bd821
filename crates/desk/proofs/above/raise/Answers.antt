-- `raise` adds to the coefficients of row after row, from the row's length on, its change times the column's polynomial.
use Rattle.std.proofs.Common.{ℕ, List, ◌≡◌, ◌+◌, ◌*◌, ◌-◌, ◌≤◌, ap, arith, drop, get_or, length, refl, take, ◌∙◌}
use Rattle.std.proofs.lemmas.List.{take_rest}
use Rattle.refusal.proofs.Laws.{each_within}
use Rattle.field.specs.Symbols.{IsSymbol, plus}
use Rattle.field.proofs.Instance.{field}
use Rattle.lists.specs.Working.Lists.{added_at}
use Rattle.codes.proofs.Parts.{all-at}
use Rattle.codes.proofs.Proper.{lengths_test}
use Rattle.desk.specs.Working.{change}
use Rattle.desk.proofs.Columns.{row_end}
use Rattle.desk.proofs.Raising.{row_raised}
use Rattle.desk.proofs.above.raise.Goals.{In-loop-l}
use Rattle.desk.proofs.above.raise.Goals as goal

-- in a turn: the row lies in the array, and has at most as many symbols as the row's length says
module _ (c : In-loop-l) where
  abbrev n : ℕ
  n = length c.args.basis.now

  row : c.loop-l.l * n + n ≤ 64
  row = omega (arith, row_end (length c.args.lengths.now) n c.loop-l.l c.loop-l-test.true, c.requires.cells)

  most : get_or c.args.lengths.now c.loop-l.l 0 ≤ n
  most = (each_within 1 n c.args.lengths.now ((lengths_test 1 n c.args.lengths.now).1 c.requires.lengths) c.loop-l.l c.loop-l-test.true).1

  symbol : let s = c.args in
      IsSymbol s.field.now.degree (plus (get_or s.symbols.now c.loop-l.l 0) (get_or s.array.now (c.loop-l.l * n + s.column) 0))
  symbol = let p = c.requires in
      (field c.args.field.now.degree c.args.field.now.degree_value).plus_in _ _
      (all-at _ c.args.symbols.now c.loop-l.l 0 (omega (arith, p.count, c.loop-l-test.true)) p.symbols)
      (all-at _ c.args.array.now _ 0 (omega (arith, row, p.array_size, p.column)) p.array)

pub quotient-delta-requires : goal.quotient-delta-requires
unfolding plus
quotient-delta-requires c = let p = c.requires in
    let t = (goal.at.quotient-delta-requires c).In-loop-l in
    record { left = symbol t; right = p.factor.0; nonzero = p.factor.1 }

pub add_times-requires-clause-c_bound : goal.add_times-requires-clause-c_bound
add_times-requires-clause-c_bound c =
    rw c.quotient-delta.ensures ((field c.args.field.now.degree c.args.field.now.degree_value).over_in _ _)

pub loop-l-preserved : goal.loop-l-preserved
unfolding plus
loop-l-preserved c =
    let t = (goal.at.loop-l-preserved c).In-loop-l in
    let a = c.args in
    let k = c.from-k.result in
    let at = c.loop-l.l * length a.basis.now + k in
    let w : List ℕ = take (length a.basis.now - k) (drop k a.basis.now) in
    let is_change : c.quotient-delta.result ≡ change a.field.now.degree (length a.basis.now) a.column a.factor a.array.now a.symbols.now c.loop-l.l =
    c.quotient-delta.ensures in
    row_raised c.loop-l.invariant k at w c.from-k.ensures (omega (arith, most t, c.from-k.ensures)) refl (take_rest a.basis.now k)
    (omega (arith, row t, c.requires.room))
    (c.add_times.ensures ∙ ap (λ (x : ℕ). added_at a.field.now.degree x w c.loop-l.above at) is_change)
