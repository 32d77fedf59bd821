-- `divide` counts the roots among the points, and fills in the wrong columns where they are as many as the size.
use Rattle.std.proofs.Common.{◌≡◌, ◌≤◌, List, ℕ, ap, ◌∙◌, arith, length, replicate}
use mathlib.Core.Path.{ap₂}
use Rattle.codes.specs.Code.{Code, code_of, total}
use Rattle.codes.proofs.Limits.{joint_less}
use Rattle.ending.specs.Endings.{Buffers}
use Rattle.ending.specs.declared.Ending.TheVariants.{Corrected, Hollow}
use Rattle.ending.proofs.WrongColumns.{root_count}
use Rattle.finish.proofs.Divided.{Flagged, flagged, roots_room, fronts_are, divided_hollow, divided-corrected}
use Rattle.finish.proofs.divide.Goals.{After-flag_zeros-count}
use Rattle.finish.proofs.divide.Goals as goal

-- where the flags are set
module _ (c : After-flag_zeros-count) where
  abbrev code : Code
  code = code_of c.args.field.now.degree c.args.points.now c.args.lengths.now

  abbrev E : List ℕ
  E = c.args.locator.now

  known : Flagged code E c.values.new.s c.flag_zeros-count.new.flags
  known =
      let few = c.requires.ready.counts.most_columns in
      flagged c.requires.ready.proper E (replicate 96 0) c.args.flags.now (rw c.reducer.ensures at c.values.ensures)
      c.flag_zeros-count.ensures.1 (omega (arith, few)) (omega (arith, few, c.requires.array_len.1))

  counted : c.flag_zeros-count.result ≡ root_count code E
  counted = c.flag_zeros-count.ensures.0 ∙ ap total known.roots

  small : length E ≤ 96
  small =
      omega (arith, c.requires.ready.counts.most_columns, joint_less c.requires.ready.proper c.requires.ready.counts, c.requires.all.2)

pub values-requires-clause-p_nonzero : goal.values-requires-clause-p_nonzero
values-requires-clause-p_nonzero c =
    let r = c.requires.ready in
    (c.requires.all.1, omega (arith, r.counts.most_columns, joint_less r.proper r.counts, c.requires.all.2), omega (arith, r.counts.most_columns))

pub overflow_cast-result : goal.overflow_cast-result
overflow_cast-result c = omega (arith, small (goal.at.overflow_cast-result c).After-flag_zeros-count)

pub returns-then-count-t : goal.returns-then-count-t
returns-then-count-t c = λ lent t e.
    let f = (goal.at.returns-then-count-t c).After-flag_zeros-count in
    let h = counted f in
    divided_hollow (code f) c.args.received.now lent t (E f) (λ q. c.if-count-t.true (omega arith)) _
    ∙ ap (λ (k : ℕ). (Hollow k, lent)) (omega arith)

pub fill-requires-clause-flags_value : goal.fill-requires-clause-flags_value
fill-requires-clause-flags_value c =
    let f = (goal.at.fill-requires-clause-flags_value c).After-flag_zeros-count in
    let h = counted f in
    let room = roots_room (known f) c.requires.ready.proper (omega (arith, c.if-count-t.false, c.requires.all)) in
    ((known f).flags, (known f).count, room)

pub overflow_cast-result-2 : goal.overflow_cast-result-2
overflow_cast-result-2 c = omega (arith, small (goal.at.overflow_cast-result-2 c).After-flag_zeros-count)

pub returns : goal.returns
returns c = λ lent t e.
    let f = (goal.at.returns c).After-flag_zeros-count in
    let h = counted f in
    let r = c.requires.ready in
    divided-corrected (code f) c.args.received.now lent t (E f) (omega (arith, c.if-count-t.false)) _
    ∙ ap₂ (λ (k : ℕ) (b : Buffers). (Corrected k, b)) (omega arith)
    (fronts_are (known f) r.counts r.received c.args.array.now c.fill.ensures c.requires.array_len.0)
