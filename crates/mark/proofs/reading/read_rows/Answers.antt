-- `reading::read_rows` reads row after row, as long as the rows are rows of the code.
use Rattle.std.proofs.Common.{ℕ, ◌+◌, List, length, drop, length-drop, inl, inr, sym, rules, ◌∙◌, arith}
use mathlib.Core.Bool.{true≢false}
use lib.Seq.{length-take-le}
use Rattle.rows.proofs.Sharing.{fewer_rounds}
use Rattle.codes.specs.Code.{code_of}
use Rattle.codes.proofs.Parts.{all_take, all_drop}
use Rattle.codes.proofs.Passed.{up_to_largest}
use Rattle.codes.proofs.Messages.{message_rows, message_of, array_message, its_message, code_array_exactly}
use Rattle.mark.proofs.Rows.{Place, Taken, taken, none_left, laid-first, laid_next, laid_last, bounds, message_more, reduced_more}
use Rattle.mark.proofs.reading.read_rows.Goals.{After-from-k}
use Rattle.mark.proofs.reading.read_rows.Goals as goal

-- where a row's length is read: the row, and its places
next : (c : After-from-k) → let s = c.args in let i = c.loop-k.invariant in let left = c.next.new.self in
    Taken (length s.points.now) s.lengths.now s.array.now i.0 i.1 c.from-k.result c.in-Some.row.now left.a.rest.now left.b.rest.now
next c =
    let step = c.in-Some.ensures.steps in
    taken c.loop-k.invariant.2 (rw c.from-k.ensures step.0) step.1.1.0 (step.1.1.1 ∙ c.loop-k.invariant.3)

row : (c : After-from-k) → let s = c.args in let i = c.loop-k.invariant in
    Place (code_of s.field.now.degree s.points.now s.lengths.now) i.0 c.loop-k.at i.1 c.from-k.result
row c = record {
  counts = c.requires.reading.made.counts;
  before = c.loop-k.invariant.4.places;
  here = (next c).here;
  count = (next c).count;
}

pub loop-k-init : goal.loop-k-init
loop-k-init c = (0, 0, record { lengths = search rules; symbols = search rules }, search rules, laid-first _ _ _, (λ z. z, λ z. z))

pub read_row-requires : goal.read_row-requires
read_row-requires c =
    let here = (goal.at.read_row-requires c).After-from-k in
    let r = row here in
    let own = c.loop-k in
    let p = c.requires.reading in
    let b = bounds r in
    let n : ℕ = length c.args.points.now in
    let y : List ℕ = drop own.invariant.1 c.args.array.now in
    rw (next here).symbols (record {
      row = record {
        points = record { symbols = p.made.proper.symbols; distinct = p.made.proper.distinct };
        most_points = b.most_columns;
        length_in = b.most;
        count = length-take-le n y (omega (arith, b, length-drop own.invariant.1 c.args.array.now, p.array.count));
        symbols = all_take _ n y (all_drop _ own.invariant.1 _ p.array.symbols);
        inverses = rw r.count (fewer_rounds _ _ c.requires.inverses (up_to_largest c.args.lengths.now own.invariant.0 r.here));
      };
      room = omega (arith, b, own.invariant.4.same, p.made.room);
    })

pub overflow_add-at : goal.overflow_add-at
overflow_add-at c = omega (arith, bounds (row (goal.at.overflow_add-at c).After-from-k))

pub returns-then-not-read_row : goal.returns-then-not-read_row
returns-then-not-read_row c =
    let here = goal.at.returns-then-not-read_row c in
    let p = c.requires.reading in
    let reduced = code_array_exactly p.made.proper p.array in
    let left = reduced_more (row here.After-from-k) c.args.array.now in
    let said = rw (next here.After-from-k).symbols at c.read_row.ensures in record {
      found = λ e. absurd (true≢false (sym e));
      none = λ e h. let z = (left.0 (c.loop-k.invariant.5.1 (reduced.0 h))).0 in
          true≢false (sym (said.zeros.1 z) ∙ c.if-not-read_row.true);
    }

pub loop-k-preserved : goal.loop-k-preserved
loop-k-preserved c =
    let here = goal.at.loop-k-preserved c in
    let r = row here.After-from-k in
    let said = rw (next here.After-from-k).symbols at c.read_row.ensures in
    let p = c.requires.reading in
    let i = c.loop-k.invariant in
    let a = c.args.array.now in
    let left = reduced_more r a in (
      i.0 + 1,
      i.1 + length c.args.points.now,
      (next here.After-from-k).left,
      c.in-Some.ensures.steps.1.0 ∙ i.3,
      laid_next i.4 r c.read_row.auto.s
          (message_more r p.made.proper a p.array.count c.loop-k.s
          (omega (arith, (bounds r).coefficients, i.4.same, p.made.room)) said.polynomial),
      (λ z. i.5.0 (left.1 (said.zeros.0 c.if-not-read_row.false, z)), λ z. (left.0 (i.5.1 z)).1),
    )

pub returns : goal.returns
unfolding message_rows
returns c =
    let p = c.requires.reading in
    let a = c.args.array.now in
    let i = c.loop-k.invariant in
    let none = none_left i.2 i.4.places p.array.count (elim c.in-None.ensures.steps [
      | inl w ↦ inl w.1.0
      | inr w ↦ inr (rw i.3 at w.1.1.0)
    ]) in record {
      found = λ e. (
        message_of (code_of c.args.field.now.degree c.args.points.now c.args.lengths.now) a,
        array_message p.made.proper p.array,
        its_message p.made.proper p.array (i.5.0 (rw none tt)),
        laid_last i.4 (rw none),
      );
      none = λ e. absurd (true≢false e);
    }
