-- `fill` gathers the points of the right columns and of the wrong ones.
use Rattle.std.proofs.Common.{◌≡◌, ◌≤◌, List, ℕ, sym, ap, ◌∙◌, arith, length, take, replicate}
use lib.Seq.{length-take-le}
use Rattle.patch.specs.Parts.{lay}
use Rattle.patch.proofs.Parts.{take-lay}
use Rattle.codes.specs.Lost.{right}
use Rattle.finish.specs.Working.{zeros_in}
use Rattle.finish.proofs.Marks.{right-most, zeros-count}
use Rattle.finish.proofs.fill.Goals as goal

-- columns gathered in an array of our own
module _ (fs xs : List ℕ) (few : length fs ≤ 96) {n : ℕ} (s : List ℕ) (count : n ≡ length (right fs xs)) (long : length s ≡ 96) where
  room : n ≤ length s
  room = omega (arith, right-most fs xs)

  size : n ≡ length (take n s)
  size = sym (length-take-le n s room)

  are : s ≡ lay 0 (right fs xs) (replicate 96 0) → take n s ≡ right fs xs
  are gathered = take-lay (right fs xs) (replicate 96 0) gathered (sym count) (omega (arith, right-most fs xs))

flagged : {fs : List ℕ} (ms : List ℕ) {n : ℕ} → fs ≡ zeros_in ms → length ms ≡ n → length fs ≡ n
flagged ms flags count = ap length flags ∙ zeros-count ms ∙ count

pub gather-g-requires : goal.gather-g-requires
gather-g-requires c =
    let flags = flagged c.args.marks.now c.requires.flags_value.0 c.requires.flags_value.1 in
    (sym flags, omega (arith, flags, c.requires.ready.counts.most_columns))

pub slice_bounds-good-end : goal.slice_bounds-good-end
slice_bounds-good-end c =
    room c.args.flags.now c.args.points.now
    (omega (arith, flagged c.args.marks.now c.requires.flags_value.0 c.requires.flags_value.1, c.requires.ready.counts.most_columns))
    _ c.gather-g.ensures.0 c.gather-g.auto.s

pub slice_bounds-fill_wrong-end : goal.slice_bounds-fill_wrong-end
slice_bounds-fill_wrong-end c =
    size c.args.flags.now c.args.points.now
    (omega (arith, flagged c.args.marks.now c.requires.flags_value.0 c.requires.flags_value.1, c.requires.ready.counts.most_columns))
    _ c.gather-g.ensures.0 c.gather-g.auto.s

pub slice_bounds-wrong-end : goal.slice_bounds-wrong-end
slice_bounds-wrong-end c =
    room c.args.marks.now c.args.points.now (omega (arith, c.requires.flags_value.1, c.requires.ready.counts.most_columns))
    _ c.gather-w.ensures.0 c.gather-w.auto.s

pub slice_bounds-fill_wrong-end-2 : goal.slice_bounds-fill_wrong-end-2
slice_bounds-fill_wrong-end-2 c =
    size c.args.marks.now c.args.points.now (omega (arith, c.requires.flags_value.1, c.requires.ready.counts.most_columns))
    _ c.gather-w.ensures.0 c.gather-w.auto.s

pub fill_wrong-requires : goal.fill_wrong-requires
fill_wrong-requires c =
    let m = c.requires.flags_value in
    let few = c.requires.ready.counts.most_columns in
    let flags = flagged c.args.marks.now m.0 m.1 in
    record {
      ready = c.requires.ready;
      long = c.requires.s_len;
      marked = record { flags = m.0; count = m.1; room = m.2 };
      good = are c.args.flags.now c.args.points.now (omega (arith, flags, few)) _ c.gather-g.ensures.0 c.gather-g.auto.s c.gather-g.ensures.1;
      wrong = are c.args.marks.now c.args.points.now (omega (arith, m.1, few)) _ c.gather-w.ensures.0 c.gather-w.auto.s c.gather-w.ensures.1;
    }
