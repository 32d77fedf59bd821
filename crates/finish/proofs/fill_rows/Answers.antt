-- `fill_rows` fills in one row after the other.
use Rattle.std.proofs.Common.{◌≡◌, ◌+◌, ◌*◌, ◌-◌, ◌≤◌, ◌<◌, ◌∙◌, List, ℕ, refl, sym, ap, arith, length, get_or, take, drop}
use lib.ListN.{drop_of_length-le}
use lib.Seq.{length-take-le, take-take}
use Rattle.patch.specs.Parts.{lay}
use Rattle.patch.proofs.Parts.{lay_none}
use Rattle.field.specs.Symbols.{IsSymbol}
use Rattle.field.specs.Arithmetic.{gf}
use Rattle.rows.specs.Working.Rows.{Inverses}
use Rattle.rows.proofs.Sharing.{fewer_rounds, fewer_points}
use Rattle.codes.specs.Code.{code_of, largest}
use Rattle.codes.proofs.Parts.{all_take, all_drop}
use Rattle.codes.proofs.Passed.{up_to_largest}
use Rattle.ending.proofs.Model.{filled_in, filled_rows}
use Rattle.conditions.proofs.Places.{RowAt, next_row, row_room, row_size}
use Rattle.conditions.proofs.Reduced.{row_within}
use Rattle.codes.proofs.Right.{all_right}
use Rattle.finish.specs.Working.{refilled, Filling}
use Rattle.finish.proofs.Marks.{right-most}
use Rattle.finish.proofs.Filled.{row_is, filled_more, flags_count, wrong_count_lem, enough_right, longest_right, right_points}
use Rattle.finish.proofs.fill_rows.Goals.{In-loop-k}
use Rattle.finish.proofs.fill_rows.Goals as goal

-- the row that a turn fills in
module _ (c : In-loop-k) where
  abbrev d : ℕ
  d = c.args.field.now.degree

  abbrev ks : List ℕ
  ks = c.args.lengths.now

  abbrev xs : List ℕ
  xs = c.args.points.now

  abbrev gs : List ℕ
  gs = c.args.good.now

  abbrev fs : List ℕ
  fs = c.args.flags.now

  abbrev ms : List ℕ
  ms = c.args.marks.now

  abbrev y : List ℕ
  y = c.args.received.now

  abbrev asked : Filling (code_of d xs ks) gs c.args.wrong.now fs ms y c.args.s.now
  asked = c.requires.filling

  abbrev l : ℕ
  l = c.loop-k.k-index

  abbrev at : ℕ
  at = c.loop-k.at

  abbrev k : ℕ
  k = get_or ks l 0

  abbrev row : List ℕ
  row = take (length xs) (drop at y)

  abbrev place : RowAt (length xs) ks l at
  place = c.loop-k.invariant.0

  abbrev more : l < length ks
  more = c.loop-k-test.true

  room_left : at + length xs ≤ length ks * length xs
  room_left = row_room (length xs) ks place more

  whole : length row ≡ length xs
  whole = row_size (length xs) ks place more y asked.ready.received.count

  flags : length fs ≡ length xs
  flags = flags_count asked.marked

  enough : k ≤ length gs
  enough = omega (arith, ap length asked.good, enough_right asked.marked xs refl l more)

  nodes : {m : ℕ} → m ≡ k → length (take m gs) ≡ m
  nodes {m} e = length-take-le m gs (omega (arith, enough))

  -- the inverses of the longest row's rounds serve every row
  lent : {m : ℕ} → m ≡ k → Inverses d (take m gs) m c.args.ws.now
  lent {m} e =
      let most : ℕ = largest ks in
      let few : k ≤ most = up_to_largest ks l more in
      let size : length (take most gs) ≡ most = length-take-le most gs (longest_right asked.marked asked.good) in
      let fewer = fewer_points _ _ c.requires.inverses k (omega arith) in
      rw e (rw (take-take k most gs few) at (fewer_rounds _ _ fewer few))

  same : refilled d (take k gs) c.args.wrong.now fs ms row ≡ filled_in (gf d) k fs xs row
  same =
      row_is d k ms xs row (ap (take k) asked.good) asked.wrong asked.marked.flags asked.marked.count whole
      (enough_right asked.marked xs refl l more)

  more_filled : {t : List ℕ} → t ≡ lay at (filled_in (gf d) k fs xs row) c.loop-k.s
      → lay (at + length xs) (filled_rows (gf d) fs xs (drop (l + 1) ks) (drop (at + length xs) y)) t
      ≡ lay 0 (filled_rows (gf d) fs xs ks y) c.args.s.now
  more_filled is =
      filled_more d fs xs flags ks y asked.ready.received.count place more c.loop-k.s is
      (omega (arith, asked.ready.counts.cells, asked.long))
      ∙ c.loop-k.invariant.1

pub slice_bounds-fill_row-end : goal.slice_bounds-fill_row-end
slice_bounds-fill_row-end c = sym (nodes (goal.at.slice_bounds-fill_row-end c).In-loop-k c.from.ensures)

pub fill_row-requires-clause-points : goal.fill_row-requires-clause-points
fill_row-requires-clause-points c =
    let a = c.args in
    let asked = c.requires.filling in (
      right_points asked.marked asked.good asked.ready.proper c.from.result,
      rw asked.wrong (all_right (IsSymbol a.field.now.degree) a.marks.now a.points.now asked.ready.proper.symbols),
    )

pub fill_row-requires-clause-row_len : goal.fill_row-requires-clause-row_len
fill_row-requires-clause-row_len c =
    let t = (goal.at.fill_row-requires-clause-row_len c).In-loop-k in
    let a = c.args in
    let asked = c.requires.filling in
    let n : ℕ = length a.points.now in
    let part : c.loop-k.at + n - c.loop-k.at ≡ n = omega arith in (
      rw part (whole t ∙ sym (flags t)),
      asked.marked.count ∙ sym (flags t),
      omega (arith, flags t, asked.ready.counts.most_columns),
      all_take (IsSymbol a.field.now.degree) (c.loop-k.at + n - c.loop-k.at) (drop c.loop-k.at a.received.now)
          (all_drop (IsSymbol a.field.now.degree) c.loop-k.at a.received.now asked.ready.received.symbols),
    )

pub fill_row-requires-clause-nodes_nonzero : goal.fill_row-requires-clause-nodes_nonzero
fill_row-requires-clause-nodes_nonzero c =
    let t = (goal.at.fill_row-requires-clause-nodes_nonzero c).In-loop-k in
    let a = c.args in
    let asked = c.requires.filling in
    let n : ℕ = length a.points.now in
    let part : c.loop-k.at + n - c.loop-k.at ≡ n = omega arith in
    let size = nodes t c.from.ensures in (
      omega (arith, size, (row_within a.points.now a.field.now.degree a.lengths.now asked.ready.counts c.loop-k.k-index c.loop-k-test.true).0),
      rw (size, part) (omega (arith, enough_right asked.marked (row t) (whole t) c.loop-k.k-index c.loop-k-test.true)),
      omega (arith, ap length asked.wrong, right-most a.marks.now a.points.now, asked.marked.count, asked.ready.counts.most_columns),
    )

pub fill_row-requires-clause-marks_value : goal.fill_row-requires-clause-marks_value
fill_row-requires-clause-marks_value c =
    let t = (goal.at.fill_row-requires-clause-marks_value c).In-loop-k in
    let asked = c.requires.filling in (
      rw asked.wrong (wrong_count_lem asked.marked),
      omega (arith, flags t, room_left t, asked.ready.counts.cells, asked.long),
      rw (nodes t c.from.ensures) (lent t c.from.ensures),
    )

pub loop-k-preserved : goal.loop-k-preserved
loop-k-preserved c =
    let t = (goal.at.loop-k-preserved c).In-loop-k in
    let a = c.args in
    let n : ℕ = length a.points.now in
    let part : c.loop-k.at + n - c.loop-k.at ≡ n = omega arith in
    let stored = rw (c.from.ensures, part) at c.fill_row.ensures in
    (next_row n a.lengths.now (place t) (more t), more_filled t (stored ∙ ap (λ (v : List ℕ). lay c.loop-k.at v c.loop-k.s) (same t)))

pub returns : goal.returns
unfolding filled_rows
returns c =
    let none = drop_of_length-le c.args.lengths.now c.loop-k-test.false in
    sym (lay_none c.loop-k.at c.loop-k.s) ∙ rw none at c.loop-k.invariant.1
