-- `decode_rest` gathers the remaining columns, and has their array decoded.
use Rattle.std.proofs.Common.{◌≡◌, ◌*◌, ◌≤◌, ◌∙◌, List, ℕ, sym, ap, arith, length, take, replicate}
use native.Mathlib.Nat.{mul-le-mul}
use lib.Seq.{length-take-le, length_front, take_at}
use Rattle.patch.specs.Parts.{lay}
use Rattle.patch.proofs.Parts.{take-lay, length-lay}
use Rattle.codes.specs.Code.{Code, code_of, rows, columns}
use Rattle.codes.specs.Lost.{lost_flags, core, core_of}
use Rattle.codes.proofs.Lost.{lost_length, core_few, core_array}
use Rattle.joint.specs.Promises.{buffers}
use Rattle.joint.specs.Working.{ReadyLost}
use Rattle.remaining.proofs.Fronts.{lost_front}
use Rattle.joint.proofs.Lost.{rest_ready}
use Rattle.joint.proofs.decode_rest.Goals.{After-gather_rows}
use Rattle.joint.proofs.decode_rest.Goals as goal

-- where the points of the remaining columns are gathered, and their symbols
module _ (c : After-gather_rows) where
  abbrev code : Code
  code = code_of c.args.field.now.degree c.args.points.now c.args.lengths.now

  abbrev L : List ℕ
  L = c.args.lost.now

  abbrev y : List ℕ
  y = c.args.received.now

  abbrev rest : Code
  rest = core code L

  ready : ReadyLost code c.args.limit L y
  ready = c.requires.ready_lost.0

  few : columns code ≤ 96
  few = ready.counts.most_columns

  gone : take (columns code) c.lost_flags-gone.result ≡ lost_flags (columns code) L
  gone = lost_front (columns code) L few c.lost_flags-gone.ensures

  -- their number
  abbrev n : ℕ
  n = c.gather-n.result

  left : n ≡ columns rest
  left = rw gone at c.gather-n.ensures.0

  room : n ≤ 96
  room = omega (arith, left, core_few code L, few)

  held : c.gather-n.new.s ≡ lay 0 rest.points (replicate 96 0)
  held = rw gone at c.gather-n.ensures.1

  points : take n c.gather-n.new.s ≡ rest.points
  points = take-lay rest.points (replicate 96 0) held (sym left) (omega (arith, room))

  held_room : n ≤ length c.gather-n.new.s
  held_room = omega (arith, ap length held ∙ length-lay 0 rest.points (replicate 96 0), room)

  count : rows code * n ≡ rows code * columns rest
  count = ap (◌*◌ (rows code)) left

  few_cells : rows code * n ≤ 384
  few_cells = mul-le-mul ready.counts.most_rows room

  kept : c.gather_rows.new.s ≡ lay 0 (core_of code L y) (replicate 384 0)
  kept = rw (gone, lost_length (columns code) L) at c.gather_rows.ensures

  symbols : take (rows code * n) c.gather_rows.new.s ≡ core_of code L y
  symbols = take-lay (core_of code L y) (replicate 384 0) kept ((core_array code L ready.received).count ∙ sym count)
      (omega (arith, few_cells))

  kept_room : rows code * n ≤ length c.gather_rows.new.s
  kept_room = omega (arith, ap length kept ∙ length-lay 0 (core_of code L y) (replicate 384 0), few_cells)

  wrong_room : n ≤ length c.args.wrong.now
  wrong_room = omega (arith, room, c.requires.ready_lost.2)

  wrong_size : length (take n c.args.wrong.now) ≡ n
  wrong_size = length-take-le n c.args.wrong.now wrong_room

pub overflow_mul-cells : goal.overflow_mul-cells
overflow_mul-cells c = omega (arith, few_cells (goal.at.overflow_mul-cells c).After-gather_rows)

pub slice_bounds-held-end : goal.slice_bounds-held-end
slice_bounds-held-end c = held_room (goal.at.slice_bounds-held-end c).After-gather_rows

pub slice_bounds-work_whole-end : goal.slice_bounds-work_whole-end
slice_bounds-work_whole-end c =
    sym (length-take-le _ c.gather-n.new.s (held_room (goal.at.slice_bounds-work_whole-end c).After-gather_rows))

pub slice_bounds-kept-end : goal.slice_bounds-kept-end
slice_bounds-kept-end c = kept_room (goal.at.slice_bounds-kept-end c).After-gather_rows

pub slice_bounds-work_whole-end-3 : goal.slice_bounds-work_whole-end-3
slice_bounds-work_whole-end-3 c =
    sym (length-take-le _ c.gather_rows.new.s (kept_room (goal.at.slice_bounds-work_whole-end-3 c).After-gather_rows))

pub slice_bounds-own-end : goal.slice_bounds-own-end
slice_bounds-own-end c = few_cells (goal.at.slice_bounds-own-end c).After-gather_rows

pub slice_bounds-work_whole-end-4 : goal.slice_bounds-work_whole-end-4
slice_bounds-work_whole-end-4 c =
    sym (length-take-le _ (replicate 384 0) (few_cells (goal.at.slice_bounds-work_whole-end-4 c).After-gather_rows))

pub slice_bounds-work_whole-end-5 : goal.slice_bounds-work_whole-end-5
slice_bounds-work_whole-end-5 c = wrong_room (goal.at.slice_bounds-work_whole-end-5 c).After-gather_rows

pub slice_bounds-work_whole-end-6 : goal.slice_bounds-work_whole-end-6
slice_bounds-work_whole-end-6 c = sym (wrong_size (goal.at.slice_bounds-work_whole-end-6 c).After-gather_rows)

pub work_whole-requires-clause-ready : goal.work_whole-requires-clause-ready
work_whole-requires-clause-ready c =
    let g = (goal.at.work_whole-requires-clause-ready c).After-gather_rows in
    rw (points g, symbols g) (rest_ready (ready g), (ready g).remain.limit)

pub returns : goal.returns
returns c =
    let g = (goal.at.returns c).After-gather_rows in
    let flags = c.work_whole.new.flags in
    let sized = c.work_whole.auto.flags in (
      record {
        lent = _;
        left = buffers c.work_whole.new.answer flags;
        ends = rw (points g, symbols g) at c.work_whole.ensures;
        flags = sym (take_at flags _ _ (sized ∙ wrong_size g ∙ left g));
      },
      length_front c.args.wrong.now flags (n g) sized ∙ c.requires.ready_lost.2,
    )
