-- `remaining::gather_rows` gathers one row after the other.
use Rattle.std.proofs.Common.{◌≡◌, ℕ, zero, suc, ◌+◌, ◌-◌, ◌*◌, ◌≤◌, ◌<◌, List, ◌++◌, length, take, drop, length-append, sym, ap, ◌∙◌, arith}
use native.Mathlib.Nat.{suc-mul}
use lib.ListN.{drop_of_length-le}
use lib.Seq.{drop-drop}
use Rattle.patch.specs.Parts.{lay}
use Rattle.patch.proofs.Parts.{lay_none, lay_rest, lay_behind}
use Rattle.codes.specs.Lost.{right, right_rows}
use Rattle.conditions.proofs.Places.{next, next_row, row_room}
use Rattle.finish.proofs.Marks.{right-most}
use Rattle.remaining.proofs.gather_rows.Goals.{After-gather-at}
use Rattle.remaining.proofs.gather_rows.Goals as goal

-- the rows that are left: the first, and the others
rows_more : (fs ks : List ℕ) (l from : ℕ) (y : List ℕ) → l < length ks
    → right_rows fs (length fs) (length (drop l ks)) (drop from y)
    ≡ right fs (take (length fs) (drop from y)) ++ right_rows fs (length fs) (length (drop (l + 1) ks)) (drop (from + length fs) y)
unfolding right_rows
rows_more fs ks l from y h = rw (next ks l h, drop-drop (length fs) from y)

rows_few : (fs : List ℕ) (r : ℕ) (y : List ℕ) → length (right_rows fs (length fs) r y) ≤ r * length fs
unfolding right_rows
rows_few fs zero y = omega arith
rows_few fs (suc r) y = omega (
  arith,
  suc-mul r (length fs),
  length-append (right fs (take (length fs) y)) (right_rows fs (length fs) r (drop (length fs) y)),
  right-most fs (take (length fs) y),
  rows_few fs r (drop (length fs) y),
)

-- what is gathered of the row that is lent
abbrev gathered : After-gather-at → List ℕ
gathered c = right c.args.gone.now (take (length c.args.gone.now) (drop c.loop.from c.args.received.now))

count : (c : After-gather-at) → c.gather-at.result ≡ length (gathered c)
count c = let all : c.loop.from + length c.args.gone.now - c.loop.from ≡ length c.args.gone.now = omega arith in
    rw all at c.gather-at.ensures.0

few : (c : After-gather-at) → c.gather-at.result ≤ length c.args.gone.now
few c = omega (arith, count c, right-most c.args.gone.now (take (length c.args.gone.now) (drop c.loop.from c.args.received.now)))

pub overflow_add-at : goal.overflow_add-at
overflow_add-at c =
    let room = row_room (length c.args.gone.now) c.args.lengths.now c.loop.invariant.0 c.loop-test.true in
    omega (arith, few (goal.at.overflow_add-at c).After-gather-at, room, c.loop.invariant.1, c.requires.0)

pub loop-preserved : goal.loop-preserved
loop-preserved c =
    let g = (goal.at.loop-preserved c).After-gather-at in
    let fs = c.args.gone.now in
    let ks = c.args.lengths.now in
    let y = c.args.received.now in
    let n : ℕ = length fs in
    let own = c.loop in
    let all : own.from + n - own.from ≡ n = omega arith in
    let row = next_row n ks own.invariant.0 c.loop-test.true in
    let rest = right_rows fs n (length (drop (own.counter + 1) ks)) (drop (own.from + n) y) in
    let size : own.at + length (gathered g ++ rest) ≤ length own.s = omega (
      arith,
      length-append (gathered g) rest,
      count g,
      few g,
      rows_few fs (length (drop (own.counter + 1) ks)) (drop (own.from + n) y),
      row.array,
      own.invariant.1,
      c.requires,
    ) in
    let stored = lay_rest own.at (gathered g) own.s (omega (arith, size, length-append (gathered g) rest))
    (rw all at c.gather-at.ensures.1) in (
      row,
      omega (arith, few g, own.invariant.1),
      lay_behind own.at (gathered g) rest own.s (sym (count g)) stored size
          ∙ ap (λ (v : List ℕ). lay own.at v own.s) (sym (rows_more fs ks own.counter own.from y c.loop-test.true))
          ∙ own.invariant.2,
    )

pub returns : goal.returns
unfolding right_rows
returns c =
    let none = drop_of_length-le c.args.lengths.now c.loop-test.false in
    sym (lay_none c.loop.at c.loop.s) ∙ rw none at c.loop.invariant.2
