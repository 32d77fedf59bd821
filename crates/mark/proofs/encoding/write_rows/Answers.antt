-- `encoding::write_rows` lays the values of each row behind those of the row before.
use Rattle.std.proofs.Common.{◌≡◌, ℕ, ◌+◌, ◌-◌, length, take, drop, length-drop, arith}
use lib.ListN.{drop_of_length-le}
use lib.Seq.{length-take-le}
use Rattle.codes.specs.Code.{code_of, encoded_rows}
use Rattle.mark.proofs.Rows.{Place, laid_next, laid_last, bounds, encoded_more}
use Rattle.mark.proofs.encoding.write_rows.Goals.{After-from-k}
use Rattle.mark.proofs.encoding.write_rows.Goals as goal

-- where a row's length is read: the row, and its places
row : (c : After-from-k) → let s = c.args in let own = c.loop-k in
    Place (code_of s.reducer.degree s.points.now s.lengths.now) own.k-index own.from own.at c.from-k.result
row c = record {
  counts = c.requires.made.counts;
  before = c.loop-k.invariant.places;
  here = c.loop-k-test.true;
  count = c.from-k.ensures;
}

pub slice_bounds-values-end : goal.slice_bounds-values-end
slice_bounds-values-end c = omega (arith, bounds (row c), c.requires.message.count)

pub values-requires-clause-p_nonzero : goal.values-requires-clause-p_nonzero
values-requires-clause-p_nonzero c =
    let b = bounds (row (goal.at.values-requires-clause-p_nonzero c).After-from-k) in
    let own = c.loop-k in
    let m = c.args.message.now in
    let k : ℕ = own.from + c.from-k.result - own.from in
    let count : length (take k (drop own.from m)) ≡ k =
    length-take-le k (drop own.from m) (omega (arith, b, length-drop own.from m, c.requires.message.count)) in
    (omega (arith, b, count), omega (arith, b, count), omega (arith, b, own.invariant.same, c.requires.made.room))

pub loop-k-preserved : goal.loop-k-preserved
loop-k-preserved c =
    let r = row (goal.at.loop-k-preserved c).After-from-k in
    let own = c.loop-k in
    let a = c.args in
    let size : own.from + c.from-k.result - own.from ≡ c.from-k.result = omega arith in
    laid_next own.invariant r c.values.auto.s (encoded_more r a.message.now own.s
    (omega (arith, (bounds r).symbols, own.invariant.same, c.requires.made.room)) (rw size at c.values.ensures))

pub returns : goal.returns
unfolding encoded_rows
returns c = laid_last c.loop-k.invariant (rw (drop_of_length-le _ c.loop-k-test.false))
