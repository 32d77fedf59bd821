-- `fill_wrong` takes the inverses of the longest row's rounds over the right columns, and lends them to all rows.
use Rattle.std.proofs.Common.{◌≡◌, ◌≤◌, sym, arith, length, take}
use lib.Seq.{length-take-le}
use Rattle.rows.proofs.Symbols.{symbols_zeros}
use Rattle.codes.proofs.Passed.{largest-most}
use Rattle.finish.proofs.Filled.{longest_right, right_points}
use Rattle.finish.proofs.fill_wrong.Goals.{After-largest-k}
use Rattle.finish.proofs.fill_wrong.Goals as goal

size : (c : After-largest-k) → length (take c.largest-k.result c.args.good.now) ≡ c.largest-k.result
size c = length-take-le _ c.args.good.now (omega (arith, longest_right c.requires.marked c.requires.good, c.largest-k.ensures))

pub slice_bounds-all_inverses-end : goal.slice_bounds-all_inverses-end
slice_bounds-all_inverses-end c = sym (size (goal.at.slice_bounds-all_inverses-end c).After-largest-k)

pub all_inverses-requires-clause-points : goal.all_inverses-requires-clause-points
all_inverses-requires-clause-points c =
    right_points c.requires.marked c.requires.good c.requires.ready.proper c.largest-k.result

pub all_inverses-requires-clause-k_in_bounds : goal.all_inverses-requires-clause-k_in_bounds
all_inverses-requires-clause-k_in_bounds c =
    let r = c.requires.ready in
    let most = largest-most _ c.args.lengths.now r.proper.lengths in
    let few : c.largest-k.result ≤ 96 = omega (arith, most, r.counts.most_columns, c.largest-k.ensures) in
    let count = size (goal.at.all_inverses-requires-clause-k_in_bounds c).After-largest-k in
    (omega (arith, count), omega (arith, count, few), omega (arith, few))

pub all_inverses-requires-clause-all : goal.all_inverses-requires-clause-all
all_inverses-requires-clause-all c = symbols_zeros c.args.field.now.degree 9216
