-- `reading::read_array` takes the inverses of the longest row's rounds, and lends them to all rows.
use Rattle.std.proofs.Common.{length, arith}
use Rattle.rows.proofs.Symbols.{symbols_zeros}
use Rattle.codes.proofs.Passed.{largest-most}
use Rattle.mark.proofs.reading.read_array.Goals as goal

pub all_inverses-requires-clause-k_in_bounds : goal.all_inverses-requires-clause-k_in_bounds
all_inverses-requires-clause-k_in_bounds c =
    let m = c.requires.made.counts in
    let most = largest-most (length c.args.points.now) c.args.lengths.now m.lengths in
    let k = c.largest-k.ensures in
    (omega (arith, most, k), m.most_columns, omega (arith, most, k, m.most_columns))

pub all_inverses-requires-clause-all : goal.all_inverses-requires-clause-all
all_inverses-requires-clause-all c = symbols_zeros c.args.field.now.degree 9216
