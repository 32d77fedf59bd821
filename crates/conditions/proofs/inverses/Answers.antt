-- `inverses` takes the inverses of the longest row's rounds.
use Rattle.std.proofs.Common.{length, arith}
use Rattle.codes.proofs.Passed.{largest-most}
use Rattle.conditions.proofs.inverses.Goals as goal

pub all_inverses-requires-clause-k_in_bounds : goal.all_inverses-requires-clause-k_in_bounds
all_inverses-requires-clause-k_in_bounds c =
    let r = c.requires in
    let k = c.largest-k.ensures in
    let most = largest-most (length c.args.points.now) c.args.lengths.now r.counts.1.lengths in
    let few = r.counts.0.most_columns in
    (omega (arith, most, k), few, omega (arith, most, k, few, r.ws_len.0))
