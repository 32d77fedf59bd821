-- `own_conditions` works the inverses of the longest row's rounds out, and lends them to all rows.
use Rattle.std.proofs.Common.{arith}
use Rattle.rows.proofs.Symbols.{symbols_zeros}
use Rattle.conditions.proofs.own_conditions.Goals as goal

pub inverses-requires-clause-ws_len : goal.inverses-requires-clause-ws_len
inverses-requires-clause-ws_len c = (omega arith, symbols_zeros c.args.field.now.degree 9216)
