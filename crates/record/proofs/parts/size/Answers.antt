-- `parts::size` adds up the parts of a record.
use Rattle.std.proofs.Common.{arith}
use Rattle.record.proofs.Heads.{sizes_of}
use Rattle.record.proofs.parts.size.Goals as goal

pub returns : goal.returns
returns c = let sizes = sizes_of c.requires.inside c.from-rows.ensures c.from-columns.ensures in
    record { is = sizes.total; most = omega (arith, sizes) }
