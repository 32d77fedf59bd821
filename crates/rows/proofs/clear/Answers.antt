-- The part is filled with zeros.
use Rattle.rows.proofs.Written.{part_filled}
use Rattle.rows.proofs.clear.Goals as goal

pub returns : goal.returns
returns c = part_filled c.args.at c.args.n c.args.s.now c.requires 0 c.fill.new.self (c.fill.ensures.after (λ y e. e))
