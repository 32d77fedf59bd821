-- `decode` tells each ending as a record.
use Rattle.tray.specs.Promises.{answer_of}
use Rattle.tray.proofs.decode.Goals as goal

pub returns : goal.returns
returns c = c.decode_all.ensures answer_of (λ e a p. p.1)
