-- `decode_numbers` tells each ending as one number.
use Rattle.refusal.specs.Meaning.{packed}
use Rattle.ending.specs.Endings.{meaning}
use Rattle.tray.proofs.decode_numbers.Goals as goal

pub returns : goal.returns
returns c = c.decode_all.ensures (λ e. packed (meaning e)) (λ e a p. p.1)
