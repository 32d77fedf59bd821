-- `text::put_column` stores a byte and writes a number behind it.
use Rattle.std.proofs.Common.{◌∙◌, arith}
use Rattle.patch.proofs.Parts.{lay_cons}
use Rattle.record.proofs.text.put_column.Goals as goal

pub returns : goal.returns
returns c = record { laid = c.put_number.ensures.laid ∙ lay_cons _ _ _ _ c.requires; behind = omega (arith, c.put_number.ensures) }
