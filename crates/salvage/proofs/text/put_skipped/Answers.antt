-- `text::put_skipped` writes the fields and the end of a line.
use native.Mathlib.Nat.{le_refl}
use Rattle.salvage.proofs.Lines.{short, behind}
use Rattle.salvage.proofs.text.put_skipped.Goals as goal

pub returns : goal.returns
returns c = behind c.put_head-end.ensures (short {m = 1} c.put_text.ensures (le_refl _)) c.requires
