-- `text::put_kept` writes the fields, the changes and the end of a line.
use Rattle.std.proofs.Common.{arith}
use native.Mathlib.Nat.{le_refl}
use Rattle.salvage.proofs.Lines.{short, behind}
use Rattle.salvage.proofs.text.put_kept.Goals as goal

pub returns : goal.returns
returns c =
    let two = behind c.put_head-end.ensures c.put_changes-end.ensures (omega (arith, c.requires.in_bounds)) in
    behind two (short {m = 1} c.put_text.ensures (le_refl _)) c.requires.in_bounds
