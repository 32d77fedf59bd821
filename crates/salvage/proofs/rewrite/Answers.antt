-- `rewrite` writes the mark, the bytes behind it and the symbols.
use Rattle.std.proofs.Common.{arith}
use native.Mathlib.Nat.{le_refl}
use Rattle.salvage.proofs.Lines.{short, behind}
use Rattle.salvage.proofs.rewrite.Goals as goal

pub returns : goal.returns
returns c =
    let one = short {m = 2} c.put_text-end.ensures (le_refl _) in
    let two = behind one (short c.put_text-end-2.ensures (le_refl _)) (omega (arith, c.requires)) in
    (behind two (short c.put_text.ensures (le_refl _)) (omega (arith, c.requires))).puts
