-- `text::put_head` writes a number, a word and a number.
use Rattle.std.proofs.Common.{arith}
use native.Mathlib.Nat.{le_refl}
use Rattle.salvage.proofs.Lines.{short, behind, number_short}
use Rattle.salvage.proofs.text.put_head.Goals as goal

pub put_number-end-requires : goal.put_number-end-requires
put_number-end-requires c = omega (arith, number_short c.args.offset (omega arith), c.requires)

pub put_text-end-requires : goal.put_text-end-requires
put_text-end-requires c =
    omega (arith, number_short c.args.offset (omega arith), c.requires, c.put_number-end.ensures, c.put_number-end.auto)

pub put_number-requires : goal.put_number-requires
put_number-requires c = omega (
  arith,
  number_short c.args.offset (omega arith),
  number_short c.args.count (omega arith),
  c.requires,
  c.put_number-end.ensures,
  c.put_number-end.auto,
  c.put_text-end.ensures,
  c.put_text-end.auto,
)

pub returns : goal.returns
returns c =
    let first = short c.put_number-end.ensures (number_short c.args.offset (omega arith)) in
    let two = behind first (short c.put_text-end.ensures (le_refl _)) (omega (arith, c.requires)) in
    let three = behind two (short c.put_number.ensures (number_short c.args.count (omega arith))) (omega (arith, c.requires)) in
    record { puts = three.puts; most = omega (arith, three.most) }
