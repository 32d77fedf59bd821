-- `text::put_line` writes the number, the fields and the end of a line.
use Rattle.std.proofs.Common.{ℕ, ◌≤◌, List, ◌++◌, length, length-append, sym, subst, arith}
use Rattle.record.specs.Lines.{ascii, decimal}
use Rattle.record.specs.Working.{Puts, fields_of}
use Rattle.record.proofs.Decimals.{decimal_short}
use Rattle.record.proofs.Fields.{puts_then, line_parts}
use Rattle.record.proofs.text.put_line.Goals as goal

pub put_number-end-requires : goal.put_number-end-requires
put_number-end-requires c = omega (arith, decimal_short 19 c.args.number (omega arith), c.requires.room)

pub put_ending-end-requires : goal.put_ending-end-requires
put_ending-end-requires c = record {
  flags = c.requires.flags;
  room = omega (arith, decimal_short 19 c.args.number (omega arith), c.requires.room, c.put_number-end.ensures, c.put_number-end.auto);
}

pub put_text-requires : goal.put_text-requires
put_text-requires c = omega (
  arith,
  decimal_short 19 c.args.number (omega arith),
  c.requires.room,
  c.put_number-end.ensures,
  c.put_number-end.auto,
  c.put_ending-end.ensures.most,
  c.put_ending-end.auto,
)

pub returns : goal.returns
returns c =
    let lent = c.args.out.now in
    let p = c.put_number-end.ensures in
    let q = c.put_ending-end.ensures in
    let t = c.put_text in
    let v : List ℕ = decimal c.args.number in
    let w : List ℕ = fields_of c.args.ending c.args.flags.now in
    let two = length-append v w in
    let all = length-append (v ++ w) (ascii "\n") in
    let most : length (v ++ w ++ ascii "\n") ≤ 323 =
    omega (arith, two, all, decimal_short 19 c.args.number (omega arith), p, q.puts, q.most) in
    let begun = puts_then lent 0 v w (omega (arith, c.requires.room)) p q.puts in
    let whole = puts_then lent 0 (v ++ w) (ascii "\n") (omega (arith, c.requires.room)) begun t.ensures in record {
      puts = subst (λ (l : List ℕ). Puts lent 0 l t.new.out t.result) (sym (line_parts _ _ _)) whole;
      most = omega (arith, whole);
    }
