-- `text::put_field` writes a text and a number behind it.
use Rattle.std.proofs.Common.{length-append, arith}
use Rattle.record.specs.Lines.{decimal}
use Rattle.record.proofs.Decimals.{decimal_short}
use Rattle.record.proofs.Fields.{puts_then}
use Rattle.record.proofs.text.put_field.Goals as goal

pub put_number-requires : goal.put_number-requires
put_number-requires c = omega (arith, decimal_short 2 c.from.result (omega arith))

pub returns : goal.returns
returns c =
    let text = c.args.text.now in
    let n = c.args.n in
    let few = decimal_short 2 n (omega arith) in
    let q = rw c.from.ensures at c.put_number.ensures in
    record {
      puts = puts_then _ _ text (decimal n) (omega (arith, few, length-append text (decimal n))) c.put_text-end.ensures q;
      most = omega (arith, few, q);
    }
