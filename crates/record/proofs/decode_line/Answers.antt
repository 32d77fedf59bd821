-- `decode_line` decodes a whole record, and writes the line of its ending.
use Rattle.std.proofs.Common.{ℕ, ◌*◌, take, sym, ap, arith}
use lib.Seq.{length-take-le}
use Rattle.record.specs.Records.{rows_in, columns_in}
use Rattle.record.specs.Lines.{line_of}
use Rattle.record.proofs.Heads.{columns-most}
use Rattle.record.proofs.Wholes.{whole_of}
use Rattle.record.proofs.decode_line.Goals as goal

pub bounds-bytes-4 : goal.bounds-bytes-4
bounds-bytes-4 c = omega (arith, whole_of _ c.requires.whole)

pub slice_bounds-flags-end : goal.slice_bounds-flags-end
slice_bounds-flags-end c = omega (arith, c.from-n.ensures, (columns-most _ (whole_of _ c.requires.whole).inside).1, c.decode-ending.auto)

pub slice_bounds-put_line-end : goal.slice_bounds-put_line-end
slice_bounds-put_line-end c = sym (length-take-le c.from-n.result c.decode-ending.new.flags
    (omega (arith, c.from-n.ensures, (columns-most _ (whole_of _ c.requires.whole).inside).1, c.decode-ending.auto)))

pub returns : goal.returns
returns c = let b = c.args.bytes.now in
    let flags = c.decode-ending.new.flags in
    let is = c.decode-ending.ensures in record {
      line = line_of c.args.number c.decode-ending.result (take c.from-n.result flags);
      of_record = record {
        ending = c.decode-ending.result;
        array = take (rows_in b * columns_in b) c.decode-ending.new.array;
        flags = take (columns_in b) flags;
        space = is.space;
        decodes = is.decodes;
        written = ap (λ (k : ℕ). line_of c.args.number c.decode-ending.result (take k flags)) c.from-n.ensures;
      };
      puts = c.put_line.ensures.puts;
      most = c.put_line.ensures.most;
    }
