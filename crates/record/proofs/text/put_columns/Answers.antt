-- `text::put_columns` writes the wrong columns, or a `-` where nothing was written for them.
use Rattle.std.proofs.Common.{arith}
use Rattle.record.proofs.Fields.{followed_short, no_columns, some_columns}
use Rattle.record.proofs.text.put_columns.Goals as goal

pub put_wrong-end-requires : goal.put_wrong-end-requires
put_wrong-end-requires c = omega (arith, followed_short c.args.flags.now c.requires.flags, c.requires.room)

pub returns-then-end-at : goal.returns-then-end-at
returns-then-end-at c = record {
  puts = no_columns _ _ _ c.put_wrong-end.ensures c.if-end-at.true c.put_text.ensures;
  most = omega (arith, c.put_text.ensures, c.if-end-at.true);
}

pub returns : goal.returns
returns c = record {
  puts = some_columns _ _ _ c.put_wrong-end.ensures c.if-end-at.false;
  most = omega (arith, c.put_wrong-end.ensures, followed_short c.args.flags.now c.requires.flags);
}
