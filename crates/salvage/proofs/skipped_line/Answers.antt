-- `skipped_line` writes the line of a run of skipped bytes, and nothing where there are none.
use Rattle.salvage.proofs.Told.{no_run, some_run}
use Rattle.salvage.proofs.skipped_line.Goals as goal

pub returns-then-count-eq0-clause-lists : goal.returns-then-count-eq0-clause-lists
returns-then-count-eq0-clause-lists c = no_run c.args.offset c.args.count c.if-count-eq0.true

pub returns-clause-lists : goal.returns-clause-lists
returns-clause-lists c = some_run c.args.offset c.args.count c.if-count-eq0.false c.put_skipped.ensures.puts
