-- `row_line` clears the line, and writes ones at the conditions of its row.
use Rattle.solver.proofs.Starting.{row_only}
use Rattle.solver.proofs.first.row_line.Goals as goal

pub returns : goal.returns
returns c = row_only _ _ c.requires.1 _ _ c.requires.0 c.clear.ensures (c.fill.ensures.after (λ y e. e))
