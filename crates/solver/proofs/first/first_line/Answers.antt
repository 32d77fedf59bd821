-- `first_line` clears the first line, stores the values and writes the locator 1.
use Rattle.solver.proofs.Starting.{first_only}
use Rattle.solver.proofs.first.first_line.Goals as goal

pub returns : goal.returns
returns c = first_only _ _ c.requires.0 c.requires.1 c.clear.ensures c.store.ensures
