-- `solve` makes the start, and runs.
use Rattle.pits.proofs.Solved.{starting, running, solved}
use Rattle.pits.proofs.solve.Goals as goal

pub start_lines-requires : goal.start_lines-requires
start_lines-requires c = starting _ _ _ _ _ _ _ _ c.requires

pub run-requires : goal.run-requires
run-requires c = running _ _ _ _ _ _ _ _ c.requires c.start_leads.ensures c.start_lines.ensures

pub returns-clause-solved : goal.returns-clause-solved
returns-clause-solved c = solved _ _ _ _ _ _ _ _ c.requires c.start_leads.ensures c.start_lines.ensures c.run.ensures
