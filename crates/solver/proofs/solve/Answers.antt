-- `solve` runs from the start over all conditions.
use Rattle.solver.proofs.Solved.{all_counted, start_some, solved}
use Rattle.solver.proofs.solve.Goals as goal

pub start-requires-clause-us_len_bound : goal.start-requires-clause-us_len_bound
start-requires-clause-us_len_bound c =
    let (rows, are) = c.requires.some_rows in
    (c.requires.us_len_bound.0, c.requires.us_len_bound.1, all_counted _ _ _ rows are)

pub run-requires-clause-holds_some : goal.run-requires-clause-holds_some
run-requires-clause-holds_some c =
    let (rows, are) = c.requires.some_rows in
    start_some _ _ _ rows are _ c.args.field.now.degree_value c.requires.symbols.1 _ _ c.start.ensures

pub returns : goal.returns
returns c =
    solved _ c.args.field.now.degree_value _ _ _ c.requires.symbols.1 _ _ _ _ c.start.ensures c.run.ensures
