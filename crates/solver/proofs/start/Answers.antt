-- `solver::start` writes the first line, the lines of the rows and the leads.
use Rattle.solver.proofs.Started.{starts}
use Rattle.solver.proofs.start.Goals as goal

pub returns : goal.returns
returns c = let pre = c.requires in
    starts _ _ _ _ _ pre.us_len_bound.0 pre.us_len_bound.1 pre.counts_in_bounds c.first_line.ensures c.row_lines.ensures
