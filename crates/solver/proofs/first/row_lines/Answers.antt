-- `row_lines` writes the lines of the rows, one after the other.
use Rattle.std.proofs.Common.{◌+◌, ◌≤◌, get_or, arith}
use Rattle.solver.proofs.Marked.{all_counts_next, all_counts_within}
use Rattle.solver.proofs.Starting.{rows_more}
use Rattle.solver.proofs.first.row_lines.Goals.{In-loop-j}
use Rattle.solver.proofs.first.row_lines.Goals as goal

-- a row's conditions are among all
within : (c : In-loop-j) → c.loop-j.at + get_or c.args.counts.now c.loop-j.j 0 ≤ 768
within c = omega (arith, c.loop-j.invariant.0, all_counts_within c.args.counts.now c.loop-j.j c.loop-j-test.true, c.requires)

pub row_line-requires : goal.row_line-requires
row_line-requires c = (within (goal.at.row_line-requires c).In-loop-j, omega (arith, c.loop-j.invariant.1.begun.long))

pub overflow_add-at : goal.overflow_add-at
overflow_add-at c = omega (arith, within (goal.at.overflow_add-at c).In-loop-j)

pub loop-j-preserved : goal.loop-j-preserved
loop-j-preserved c =
    let inv = c.loop-j.invariant in
    (rw inv.0 (all_counts_next _ _ c.loop-j-test.true), rows_more _ _ _ _ inv.0 inv.1 c.row_line.ensures)
