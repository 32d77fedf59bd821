-- The report came from opening and entering.
use Rattle.report.specs.Report.{Made}
use Rattle.report_runs.proofs.enter.Given as goal

abbrev pub invariant-loop : goal.invariant-loop
invariant-loop l = Made l.entered.next
