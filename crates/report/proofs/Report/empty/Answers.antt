-- `Report::empty` makes the report on no marks.
use Rattle.report.proofs.Figures.{no_marks}
use Rattle.report.proofs.Report.empty.Goals as goal

pub returns : goal.returns
returns c = no_marks c.args.columns
