-- Both reports come from opening and entering, or were exchanged.
use Rattle.std.proofs.Common.{rules}
use Rattle.report_runs.proofs.main.Goals as goal
use Rattle.report_runs.proofs.main.Goals.{in-0+in_ok-own-in-0, in-1+in_ok-own-in-1, in_default-frame+in_ok-show_ranking-in_default-frame}

pub loop-preserved : goal.loop-preserved
loop-preserved c = elim c.match-frame.branch [
  | in-0+in_ok-own-in-0 w ↦ search rules
  | in-1+in_ok-own-in-1 w ↦ search rules
  | in_default-frame+in_ok-show_ranking-in_default-frame w ↦ search rules
]
