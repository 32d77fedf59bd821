-- `Report::enter` hands back what entering promises.
use Rattle.mark.proofs.Handing.{hands}
use Rattle.report.specs.Report.{mark_of, enter_checks, Next}
use Rattle.report.proofs.History.{adding, next, made_entered}
use Rattle.report.proofs.Report.enter.Goals as goal

pub add-next-requires : goal.add-next-requires
add-next-requires c = adding (mark_of c.args.ending c.args.detail c.args.flags.now) c.requires c.in-Ok.ensures

pub returns-in-Ok-clause-enters : goal.returns-in-Ok-clause-enters
returns-in-Ok-clause-enters c = let m = mark_of c.args.ending c.args.detail c.args.flags.now in let r = c.args.self in
    rw c.in-Ok.is (hands (enter_checks r m) (Next r m) r c.in-Ok.ensures (next m c.requires c.in-Ok.ensures c.add-next.ensures))

pub returns-in-Ok-clause-made : goal.returns-in-Ok-clause-made
returns-in-Ok-clause-made c = let m = mark_of c.args.ending c.args.detail c.args.flags.now in
    made_entered m (record { outcome = c.enter_refusal-outcome.result; next = c.add-next.result }) c.requires
    (returns-in-Ok-clause-enters c)
