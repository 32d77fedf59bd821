-- `Desk::verdict` hands back the number that the desk keeps, which is the verdict.
use Rattle.std.proofs.Common.{refl}
use Rattle.desk.proofs.Known.{stored_verdict}
use Rattle.desk.proofs.Desk.verdict.Goals as goal

pub returns-clause-judges : goal.returns-clause-judges
returns-clause-judges c = record { number = stored_verdict c.requires; kept = refl }
