-- The desk came from opening and putting.
use Rattle.desk.specs.Desk.{Made}
use Rattle.desk_runs.proofs.main.Given as goal

abbrev pub invariant-loop : goal.invariant-loop
invariant-loop l = Made l.desk
