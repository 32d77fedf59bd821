-- `solver::scan::least` scans lines that are all marked.
use Rattle.std.proofs.Common.{ℕ, ◌<◌, arith}
use Rattle.solver.proofs.Lowest.{least_some, least_below, least_line, all_marked}
use Rattle.solver.proofs.scan.least.Goals as goal

pub returns : goal.returns
returns g c =
    let marked = λ (j : ℕ) (lt : j < c.args.lines). all_marked g.row.N j (omega (arith, c.requires)) in
    rw c.unwrap_or.ensures (
      least_below _ c.pivot.result c.pivot.ensures.1,
      least_some _ _ _ c.pivot.result c.pivot.ensures.0 marked,
      λ es size led. least_line _ _ _ es size led c.pivot.result c.pivot.ensures.0 c.pivot.ensures.1 marked,
    )
