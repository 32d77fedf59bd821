-- One round more is in ws.
use Rattle.std.proofs.Common.{arith}
use Rattle.rows.proofs.Sharing.{more_rounds}
use Rattle.rows.proofs.lent.all_inverses.Goals as goal

pub loop-j-preserved : goal.loop-j-preserved
loop-j-preserved c =
    let counts = c.requires.k_in_bounds in
    more_rounds _ _ c.args.field.now.degree_value _ _ counts.1 (omega (arith, counts)) c.loop-j.invariant c.inverses.ensures
