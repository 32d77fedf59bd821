-- The coefficients before j stand in w, and behind them the polynomial from j on.
use Rattle.std.proofs.Common.{◌≡◌, length}
use Rattle.rows.proofs.Newton.{Rising}
use Rattle.rows.proofs.coefficients.Given as goal

abbrev pub invariant-loop-j : goal.invariant-loop-j
invariant-loop-j l = (length l.w ≡ 400) × Rising l.field.degree l.nodes l.us l.j l.w
