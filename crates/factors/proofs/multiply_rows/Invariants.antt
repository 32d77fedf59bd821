-- `multiply_rows` multiplies a row after the other.
use Rattle.std.proofs.Common.{◌-◌}
use Rattle.factors.proofs.Rows.{Done}
use Rattle.factors.proofs.multiply_rows.Given as goal

abbrev pub invariant-loop : goal.invariant-loop
invariant-loop l = Done l.field.degree l.factors l.r l.fn.s l.s l.at (l.r - l.counter)
