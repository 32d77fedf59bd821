-- `mix_line` leaves the pivot and a line whose value is zero, and adds to any other the quotient's multiple.
use Rattle.std.proofs.Common.{sym}
use Rattle.field.proofs.Instance.{field}
use Rattle.pits.proofs.Mixed.{mixed_pivot, mixed-zero, mixed_other}
use Rattle.pits.proofs.mix_line.Goals as goal

pub returns-then-j-p : goal.returns-then-j-p
returns-then-j-p c = sym (mixed_pivot _ _ _ _ _ _ c.if-j-p.true)

pub returns-then-ds-j-eq0 : goal.returns-then-ds-j-eq0
returns-then-ds-j-eq0 c = sym (mixed-zero _ _ _ _ _ _ c.if-ds-j-eq0.true)

pub add_times-requires-clause-c_bound : goal.add_times-requires-clause-c_bound
add_times-requires-clause-c_bound c = rw c.quotient-c.ensures ((field _ c.args.field.now.degree_value).over_in _ _)

pub returns : goal.returns
returns c = sym (mixed_other _ _ _ _ _ _ c.if-j-p.false c.if-ds-j-eq0.false c.quotient-c.ensures c.add_times.ensures)
