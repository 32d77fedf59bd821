-- `factors` multiplies the values by the inverse of the pivot's.
use Rattle.field.proofs.Instance.{field}
use Rattle.solver.proofs.Factors.{factors_are}
use Rattle.solver.proofs.turns.factors.Goals as goal

pub scale-requires-clause-c_bound : goal.scale-requires-clause-c_bound
scale-requires-clause-c_bound c = rw c.quotient-inverse.ensures ((field _ c.args.field.now.degree_value).over_in _ _)

pub returns : goal.returns
returns c = factors_are _ _ _ _ c.told-ds c.store.ensures c.quotient-inverse.ensures c.scale.ensures
