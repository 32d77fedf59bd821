-- `field::product` answers what it promises.
use Rattle.std.proofs.lemmas.Result.{err_from_is_err_and}
use Rattle.field.proofs.Promised.{operands, refuses, gives}
use Rattle.field.proofs.product.Goals as goal

pub returns-in_err-first_refusal : goal.returns-in_err-first_refusal
returns-in_err-first_refusal c = let e = err_from_is_err_and c.from_residual.result c.from_residual.ensures.1 in
    rw (e.1, e.2) (refuses _ _ _ c.in_err-first_refusal.ensures)

pub product-requires-clause-degree_value : goal.product-requires-clause-degree_value
product-requires-clause-degree_value c = (operands _ _ _ c.in_ok-first_refusal.ensures).degree

pub product-requires-clause-a_bound : goal.product-requires-clause-a_bound
product-requires-clause-a_bound c = let ok = operands _ _ _ c.in_ok-first_refusal.ensures in (ok.left, ok.right)

pub returns : goal.returns
returns c = gives _ _ c.in_ok-first_refusal.ensures c.product.ensures
