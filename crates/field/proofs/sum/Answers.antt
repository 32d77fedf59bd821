-- `field::sum` answers what it promises.
use Rattle.std.proofs.Common.{refl}
use Rattle.std.proofs.lemmas.Result.{err_from_is_err_and}
use Rattle.field.specs.Symbols.{plus}
use Rattle.field.proofs.Promised.{refuses, gives}
use Rattle.field.proofs.sum.Goals as goal

pub returns-in_err-first_refusal : goal.returns-in_err-first_refusal
returns-in_err-first_refusal c = let e = err_from_is_err_and c.from_residual.result c.from_residual.ensures.1 in
    rw (e.1, e.2) (refuses _ _ _ c.in_err-first_refusal.ensures)

pub returns : goal.returns
unfolding plus
returns c = gives _ _ c.in_ok-first_refusal.ensures refl
