-- `ring::read` leaves what it promises.
use Rattle.std.proofs.Common.{refl}
use Rattle.std.proofs.lemmas.Result.{err_from_is_err_and}
use Rattle.refusal.proofs.Keeping.{refuses}
use Rattle.refusal.proofs.Numbers.{positive}
use Rattle.ring.proofs.read.Goals as goal

pub returns-in_err-read_refusal : goal.returns-in_err-read_refusal
returns-in_err-read_refusal c = let e = err_from_is_err_and c.from_residual.result c.from_residual.ensures.1 in
    rw (e.1, e.2) (refuses _ _ _ (c.in_err-read_refusal.ensures c.args.message.now refl) (positive _))
