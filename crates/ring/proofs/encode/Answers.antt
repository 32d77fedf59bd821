-- `ring::encode` leaves what it promises.
use Rattle.std.proofs.Common.{refl}
use Rattle.std.proofs.lemmas.Result.{err_from_is_err_and}
use Rattle.refusal.proofs.Keeping.{refuses}
use Rattle.refusal.proofs.Numbers.{positive}
use Rattle.mark.proofs.Promised.{writes}
use Rattle.hermitian.specs.Ring.{ring_word}
use Rattle.hermitian.specs.Checks.{encode_checks}
use Rattle.ring.proofs.encode.Goals as goal

pub returns-in_err-encode_refusal : goal.returns-in_err-encode_refusal
returns-in_err-encode_refusal c = let e = err_from_is_err_and c.from_residual.result c.from_residual.ensures.1 in
    rw (e.1, e.2) (refuses _ _ _ (c.in_err-encode_refusal.ensures c.args.word.now refl) (positive _))

pub returns : goal.returns
returns c = let s = c.args in
    writes (encode_checks s.q s.m s.message.now s.word.now) (ring_word s.q s.m s.message.now) s.word.now
    (c.in_ok-encode_refusal.ensures s.word.now refl) c.write_word.ensures
