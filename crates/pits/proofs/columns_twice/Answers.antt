-- The x are written from 0 on, and again from n on.
use Rattle.std.proofs.Common.{replicate, arith}
use Rattle.pits.proofs.Twofold.{twice_patched}
use Rattle.pits.proofs.columns_twice.Goals as goal

pub returns-clause-twice : goal.returns-clause-twice
returns-clause-twice c =
    twice_patched _ _ (replicate 128 0) (omega (arith, c.requires.1)) c.abscissas.ensures c.abscissas-2.ensures
