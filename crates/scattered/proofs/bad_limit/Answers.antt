-- `scattered::bad_limit` is the test of number 19.
use Rattle.std.proofs.Common.{arith}
use Rattle.hermitian.proofs.Sizes.{sides}
use Rattle.scattered.proofs.bad_limit.Goals as goal

pub overflow_sub-least : goal.overflow_sub-least
overflow_sub-least c = (sides _ _ c.requires.size c.side-n.ensures).some

pub overflow_mul-n-2 : goal.overflow_mul-n-2
overflow_mul-n-2 c = let counts = sides _ _ c.requires.size c.side-n.ensures in omega (arith, counts.symbols, counts.most)

pub overflow_mul-result-2 : goal.overflow_mul-result-2
overflow_mul-result-2 c = let counts = sides _ _ c.requires.size c.side-n.ensures in omega (arith, counts.symbols, counts.most)
