-- `solver::turns::copy_line` copies a part of a line, and clears what lies behind the copy.
use Rattle.solver.proofs.Mixing.{copied}
use Rattle.solver.proofs.turns.copy_line.Goals as goal

pub returns : goal.returns
returns c = let a = c.args in
    copied a.p a.at a.n a.space.now a.w.now c.requires.0 c.requires.1 c.requires.2 c.store.ensures c.clear.ensures
