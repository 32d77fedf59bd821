-- `heads` reads the values, line after line.
use Rattle.std.proofs.Common.{refl, sym}
use Rattle.patch.proofs.Laws.{patch_none, patch_front}
use Rattle.solver.proofs.turns.heads.Goals as goal

pub loop-j-init : goal.loop-j-init
loop-j-init c = sym (patch_none _ _ _)

pub loop-j-preserved : goal.loop-j-preserved
loop-j-preserved c = patch_front _ _ _ c.loop-j.invariant refl
