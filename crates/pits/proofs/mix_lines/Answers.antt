-- A turn mixes one line more.
use Rattle.std.proofs.Common.{sym}
use Rattle.pits.proofs.Mixed.{lines_none, lines_more}
use Rattle.pits.proofs.mix_lines.Goals as goal

pub loop-j-init : goal.loop-j-init
loop-j-init c = sym (lines_none _ _ _ _ _)

pub loop-j-preserved : goal.loop-j-preserved
loop-j-preserved c = lines_more _ _ _ _ _ _ c.loop-j.invariant c.mix_line.ensures
