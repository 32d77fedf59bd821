-- The marks up to k are decoded and their answers told, and the others are as they were lent.
use Rattle.std.proofs.Common.{◌≡◌}
use Rattle.codes.specs.Factors.{description_of}
use Rattle.ending.specs.declared.Ending.{Ending}
use Rattle.joint.specs.Promises.{buffers}
use Rattle.tray.specs.Promises.{given_tray}
use Rattle.tray.proofs.Filled.{Waits, Told}
use Rattle.tray.proofs.decode_all.Given as goal

abbrev pub invariant-loop-k : goal.invariant-loop-k
invariant-loop-k g l =
    let f = l.fn in
    let tray = given_tray (description_of f.degree f.points f.factors f.lengths) f.limit f.received f.answers (buffers f.arrays f.flags)
    f.space in
    Waits tray l.k (buffers l.arrays l.flags) l.space
    × ((tell : Ending → g.row.A.Denot) → ((e : Ending) (a : g.row.A.Denot) → goal.F-post g f.say e a → a ≡ tell e)
    → Told tray tell l.k l.answers (buffers l.arrays l.flags))
