-- `work_whole` has points and buffers of its own, and releases these by the ending.
use Rattle.std.proofs.Common.{List, ℕ, sym, ap, subst, ◌∙◌, length, take, replicate}
use Rattle.patch.proofs.Parts.{take_copied}
use Rattle.codes.specs.Code.{code_of}
use Rattle.ending.specs.Endings.{Ends}
use Rattle.joint.specs.Promises.{buffers}
use Rattle.finish.specs.Working.{fronts, released}
use Rattle.joint.proofs.work_whole.Goals as goal

pub returns : goal.returns
returns c =
    let a = c.args in
    let d = a.field.now.degree in
    let xs = a.points.now in
    let y = a.received.now in
    let lent = buffers a.answer.now a.flags.now in
    let own = c.end-ending.new.array in
    let wrong = c.end-ending.new.flags in
    let r = c.end-ending.result in
    let held = take_copied xs (replicate 96 0) c.copy.ensures in
    -- the array of these points ends so
    let ended = subst (λ (ps : List ℕ). let k = code_of d ps a.lengths.now in
    Ends k y a.limit lent r (released r (fronts k own wrong) lent)) held (c.end-ending.ensures lent) in
    let left = c.release.ensures
    ∙ ap (λ (m : ℕ). released r (buffers (take m own) (take (length xs) wrong)) lent) c.requires.ready.0.received.count in
    subst (Ends (code_of d xs a.lengths.now) y a.limit lent r) (sym left) ended
