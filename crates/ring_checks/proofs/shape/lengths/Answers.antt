-- The q rows are within the four places that are lent.
use Rattle.std.proofs.Common.{◌≡◌, arith, refl, sym}
use Rattle.patch.proofs.Laws.{patch_none, patch_front}
use Rattle.hermitian.specs.Ring.{ring_length}
use Rattle.hermitian.proofs.Numbers.{front}
use Rattle.hermitian.proofs.Sizes.{sides}
use Rattle.ring_checks.proofs.shape.lengths.Goals as goal

pub loop-j-init : goal.loop-j-init
loop-j-init c = sym (patch_none 0 _ _)

pub bounds-ks-j : goal.bounds-ks-j
bounds-ks-j c = omega (arith, sides c.args.q c.args.q c.requires.q_value refl)

pub loop-j-preserved : goal.loop-j-preserved
loop-j-preserved c = patch_front c.loop-j.j (ring_length _ _) _ c.loop-j.invariant c.length.ensures

pub returns : goal.returns
returns c =
    let q = c.args.q in
    let end : c.loop-j.j ≡ q = omega arith in
    front (ring_length q c.args.m) q _ (rw end at c.loop-j.invariant) (sides q q c.requires.q_value refl).side
