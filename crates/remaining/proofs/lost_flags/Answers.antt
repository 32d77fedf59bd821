-- `remaining::lost_flags` flags one lost column after the other.
use Rattle.std.proofs.Common.{ℕ, ◌<◌, get_or, length, take, refl, ap, arith}
use Rattle.refusal.specs.Refusal.{is_in}
use Rattle.codes.specs.Code.{flags_from}
use Rattle.codes.proofs.Parts.{all-at}
use Rattle.codes.proofs.Lost.{lost_length}
use Rattle.remaining.proofs.Fronts.{lost_next}
use Rattle.remaining.proofs.lost_flags.Goals.{After-from}
use Rattle.remaining.proofs.lost_flags.Goals as goal

below : (c : After-from) → get_or c.args.lost.now c.loop-l.l-index 0 < 96
below c = all-at (λ (j : ℕ). j < 96) c.args.lost.now c.loop-l.l-index 0 c.loop-l-test.true c.requires

pub loop-l-init : goal.loop-l-init
unfolding flags_from is_in
loop-l-init c = refl

pub bounds-gone-from : goal.bounds-gone-from
bounds-gone-from c = omega (
  arith,
  below c,
  c.from.ensures,
  ap length c.loop-l.invariant,
  lost_length 96 (take c.loop-l.l-index c.args.lost.now),
)

pub loop-l-preserved : goal.loop-l-preserved
loop-l-preserved c =
    let b = below (goal.at.loop-l-preserved c).After-from in
    rw (c.from.ensures, c.loop-l.invariant) (lost_next 96 c.args.lost.now c.loop-l.l-index c.loop-l-test.true b)
