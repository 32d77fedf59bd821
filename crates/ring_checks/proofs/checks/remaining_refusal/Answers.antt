-- The message lengths and the points that are lent are those of the code of the arrays, which are within the limits.
use Rattle.codes.proofs.Proper.{lengths_test}
use Rattle.hermitian.proofs.Sizes.{ring_counts}
use Rattle.ring_checks.proofs.Lent.{Shape, shape}
use Rattle.ring_checks.proofs.checks.remaining_refusal.Goals.{After-columns-xs}
use Rattle.ring_checks.proofs.checks.remaining_refusal.Goals as goal

shaped : (c : After-columns-xs) → Shape c.args.q c.args.m c.side-n.result c.lengths-ks.result c.columns-xs.result
shaped c = shape c.requires.size c.side-n.ensures c.lengths-ks.ensures c.columns-xs.ensures

pub remaining_refusal-requires-clause-lengths_value : goal.remaining_refusal-requires-clause-lengths_value
remaining_refusal-requires-clause-lengths_value c =
    let s = shaped (goal.at.remaining_refusal-requires-clause-lengths_value c).After-columns-xs in
    rw (s.lengths.is, s.points.is) ((lengths_test 1 _ _).1 (ring_counts c.args.q c.args.m c.requires.size c.requires.order).lengths)
