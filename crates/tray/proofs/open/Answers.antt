-- `open` refuses the tray, or the space gets what all marks share.
use Rattle.std.proofs.Common.{replicate, refl}
use lib.ListN.{length-replicate}
use Rattle.codes.specs.Factors.{description_of}
use Rattle.tray.proofs.Filled.{passed}
use Rattle.tray.proofs.open.Goals as goal

-- buffers of any lengths serve to read what the checks leave
pub share-requires : goal.share-requires
share-requires c =
    let s = c.args in
    let p = passed (description_of s.degree s.points.now s.factors.now s.lengths.now) s.limit s.marks (replicate s.received 0)
    (replicate s.arrays 0) (replicate s.flags 0) s.space.now
    (c.in_ok-tray_refusal.ensures (replicate s.received 0) (replicate s.arrays 0) (replicate s.flags 0) s.space.now
    (length-replicate s.received 0) (length-replicate s.arrays 0) (length-replicate s.flags 0) refl) in
    (p.common.counts, p.common.proper, p.space)
