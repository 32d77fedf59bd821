-- `list` refuses by the first check that applies, and else has the arrays listed.
use Rattle.std.proofs.Common.{refl}
use Rattle.listing.proofs.Passed.{passed}
use Rattle.listing.proofs.list.Goals as goal

pub work-total-requires : goal.work-total-requires
work-total-requires c = passed _ _ _ _ (c.in_ok-list_refusal.ensures c.args.room.now refl)
