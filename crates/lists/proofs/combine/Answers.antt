-- `combine` combines the doublings by the bits of the symbol.
use Rattle.std.proofs.Common.{sym}
use Rattle.field.proofs.BitByBit.{sixteenth}
use Rattle.lists.proofs.Combined.{four_combined_lem, combined-zero, combined_none}
use Rattle.lists.proofs.combine.Goals as goal

pub returns-then-degree-le4 : goal.returns-then-degree-le4
returns-then-degree-le4 c =
    four_combined_lem c.args.r.now 0 4 c.args.s c.combine_four.ensures (sym (combined_none _ 4 4 _ (c.requires c.if-degree-le4.true)))

pub returns : goal.returns
returns c =
    let r = c.args.r.now in
    let s = c.args.s in
    four_combined_lem r 0 4 s c.combine_four-2.ensures
    (four_combined_lem r 4 0 _ (rw (sixteenth s) at c.combine_four-higher.ensures) (sym (combined-zero r 8 _)))
