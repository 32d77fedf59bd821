-- What is kept is the piece that `salvage::next` found.
use Rattle.salvages.proofs.Moving.{steps_kept}
use Rattle.salvages.proofs.step.Goals as goal

pub returns-in_ok-put_kept-in-Kept : goal.returns-in_ok-put_kept-in-Kept
returns-in_ok-put_kept-in-Kept g c =
    steps_kept c.args.at _ c.args.bytes.now _ c.in-Kept.n c.in-Kept.m c.in-Kept.ensures.finds c.in-Kept.ensures.advances
