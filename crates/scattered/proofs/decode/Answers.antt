-- `scattered::decode` refuses by the first check that applies, and else clears the space and has the ring decoded.
use Rattle.std.proofs.Common.{◌≡◌, List, refl}
use Rattle.refusal.specs.Refusal.{Check, first}
use Rattle.ending.specs.Endings.{Buffers}
use Rattle.joint.specs.Promises.{buffers}
use Rattle.joint.proofs.Promised.{leaves}
use Rattle.joint.proofs.Cleared.{cleared_by}
use Rattle.hermitian.proofs.Passed.{PassedPits}
use Rattle.scattered.specs.Promises.{PitEnds}
use Rattle.scattered.proofs.Ended.{checks_of, passed}
use Rattle.scattered.proofs.decode.Goals.{In_default}
use Rattle.scattered.proofs.decode.Goals as goal

-- where no check applies
module _ (c : In_default) where
  abbrev lent : Buffers
  lent = buffers c.args.answer.now c.args.flags.now

  abbrev checks : List Check
  checks = checks_of c.args.q c.args.m c.args.limit c.args.received.now lent c.args.space.now

  none : 0 ≡ first checks
  none = c.in_default.ensures c.args.answer.now c.args.flags.now c.args.space.now refl refl refl

  passes : PassedPits c.args.q c.args.m c.args.limit c.args.received.now c.args.answer.now c.args.flags.now c.args.space.now
  passes = passed c.args.q c.args.m c.args.limit c.args.received.now lent c.args.space.now none

pub clear-requires : goal.clear-requires
clear-requires c = (passes (goal.at.clear-requires c).In_default).word.space

pub mend-requires : goal.mend-requires
mend-requires c = let p = passes (goal.at.mend-requires c).In_default in
    record { ring = p.word.ring; received = p.word.received; answer = p.word.answer; flags = p.word.flags; room = p.room }

pub returns : goal.returns
returns c = let k = (goal.at.returns c).In_default in
    leaves (checks k) (lent k) c.args.space.now
    (PitEnds c.args.q c.args.m c.args.limit c.args.received.now (lent k)) (none k) c.mend.result _ _ c.mend.ensures
    (cleared_by _ c.clear.ensures (passes k).word.space)
