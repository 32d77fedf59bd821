-- `sectors::decode` is the decoding with nothing lost.
use Rattle.joint.specs.Promises.{buffers, left}
use Rattle.sectors.proofs.Lost.{nothing_lost}
use Rattle.sectors.proofs.decode.Goals as goal

pub returns : goal.returns
returns c = (nothing_lost c.args.q c.args.m c.args.limit c.args.received.now (buffers c.args.answer.now c.args.flags.now) c.args.space.now
    (left c.decode_lost.result (buffers c.decode_lost.new.answer c.decode_lost.new.flags) c.decode_lost.new.space)).0
    c.decode_lost.ensures
