-- `decode` is the decoding with nothing lost.
use Rattle.codes.specs.Factors.{description_of}
use Rattle.joint.specs.Promises.{given, left, buffers}
use Rattle.joint.proofs.LostDemands.{nothing_lost}
use Rattle.joint.proofs.decode.Goals as goal

pub returns : goal.returns
returns c = (nothing_lost
    (given (description_of c.args.degree c.args.points.now c.args.factors.now c.args.lengths.now) c.args.limit c.args.received.now
    (buffers c.args.answer.now c.args.flags.now) c.args.space.now)
    (left c.decode_lost.result (buffers c.decode_lost.new.answer c.decode_lost.new.flags) c.decode_lost.new.space)).0
    c.decode_lost.ensures
