-- `evaluate` goes by the points, a chunk at a time.
use Rattle.std.proofs.Common.{◌≡◌, ◌+◌, ◌*◌, arith, ◌∙◌}
use Rattle.std.specs.Iterator.Adapters.{enumerate_count, enumerate_source}
use Rattle.rows.proofs.Pieces.{none_evaluated, more_evaluated}
use Rattle.rows.proofs.evaluate.Goals as goal

pub loop-i-init : goal.loop-i-init
loop-i-init c =
    let source : enumerate_source c.into_iter-i-iterator.result ≡ c.chunks.result = cc in
    let count : enumerate_count c.into_iter-i-iterator.result ≡ 0 = cc in
    (rw source c.chunks.ensures.size, rw (count, source, c.chunks.ensures.rest) none_evaluated)

pub loop-i-preserved : goal.loop-i-preserved
loop-i-preserved c =
    let turn = c.loop-i.invariant in
    let steps = c.in-Some.ensures.steps in
    let chunk = steps.0 in
    let more : 96 * enumerate_count c.next.new.self ≡ 96 * enumerate_count c.loop-i.i-iterator + 96 = omega (arith, steps.2) in (
      chunk.0 ∙ turn.0,
      rw more (more_evaluated turn.1 c.requires.us_nonzero.2 96 _ _ chunk.1.0 (rw turn.0 at chunk.1.1) chunk.1.2
          (rw steps.1 at c.evaluate_some.ensures)),
    )
