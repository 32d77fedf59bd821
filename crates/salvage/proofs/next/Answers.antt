-- `next` finds nothing, a mark that fails, or a whole record that is decided on.
use Rattle.std.proofs.Common.{sym, ◌∙◌}
use borrow.Author.Tests.{eqb-false}
use Rattle.refusal.proofs.Numbers.{refused_err, refused_ok}
use Rattle.record.specs.Promises.{fresh}
use Rattle.salvage.specs.Promises.{rooms}
use Rattle.salvage.proofs.Told.{found_failed, found_decided}
use Rattle.salvage.proofs.next.Goals as goal

pub returns-then-is_err-clause-finds : goal.returns-then-is_err-clause-finds
returns-then-is_err-clause-finds c = found_failed c.args.offset (rooms c.args.kept.now c.args.line.now) c.args.bytes.now
    (eqb-false _ 0 (sym c.is_empty.ensures ∙ c.if-is_empty.false)) c.stop.ensures
    (refused_err c.stop.result (sym c.is_err.ensures.value ∙ c.if-is_err.true))

pub returns-clause-finds : goal.returns-clause-finds
unfolding fresh
returns-clause-finds c = found_decided c.args.offset (rooms c.args.kept.now c.args.line.now) c.args.bytes.now c.decide.result
    (eqb-false _ 0 (sym c.is_empty.ensures ∙ c.if-is_empty.false))
    (sym c.stop.ensures ∙ refused_ok c.stop.result (sym c.is_err.ensures.value ∙ c.if-is_err.false)) c.decide.ensures
