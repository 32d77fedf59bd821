-- `answer` ends, stops or decodes, by what is left of the input.
use Rattle.std.proofs.Common.{sym, ◌∙◌}
use borrow.Author.Tests.{eqb-false}
use Rattle.record.specs.Promises.{fresh}
use Rattle.record.proofs.Replies.{answers_stop, answers_next}
use Rattle.record.proofs.answer.Goals as goal

pub returns-in-Err-clause-answers : goal.returns-in-Err-clause-answers
returns-in-Err-clause-answers c =
    answers_stop c.args.number c.args.out.now c.args.bytes.now _
    (eqb-false _ 0 (sym c.is_empty.ensures ∙ c.if-is_empty.false)) c.in-Err.ensures c.put_line.ensures.puts

pub returns-clause-answers : goal.returns-clause-answers
unfolding fresh
returns-clause-answers c = let line = c.decode_line.ensures in
    answers_next c.args.number c.args.out.now c.args.bytes.now line.line
    (eqb-false _ 0 (sym c.is_empty.ensures ∙ c.if-is_empty.false)) (sym c.in_default.ensures) line.of_record line.puts
