-- `work_lost` decodes a whole array as it is; else it has the remaining columns decoded, and on `corrected` alone the answer completed.
use Rattle.std.proofs.Common.{◌≡◌, ◌-◌, List, ℕ, sym, subst, arith, length, take, ◌∙◌}
use borrow.Author.Tests.{eqb-true}
use mathlib.Core.Path.{ap₂}
use Rattle.codes.specs.Code.{Code, code_of, columns}
use Rattle.codes.specs.Lost.{core, core_of}
use Rattle.codes.proofs.Parts.{empty}
use Rattle.codes.proofs.Lost.{core-columns}
use Rattle.ending.specs.Endings.{Corrects, Ends}
use Rattle.ending.specs.declared.Ending.{Ending}
use Rattle.joint.specs.Promises.{buffers}
use Rattle.joint.specs.Lost.{LostCorrects, LostEnds}
use Rattle.joint.specs.Working.{ReadyLost, RestEnds}
use Rattle.joint.proofs.Lost.{whole_of, whole_ends, found-count, fill_room, corrected_by}
use Rattle.joint.proofs.work_lost.Goals.{In-Corrected}
use Rattle.joint.proofs.work_lost.Goals as goal

-- nothing is lost
pub work_whole-requires-clause-ready : goal.work_whole-requires-clause-ready
work_whole-requires-clause-ready c = whole_of c.requires.ready_lost.0 (empty c.args.lost.now (eqb-true _ 0 (sym c.is_empty.ensures ∙ c.if-is_empty.true)))

pub returns-then-is_empty : goal.returns-then-is_empty
returns-then-is_empty c =
    whole_ends c.requires.ready_lost.0 (empty c.args.lost.now (eqb-true _ 0 (sym c.is_empty.ensures ∙ c.if-is_empty.true)))
    (buffers c.args.answer.now c.args.flags.now) (buffers c.work_whole.new.answer c.work_whole.new.flags) c.work_whole.result c.work_whole.ensures

-- columns are lost, and the remaining ones are corrected
module _ (c : In-Corrected) where
  abbrev code : Code
  code = code_of c.args.field.now.degree c.args.points.now c.args.lengths.now

  abbrev L : List ℕ
  L = c.args.lost.now

  abbrev y : List ℕ
  y = c.args.received.now

  ready : ReadyLost code c.args.limit L y
  ready = c.requires.ready_lost.0

  abbrev left : ℕ
  left = columns (core code L)

  count : length c.args.points.now - length L ≡ left
  count = omega (arith, core-columns code L ready.remain.lost)

  rest : RestEnds code L y c.args.limit c.decode_rest-ending.result (take left c.decode_rest-ending.new.wrong)
  rest = c.decode_rest-ending.ensures.0

  corrects : Corrects (core code L) (core_of code L y) c.args.limit c.in-Corrected.field-0 rest.left
  corrects = subst (λ (e : Ending). Ends (core code L) (core_of code L y) c.args.limit rest.lent e rest.left) c.in-Corrected.is rest.ends

pub overflow_sub-left : goal.overflow_sub-left
overflow_sub-left c =
    let d = (goal.at.overflow_sub-left c).In-Corrected in omega (arith, core-columns (code d) (L d) (ready d).remain.lost)

pub complete-requires-clause-wrong_len : goal.complete-requires-clause-wrong_len
complete-requires-clause-wrong_len c =
    let d = (goal.at.complete-requires-clause-wrong_len c).In-Corrected in
    let r = ready d in
    rw (count d) (rw (← (rest d).flags) (
      found-count (code d) (L d) r.proper r.remain r.received (corrects d),
      fill_room (code d) (L d) r.proper r.remain r.received (corrects d),
    ))

pub returns-in-Corrected : goal.returns-in-Corrected
returns-in-Corrected c =
    let d = (goal.at.returns-in-Corrected c).In-Corrected in
    let r = ready d in
    let ends = corrected_by (code d) (L d) r.proper r.remain r.received (corrects d) in
    let done = rw (count d, ← (rest d).flags) at c.complete.ensures in
    subst (λ (x : Ending). LostEnds (code d) (L d) (y d) c.args.limit (buffers c.args.answer.now c.args.flags.now) x
    (buffers c.complete.new.answer c.complete.new.flags)) (sym c.in-Corrected.is)
    (subst (LostCorrects (code d) (L d) (y d) c.args.limit c.in-Corrected.field-0) (ap₂ buffers (sym done.0) (sym done.1)) ends)
