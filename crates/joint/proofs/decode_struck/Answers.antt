-- `decode_struck` decodes the quotient, and on `corrected` alone has its answer multiplied back; with factors of one there is nothing
-- to divide.
use Rattle.std.proofs.Common.{◌≡◌, List, ℕ, sym, subst, length, take, ◌∙◌}
use borrow.Author.Tests.{eqb-true}
use Rattle.codes.specs.Code.{IsArray}
use Rattle.codes.specs.Factors.{Description, description_of, divided}
use Rattle.codes.proofs.Parts.{empty}
use Rattle.codes.proofs.Factors.{is_divided}
use Rattle.factors.proofs.Rows.{striking}
use Rattle.ending.specs.Endings.{Buffers}
use Rattle.ending.specs.declared.Ending.{Ending}
use Rattle.joint.specs.Promises.{buffers}
use Rattle.joint.specs.Lost.{LostEnds}
use Rattle.joint.specs.Working.{ReadyLost, StruckEnds}
use Rattle.joint.proofs.Lost.{whole_of, whole_ends, corrected_array}
use Rattle.joint.proofs.Struck.{each_one_struck}
use Rattle.joint.proofs.decode_struck.Goals.{Then-ones, After-divide}
use Rattle.joint.proofs.decode_struck.Goals as goal

-- with factors of one there is nothing to divide
module _ (c : Then-ones) where
  abbrev described : Description
  described = description_of c.args.field.now.degree c.args.points.now c.args.factors.now c.args.lengths.now

  abbrev lent : Buffers
  lent = buffers c.args.answer.now c.args.flags.now

  one_struck : (e : Ending) (b : Buffers) → LostEnds described.code c.args.lost.now c.args.received.now c.args.limit lent e b
      → StruckEnds described c.args.lost.now c.args.received.now c.args.limit lent e b
  one_struck e b h =
      let r = c.requires.ready_lost.0 in
      each_one_struck described r.proper c.requires.factors (c.requires.all c.if-ones.true) r.received
      (λ z. LostEnds described.code c.args.lost.now z c.args.limit lent)
      (λ n b h. corrected_array described.code c.args.lost.now r.proper h) e b h

-- and if nothing is lost, nothing to fill in
pub work_whole-requires-clause-ready : goal.work_whole-requires-clause-ready
work_whole-requires-clause-ready c = whole_of c.requires.ready_lost.0 (empty c.args.lost.now (eqb-true _ 0 (sym c.is_empty.ensures ∙ c.if-is_empty.true)))

pub returns-then-is_empty : goal.returns-then-is_empty
returns-then-is_empty c =
    let t = (goal.at.returns-then-is_empty c).Then-ones in
    let b = buffers c.work_whole.new.answer c.work_whole.new.flags in
    one_struck t c.work_whole.result b
    (whole_ends c.requires.ready_lost.0 (empty c.args.lost.now (eqb-true _ 0 (sym c.is_empty.ensures ∙ c.if-is_empty.true)))
    (lent t) b c.work_whole.result c.work_whole.ensures)

pub returns-then-ones : goal.returns-then-ones
returns-then-ones c =
    one_struck (goal.at.returns-then-ones c).Then-ones c.work_lost.result
    (buffers c.work_lost.new.answer c.work_lost.new.flags) c.work_lost.ensures

-- where the array is divided
module _ (c : After-divide) where
  abbrev D : Description
  D = description_of c.args.field.now.degree c.args.points.now c.args.factors.now c.args.lengths.now

  abbrev y : List ℕ
  y = c.args.received.now

  ready : ReadyLost D.code c.args.limit c.args.lost.now y
  ready = c.requires.ready_lost.0

  abbrev EndsAs : List ℕ → Ending → Buffers → Type 0
  EndsAs z = LostEnds D.code c.args.lost.now z c.args.limit (buffers c.args.answer.now c.args.flags.now)

  quotient : take (length y) c.divide.new.s ≡ divided D y
  quotient = c.divide.ensures

  quotient_array : IsArray D.code (take (length y) c.divide.new.s)
  quotient_array = subst (IsArray D.code) (sym quotient) (is_divided D ready.proper c.requires.factors ready.received)

  ends : (e : Ending) (b : Buffers) → EndsAs (take (length y) c.divide.new.s) e b → EndsAs (divided D y) e b
  ends e b h = subst (λ (z : List ℕ). EndsAs z e b) quotient h

pub work_lost-ending-requires-clause-ready_lost : goal.work_lost-ending-requires-clause-ready_lost
work_lost-ending-requires-clause-ready_lost c =
    let d = (goal.at.work_lost-ending-requires-clause-ready_lost c).After-divide in
    let r = ready d in
    (record { counts = r.counts; proper = r.proper; received = quotient_array d; remain = r.remain }, c.requires.ready_lost.1)

pub strike-requires : goal.strike-requires
strike-requires c = λ w is.
    let d = (goal.at.strike-requires c).After-divide in
    let r = ready d in
    let answer = buffers c.work_lost-ending.new.answer c.work_lost-ending.new.flags in
    striking {D = D d} r.counts c.requires.factors (corrected_array (D d).code c.args.lost.now r.proper
    (subst (λ (e : Ending). EndsAs d (divided (D d) (y d)) e answer) is (ends d c.work_lost-ending.result answer c.work_lost-ending.ensures)))

pub returns : goal.returns
returns c =
    let d = (goal.at.returns c).After-divide in
    let answer = buffers c.work_lost-ending.new.answer c.work_lost-ending.new.flags in
    record { answer = answer; ends = ends d c.work_lost-ending.result answer c.work_lost-ending.ensures; back = c.strike.ensures answer.flags }
