-- `fits` fills the columns of the set in, and tests what it has then.
use Rattle.std.proofs.Common.{◌≡◌, Bool, true, false, ◌↔◌, List, ℕ, length, take, replicate, sym, ap, subst, ◌∙◌, arith}
use mathlib.Core.Bool.{true≢false}
use Rattle.patch.proofs.Parts.{take-lay}
use Rattle.codes.specs.Code.{Code, code_of, columns, rows, CodeArray, differs, flags_from}
use Rattle.ending.proofs.Model.{filled}
use Rattle.finish.specs.Working.{zeros_in}
use Rattle.finish.proofs.Marks.{zeros-count}
use Rattle.finish.proofs.Filled.{rows-length}
use Rattle.fitting.specs.Working.{PlainFit, FitsPlain}
use Rattle.fitting.proofs.Tried.{flags_twice, room_for}
use Rattle.fitting.proofs.fits.Goals.{After-fill}
use Rattle.fitting.proofs.fits.Goals as goal

-- of a code array, what the flags say
told_by : {c : Code} {z W own : List ℕ} {r : Bool} → CodeArray c own → length W ≡ columns c
    → (r ≡ true) ↔ (flags_from (λ i. differs (rows c) (length W) i z own) 0 (length W) ≡ W) → (r ≡ true) ↔ PlainFit c z W own
told_by {c} {z} {W} {own} {r} code e h =
    let is : (r ≡ true) ↔ (flags_from (λ i. differs (rows c) (columns c) i z own) 0 (columns c) ≡ W) =
    subst (λ (n : ℕ). (r ≡ true) ↔ (flags_from (λ i. differs (rows c) n i z own) 0 n ≡ W)) e h in
    (λ t. record { code = code; wrong = is.0 t }, λ f. is.1 f.wrong)

pub fill-requires-clause-flags_value : goal.fill-requires-clause-flags_value
fill-requires-clause-flags_value c =
    let p = c.requires in
    let W = c.args.set.now in
    let count = zeros-count W ∙ p.set.sized in
    let marked = take-lay (zeros_in W) (replicate 96 0) c.flag_zeros.ensures.1 count p.checked.counts.most_columns in
    (sym (ap zeros_in marked ∙ flags_twice W p.set.small), ap length marked ∙ count, room_for p.checked W p.room)

-- where the columns are filled in
module _ (c : After-fill) where
  abbrev code : Code
  code = code_of c.args.field.now.degree c.args.points.now c.args.lengths.now

  abbrev z : List ℕ
  z = c.args.array.now

  abbrev W : List ℕ
  W = c.args.set.now

  own_long : length c.fill.new.s ≡ 384
  own_long = c.fill.auto.s ∙ c.requires.long

  front : take (length z) c.fill.new.s ≡ filled code z W
  front = let p = c.requires in
      take-lay (filled code z W) c.args.own.now c.fill.ensures
      (rows-length code.degree W code.points p.set.sized code.lengths z p.received.count ∙ sym p.received.count)
      (omega (arith, p.received.count, p.checked.counts.cells, p.long))

  checked : (r : Bool) → (r ≡ true) ↔ PlainFit code z W (filled code z W) → FitsPlain code z W c.fill.new.s r
  checked r t = record { long = own_long; front = front; told = t }

pub returns-then-is_code : goal.returns-then-is_code
returns-then-is_code c =
    let f = (goal.at.returns-then-is_code c).After-fill in
    checked f c.wrong_exactly.result (told_by (rw (front f) at (c.is_code.ensures.0 c.if-is_code.true)) c.requires.set.sized
    (rw (front f) at c.wrong_exactly.ensures))

pub returns : goal.returns
returns c =
    let f = (goal.at.returns c).After-fill in
    checked f false (
      λ e. absurd (true≢false (sym e)),
      λ h. absurd (true≢false (sym (c.is_code.ensures.1 (rw (front f) h.code)) ∙ c.if-is_code.false)),
    )
