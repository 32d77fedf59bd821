-- `parts::stop` goes down the reasons to stop, in order.
use Rattle.std.proofs.Common.{◌≡◌, ℕ, false, List, length, drop, sym, ap, ap₂, ◌∙◌, arith}
use mathlib.Core.Bool.{◌&&◌}
use borrow.Author.Tests.{lt-ltb, le-ltb}
use Rattle.refusal.specs.Refusal.{first, bad_degree, outside}
use Rattle.refusal.proofs.Ladders.{hit, miss, miss_last}
use Rattle.record.specs.Records.{rows_in, columns_in, size_in, stop_checks, stop_of}
use Rattle.record.proofs.Heads.{rows_in_lem}
use Rattle.record.proofs.parts.stop.Goals.{Else-bytes-lt5, Else-out_of_range-bad_degree, Else-outside, Else-outside-2}
use Rattle.record.proofs.parts.stop.Goals as goal

-- that the first k reasons do not apply
abbrev Rest : ℕ → List ℕ → Type 0
Rest k b = stop_of b ≡ first (drop k (stop_checks b))

rest2 : (c : Else-bytes-lt5) → Rest 2 c.args.bytes.now
unfolding stop_of
rest2 c = miss _ _ _ (sym c.no_mark.ensures ∙ c.if-no_mark.false) ∙ miss _ _ _ (le-ltb _ _ c.if-bytes-lt5.false)

rest3 : (c : Else-out_of_range-bad_degree) → Rest 3 c.args.bytes.now
rest3 c = rest2 (goal.at.Else-out_of_range-bad_degree c).Else-bytes-lt5 ∙ miss _ _ _
    (ap₂ ◌&&◌ (sym c.out_of_range.ensures) (sym (c.bad_degree.ensures ∙ ap bad_degree c.from.ensures))
    ∙ c.if-out_of_range-bad_degree.false)

fourth : (c : Else-outside) → outside 1 4 (rows_in c.args.bytes.now) ≡ false
fourth c = sym (c.outside.ensures ∙ ap (outside 1 4) c.from-2.ensures) ∙ c.if-outside.false

rest4 : (c : Else-outside) → Rest 4 c.args.bytes.now
rest4 c = rest3 (goal.at.Else-outside c).Else-out_of_range-bad_degree ∙ miss _ _ _ (fourth c)

fifth : (c : Else-outside-2) → outside 1 96 (columns_in c.args.bytes.now) ≡ false
fifth c = sym (c.outside-2.ensures ∙ ap (outside 1 96) c.from-3.ensures) ∙ c.if-outside-2.false

rest5 : (c : Else-outside-2) → Rest 5 c.args.bytes.now
rest5 c = rest4 (goal.at.Else-outside-2 c).Else-outside ∙ miss _ _ _ (fifth c)

pub returns-then-no_mark : goal.returns-then-no_mark
unfolding stop_of
returns-then-no_mark c = sym (hit _ _ _ (sym c.no_mark.ensures ∙ c.if-no_mark.true))

pub returns-then-bytes-lt5 : goal.returns-then-bytes-lt5
unfolding stop_of
returns-then-bytes-lt5 c =
    sym (miss _ _ _ (sym c.no_mark.ensures ∙ c.if-no_mark.false) ∙ hit _ _ _ (lt-ltb _ _ c.if-bytes-lt5.true))

pub returns-then-out_of_range-bad_degree : goal.returns-then-out_of_range-bad_degree
returns-then-out_of_range-bad_degree c = sym (rest2 (goal.at.returns-then-out_of_range-bad_degree c).Else-bytes-lt5 ∙ hit _ _ _
    (ap₂ ◌&&◌ (sym c.out_of_range.ensures) (sym (c.bad_degree.ensures ∙ ap bad_degree c.from.ensures))
    ∙ c.if-out_of_range-bad_degree.true))

pub returns-then-outside : goal.returns-then-outside
returns-then-outside c = sym (rest3 (goal.at.returns-then-outside c).Else-out_of_range-bad_degree
    ∙ hit _ _ _ (sym (c.outside.ensures ∙ ap (outside 1 4) c.from-2.ensures) ∙ c.if-outside.true))

pub returns-then-outside-2 : goal.returns-then-outside-2
returns-then-outside-2 c = sym (rest4 (goal.at.returns-then-outside-2 c).Else-outside
    ∙ hit _ _ _ (sym (c.outside-2.ensures ∙ ap (outside 1 96) c.from-3.ensures) ∙ c.if-outside-2.true))

pub size-requires : goal.size-requires
size-requires c = record {
  five = c.if-bytes-lt5.false;
  inside = rows_in_lem _ (fourth (goal.at.size-requires c).Else-outside) ∙ fifth c;
}

pub returns-then-bytes-size : goal.returns-then-bytes-size
returns-then-bytes-size c = sym (rest5 (goal.at.returns-then-bytes-size c).Else-outside-2
    ∙ hit _ _ _ (lt-ltb (length c.args.bytes.now) (size_in c.args.bytes.now) (omega (arith, c.size.ensures))))

pub returns : goal.returns
returns c = sym (rest5 (goal.at.returns c).Else-outside-2
    ∙ miss_last _ _ (le-ltb (length c.args.bytes.now) (size_in c.args.bytes.now) (omega (arith, c.size.ensures))))
