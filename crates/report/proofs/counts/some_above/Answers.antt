-- `some_above` looks at one flag after the other.
use Rattle.std.proofs.Common.{◌≡◌, ◌∙◌, ◌+◌, ◌<◌, Bool, List, ℕ, arith, ap, sym, drop, get_or, length}
use mathlib.Core.Bool.{◌||◌}
use native.Mathlib.Numerals.{add-one}
use lib.Dec.{ltb}
use lib.ListN.{drop_of_length-le}
use lib.Seq.{drop-cons}
use borrow.Author.Tests.{le-ltb}
use Rattle.std.proofs.Math.Bool.{or_assoc, or-false}
use Rattle.refusal.specs.Refusal.{outside, some_outside}
use Rattle.report.proofs.counts.some_above.Goals as goal

-- a flag is above 2 where it is outside 0 to 2
first : (l : List ℕ) (i : ℕ) → i < length l → some_outside 0 2 (drop i l) ≡ (ltb 2 (get_or l i 0) || some_outside 0 2 (drop (i + 1) l))
unfolding outside some_outside
first l i h = rw (add-one, drop-cons l i 0 h, le-ltb (get_or l i 0) 0 (omega arith))

pub loop-f-preserved : goal.loop-f-preserved
loop-f-preserved c =
    let l = c.args.flags.now in
    let i = c.loop-f.f-index in
    let b = c.loop-f.above in
    or_assoc b (ltb 2 (get_or l i 0)) (some_outside 0 2 (drop (i + 1) l))
    ∙ ap (λ (r : Bool). b || r) (sym (first l i c.loop-f-test.true))
    ∙ c.loop-f.invariant

pub returns : goal.returns
unfolding some_outside
returns c = rw (drop_of_length-le _ c.loop-f-test.false, or-false) at c.loop-f.invariant
