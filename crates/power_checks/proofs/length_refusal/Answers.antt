-- `length_refusal` gives the first of the checks 4 and 18 that applies: the largest length decides.
use Rattle.std.proofs.Common.{arith, sym, ◌∙◌}
use Rattle.refusal.proofs.Ladders.{hit, miss, miss_last}
use Rattle.power_checks.proofs.Passed.{long, fitting, whole, short}
use Rattle.power_checks.proofs.length_refusal.Goals as goal

pub returns-then-n-longest : goal.returns-then-n-longest
returns-then-n-longest c = let p = c.requires in
    sym (miss _ _ _ (fitting p (omega (arith, c.if-n-longest.true, c.length-longest.ensures)))
    ∙ hit _ _ _ (whole p (c.if-n-longest.true ∙ c.length-longest.ensures)))

pub returns-then-n-longest-2 : goal.returns-then-n-longest-2
returns-then-n-longest-2 c = sym (hit _ _ _ (long c.requires (omega (arith, c.if-n-longest-2.true, c.length-longest.ensures))))

pub returns : goal.returns
returns c = let p = c.requires in
    sym (miss _ _ _ (fitting p (omega (arith, c.if-n-longest-2.false, c.length-longest.ensures)))
    ∙ miss_last _ _ (short p (omega (arith, c.if-n-longest.false, c.if-n-longest-2.false, c.length-longest.ensures))))
