-- `flag_zeros` flags one value after the other.
use Rattle.std.proofs.Common.{◌≡◌, ◌∙◌, ℕ, zero, suc, refl, sym, ap, arith, get_or}
use lib.Dec.{eqb}
use mir.Val.{bool_byte}
use borrow.Author.Tests.{ne_eqb}
use Rattle.patch.proofs.Parts.{lay_none}
use Rattle.codes.specs.Code.{total}
use Rattle.finish.specs.Working.{flag_of}
use Rattle.finish.proofs.Marks.{zeros_none, flagged}
use Rattle.finish.proofs.flag_zeros.Goals as goal

-- the flag of a value as a byte
flag_byte : (m : ℕ) → bool_byte (eqb m 0) ≡ flag_of m
flag_byte zero = refl
flag_byte (suc m) = ap bool_byte (ne_eqb (suc m) 0 (λ e. omega arith))

pub loop-i-preserved : goal.loop-i-preserved
loop-i-preserved c =
    let turn = c.loop-i in
    let flag : c.from.result ≡ flag_of (get_or c.args.values.now turn.i 0) = c.from.ensures ∙ flag_byte _ in
    let same : c.from-count.result ≡ c.from.result = cc in
    let one = flagged c.args.values.now turn.i c.loop-i-test.true turn.flags flag (omega arith) in
    (omega (arith, one.small), omega (arith, one.counted), one.laid ∙ turn.invariant.2)

pub returns : goal.returns
unfolding total
returns c =
    let turn = c.loop-i in
    let none = zeros_none c.args.values.now turn.i c.loop-i-test.false in
    (omega (arith, ap total none, turn.invariant.1), sym (lay_none turn.i turn.flags) ∙ rw none at turn.invariant.2)
