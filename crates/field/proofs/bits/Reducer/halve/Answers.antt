-- `halve` is the symbol of which the given one is x times.
use Rattle.std.proofs.Common.{◌≡◌, ℕ, ◌-◌, ◌/◌, ◌%◌, ◌^◌, false, bit_or, arith, ap}
use mathlib.Core.Logic.{◌⊎◌, inl, inr}
use native.Mathlib.Nat.{zero-mul, one-mul}
use Rattle.refusal.specs.Refusal.{bad_degree}
use Rattle.refusal.proofs.Laws.{degrees}
use Rattle.field.specs.Symbols.{plus, modulus}
use Rattle.field.specs.Working.Bits.{halved}
use Rattle.field.proofs.Sums.{plus-zero, bit_lt}
use Rattle.field.proofs.bits.Reducer.halve.Goals as goal

-- half the polynomial: the half of its low bits, and the top bit of a symbol
half_modulus : (d : ℕ) → bad_degree d ≡ false → bit_or (modulus d % 256 / 2) (2 ^ (d - 1)) ≡ modulus d / 2
unfolding modulus
half_modulus d h = go (degrees d h)
  where
    go : (d ≡ 2) ⊎ ((d ≡ 4) ⊎ (d ≡ 8)) → bit_or (modulus d % 256 / 2) (2 ^ (d - 1)) ≡ modulus d / 2
    go (inl e) = rw e
    go (inr (inl e)) = rw e
    go (inr (inr e)) = rw e

pub returns-then-v-eq0 : goal.returns-then-v-eq0
unfolding halved
returns-then-v-eq0 c = rw (c.if-v-eq0.true, zero-mul, plus-zero)

pub returns-else-v-eq0 : goal.returns-else-v-eq0
unfolding halved plus
returns-else-v-eq0 c =
    let g = c.args.self in
    let odd : c.args.v % 2 ≡ 1 = omega (arith, c.if-v-eq0.false, bit_lt c.args.v) in
    ap (plus (c.args.v / 2)) (rw (g.rest, g.top, odd, one-mul) (half_modulus g.degree g.degree_value))
