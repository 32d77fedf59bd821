-- `outside_field` answers its test: a symbol of degree d has nothing above its d low bits.
use Rattle.std.proofs.Common.{◌≡◌, ℕ, ◌/◌, ◌^◌, ◌≤◌, ◌<◌, ltb, leb, arith, sym, ◌∙◌}
use native.Mathlib.Nat.{lt_of_lt_of_le, div-eq_of_lt, div_self}
use native.Mathlib.Decide.{dec_le}
use borrow.Author.Tests.{lt-ltb, le-ltb, le-leb, lt-leb}
use lib.Pow.{pow_pos, pow_mono, shr_mono}
use Rattle.refusal.specs.Refusal.{outside_field}
use Rattle.refusal.proofs.outside_field.Goals as goal

nothing_above : (d a : ℕ) → Dec (2 ^ d ≤ a) → ltb 0 (a / 2 ^ d) ≡ leb (2 ^ d) a
nothing_above d a (yes h) = lt-ltb 0 (a / 2 ^ d) (rw (div_self (pow_pos d)) at (shr_mono d h)) ∙ sym (le-leb (2 ^ d) a h)
nothing_above d a (no h) = rw (div-eq_of_lt (small h)) (sym (lt-leb (2 ^ d) a (small h)))
  where
    small : (2 ^ d ≤ a → ⊥) → a < 2 ^ d
    small k = omega arith

pub returns-then-degree-lt8 : goal.returns-then-degree-lt8
unfolding outside_field
returns-then-degree-lt8 c = nothing_above c.args.degree c.args.a (dec_le _ _)

pub returns-else-degree-lt8 : goal.returns-else-degree-lt8
unfolding outside_field
returns-else-degree-lt8 c =
    le-ltb c.args.degree 8 c.if-degree-lt8.false ∙ sym (lt-leb _ _ (lt_of_lt_of_le c.ranges.a.fits (pow_mono c.if-degree-lt8.false)))
