-- The three fields: each degree passes its tests, and so has the laws.
--
--   generated_2, generated_4, generated_8    the tests, which antt computes
--   generated d    the tests of a degree that is not bad
--   tested d       those of them that the product needs
--   field d        the laws of the field of such a degree
--   doubled_below  x times a symbol is a symbol
-- Assumes nothing.
use mathlib.Core.Path.{◌≡◌}
use mathlib.Core.Logic.{◌⊎◌, inl, inr}
use mathlib.Core.Bool.{false}
use Prim.Native.Nat.{ℕ, ◌^◌, ◌<◌}
use native.Mathlib.Decide.{ℕ_discrete}
use native.Mathlib.Omega.{arith}
use lib.Dec.{ltb→lt}
use lib.Pow.{pow_pos}
use Rattle.refusal.specs.Refusal.{bad_degree}
use Rattle.refusal.proofs.Laws.{degrees}
use Rattle.field.specs.Symbols.{plus, modulus, times_x, times_low, times}
use Rattle.field.specs.Working.Bits.{halved}
use Rattle.field.specs.Working.Tables.{power}
use Rattle.field.specs.Arithmetic.{gf}
use Rattle.field.proofs.Laws.{Field}
use Rattle.field.proofs.Sums.{plus_comm, plus_assoc, zero_plus, plus_self, plus_below}
use Rattle.field.proofs.Products.{Tested, times_plus, times_comm, times_assoc, times_below, one_times}
use Rattle.field.proofs.BitByBit.{times_x_below}
use Rattle.field.proofs.Powers.{powers, place_of, Generated, over_times, over_below}

tested_2 : Tested 2
unfolding times_x times_low times plus modulus
tested_2 = record { commute = tt; associate = tt; close = tt; unit = tt; move = tt }

generated_2 : Generated 2
unfolding times_x times_low times plus modulus power powers place_of halved
generated_2 = record { tested = tested_2; two = tt; round = tt; reach = tt; start = tt; halve = tt }

tested_4 : Tested 4
unfolding times_x times_low times plus modulus
tested_4 = record { commute = tt; associate = tt; close = tt; unit = tt; move = tt }

generated_4 : Generated 4
unfolding times_x times_low times plus modulus power powers place_of halved
generated_4 = record { tested = tested_4; two = tt; round = tt; reach = tt; start = tt; halve = tt }

tested_8 : Tested 8
unfolding times_x times_low times plus modulus
tested_8 = record { commute = tt; associate = tt; close = tt; unit = tt; move = tt }

generated_8 : Generated 8
unfolding times_x times_low times plus modulus power powers place_of halved
generated_8 = record { tested = tested_8; two = tt; round = tt; reach = tt; start = tt; halve = tt }

pub generated : (d : ℕ) → bad_degree d ≡ false → Generated d
generated d h = go (degrees d h)
  where
    go : (d ≡ 2) ⊎ ((d ≡ 4) ⊎ (d ≡ 8)) → Generated d
    go (inl e) = rw e generated_2
    go (inr (inl e)) = rw e generated_4
    go (inr (inr e)) = rw e generated_8

pub tested : (d : ℕ) → bad_degree d ≡ false → Tested d
tested d h = (generated d h).tested

field_of : (d : ℕ) → Generated d → Field (gf d)
field_of d 𝓖 = record {
  plus_comm = plus_comm;
  plus_assoc = plus_assoc;
  zero_plus = zero_plus;
  plus_self = plus_self;
  times_comm = times_comm d 𝓖.tested;
  times_assoc = times_assoc d 𝓖.tested;
  times_plus = times_plus d;
  one_times = one_times d 𝓖.tested;
  over_times = over_times d 𝓖;
  one_zero = λ (e : ◌≡◌ {A = ℕ} 1 0). omega arith;
  zero_in = pow_pos d;
  one_in = ltb→lt 1 (2 ^ d) 𝓖.two;
  plus_in = plus_below d;
  times_in = times_below d 𝓖.tested;
  over_in = over_below d;
  same = ℕ_discrete;
}

pub field : (d : ℕ) → bad_degree d ≡ false → Field (gf d)
field d h = field_of d (generated d h)

pub doubled_below : (d v : ℕ) → bad_degree d ≡ false → v < 2 ^ d → times_x d v < 2 ^ d
doubled_below d v good h = times_x_below d (tested d good) v h
