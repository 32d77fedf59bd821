-- A product worked out bit by bit is the product.
--
--   sixteenth          a sixteenth by halves
--   two, four          a degree is at least 2; one that is not 2 is at least 4
--   last, eight        the degree that is neither 2 nor 4; the degree above 4
--   half_below         half of a number has a bit less
--   low_zero, low_step no bit; one bit more; low_bit, so in a loop from the highest bit on
--   low_times          the product over as many bits as symbols have, or more
--   size_half          the field is twice its half
--   times_x_below, bit_below    x times a symbol is one, and a bit times a symbol
--   doubled_small, doubled_large    x times a symbol, in a byte, by whether its top bit is set
-- Assumes nothing.
use mathlib.Core.Path.{◌≡◌, refl, sym, ap, ap₂, ◌∙◌}
use mathlib.Core.Bool.{false}
use mathlib.Core.Logic.{⊎_elim}
use Prim.Native.Nat.{ℕ, zero, suc, ◌-◌, ◌*◌, ◌/◌, ◌%◌, ◌^◌, ◌≤◌, ◌<◌}
use native.Mathlib.Nat.{mod-eq_of_lt, div-eq_of_lt, div-eq_of_lt-le, lt_of_lt_of_le, one-mul, zero-mul, mul_comm, pow-suc}
use native.Mathlib.Numerals.{add-one}
use native.Mathlib.Omega.{arith}
use lib.Arith.{lt-one}
use lib.Pow.{pow_pos, pow_mono, shr_lt, shr-shr}
use Rattle.refusal.specs.Refusal.{bad_degree}
use Rattle.refusal.proofs.Laws.{degrees}
use Rattle.field.specs.Symbols.{plus, modulus, times_x, times_low, times}
use Rattle.field.proofs.Sums.{plus-zero, plus_self, plus_low, bit_cases, bit_lt, additive_zero}
use Rattle.field.proofs.Products.{times_x-plus, Tested, times_below, x_times}

-- a sixteenth is a half of a half of a half of a half
pub sixteenth : (s : ℕ) → s / 16 ≡ s / 2 / 2 / 2 / 2
sixteenth s = omega arith

pub two : (d : ℕ) → bad_degree d ≡ false → 1 < d
two d h = ⊎_elim (λ e. omega arith) (⊎_elim (λ e. omega arith) (λ e. omega arith)) (degrees d h)

pub four : (d : ℕ) → bad_degree d ≡ false → (d ≡ 2 → ⊥) → 3 < d
four d h n = ⊎_elim (λ e. absurd (n e)) (⊎_elim (λ e. omega arith) (λ e. omega arith)) (degrees d h)

-- of the degrees, only 8 is neither 2 nor 4
pub last : (d : ℕ) → bad_degree d ≡ false → (d ≡ 2 → ⊥) → (d ≡ 4 → ⊥) → d ≡ 8
last d h n m = ⊎_elim (λ e. absurd (n e)) (⊎_elim (λ e. absurd (m e)) (λ e. e)) (degrees d h)

pub eight : (d : ℕ) → bad_degree d ≡ false → 4 < d → d ≡ 8
eight d h large = last d h (λ e. omega arith) (λ e. omega arith)

pub half_below : (n s : ℕ) → s < 2 ^ suc n → s / 2 < 2 ^ n
half_below n s h = shr_lt n 1 (rw (add-one n) h)

pub low_zero : (d a b : ℕ) → 0 ≡ times_low d 0 a b
unfolding times_low
low_zero d a b = refl

-- a bit more
pub low_step : (d n a b : ℕ) {v higher : ℕ} → higher ≡ times_low d n (a / 2) b → v ≡ plus (a % 2 * b) (times_x d higher)
    → v ≡ times_low d (suc n) a b
unfolding times_low
low_step d n a b e is = is ∙ ap (λ (x : ℕ). plus (a % 2 * b) (times_x d x)) e

-- the bits of a from the i-th on
pub low_bit : (d i a b : ℕ) {j v higher : ℕ} → i ≤ d → suc j ≡ i → higher ≡ times_low d (d - i) (a / 2 ^ i) b
    → v ≡ plus (a / 2 ^ j % 2 * b) (times_x d higher) → v ≡ times_low d (d - j) (a / 2 ^ j) b
low_bit d i a b {j} h is e f =
    let more : suc (d - i) ≡ d - j = omega arith in
    let half : a / 2 ^ j / 2 ≡ a / 2 ^ i = shr-shr a j 1 ∙ ap (λ (x : ℕ). a / 2 ^ x) (add-one j ∙ is) in
    rw (← more) (low_step d (d - i) (a / 2 ^ j) b (e ∙ ap (λ (x : ℕ). times_low d (d - i) x b) (sym half)) f)

low_none : (d n b : ℕ) → times_low d n 0 b ≡ 0
unfolding times_low
low_none d zero b = refl
low_none d (suc n) b = ap₂ plus (zero-mul b) (ap (times_x d) (low_none d n b) ∙ additive_zero (times_x d) (times_x-plus d)) ∙ plus_self 0

-- bits that are not there do not count
low_more : (d n m a b : ℕ) → n ≤ m → a < 2 ^ n → times_low d m a b ≡ times_low d n a b
unfolding times_low
low_more d zero m a b h k = rw (lt-one k) (low_none d m b)
low_more d (suc n) zero a b h k = absurd (let z : suc n ≤ 0 = h in omega arith)
low_more d (suc n) (suc m) a b h k =
    ap (λ (x : ℕ). plus (a % 2 * b) (times_x d x)) (low_more d n m (a / 2) b (omega arith) (half_below n a k))

pub low_times : (d n a b : ℕ) → d ≤ n → a < 2 ^ d → b < 2 ^ d → times_low d n a b ≡ times d a b
unfolding times
low_times d n a b h ha hb = low_more d d n a b h ha ∙ ap (times_low d d a) (sym (mod-eq_of_lt hb))

-- the field and its half
pub size_half : (d : ℕ) → 0 < d → 2 ^ d ≡ 2 ^ (d - 1) * 2
size_half d pos = ap (λ (x : ℕ). 2 ^ x) (let e : d ≡ suc (d - 1) = omega arith in e) ∙ pow-suc 2 (d - 1)

module _ (d : ℕ) (𝓣 : Tested d) where
  pub times_x_below : (v : ℕ) → v < 2 ^ d → times_x d v < 2 ^ d
  times_x_below v h = rw (x_times d 𝓣 v h) (times_below d 𝓣 2 v)

  -- a bit times a symbol is a symbol
  pub bit_below : (s b : ℕ) → b < 2 ^ d → s % 2 * b < 2 ^ d
  bit_below s b h = ⊎_elim (λ (z : s % 2 ≡ 0). rw (z, zero-mul b) (pow_pos d)) (λ (z : s % 2 ≡ 1). rw (z, one-mul b) h)
      (bit_cases (s % 2) (bit_lt s))

  -- x times a symbol in a byte, by whether its top bit is set
  bit_low : (t m : ℕ) → t < 2 → t * m % 256 ≡ t * (m % 256)
  bit_low t m h = ⊎_elim (λ (z : t ≡ 0). rw (z, zero-mul m) (sym (zero-mul (m % 256))))
      (λ (z : t ≡ 1). rw (z, one-mul m) (sym (one-mul (m % 256)))) (bit_cases t h)

  doubled_by : (v t : ℕ) → d ≤ 8 → v < 2 ^ d → v / 2 ^ (d - 1) % 2 ≡ t → plus (v * 2 % 256) (t * (modulus d % 256)) ≡ times_x d v
  unfolding times_x
  doubled_by v t h hv e =
      ap (λ (x : ℕ). plus (v * 2 % 256) (x * (modulus d % 256))) (sym e)
      ∙ ap (plus (v * 2 % 256)) (sym (bit_low (v / 2 ^ (d - 1) % 2) (modulus d) (bit_lt (v / 2 ^ (d - 1)))))
      ∙ sym (plus_low 8 (v * 2) (v / 2 ^ (d - 1) % 2 * modulus d))
      ∙ mod-eq_of_lt (lt_of_lt_of_le (times_x_below v hv) (pow_mono h))

  pub doubled_small : (v : ℕ) → d ≤ 8 → v < 2 ^ d → v < 2 ^ (d - 1) → v * 2 % 256 ≡ times_x d v
  doubled_small v h hv k =
      sym (plus-zero (v * 2 % 256)) ∙ ap (plus (v * 2 % 256)) (sym (zero-mul (modulus d % 256)))
      ∙ doubled_by v 0 h hv (ap (λ (x : ℕ). x % 2) (div-eq_of_lt k))

  pub doubled_large : (v : ℕ) → d ≤ 8 → v < 2 ^ d → 0 < d → 2 ^ (d - 1) ≤ v → plus (v * 2 % 256) (modulus d % 256) ≡ times_x d v
  doubled_large v h hv pos k =
      ap (plus (v * 2 % 256)) (sym (one-mul (modulus d % 256))) ∙ doubled_by v 1 h hv (ap (λ (x : ℕ). x % 2) top_bit)
    where
      whole : 2 ^ d ≡ 2 * 2 ^ (d - 1)
      whole = ap (λ (x : ℕ). 2 ^ x) (let e : d ≡ suc (d - 1) = omega arith in e) ∙ pow-suc 2 (d - 1) ∙ mul_comm (2 ^ (d - 1)) 2

      top_bit : v / 2 ^ (d - 1) ≡ 1
      top_bit = div-eq_of_lt-le (2 ^ (d - 1)) (rw (one-mul (2 ^ (d - 1))) k) (rw whole at hv)
