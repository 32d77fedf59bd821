-- Powers of symbols and of polynomials.
--
--   raised_in, raised_one    a power of a symbol is one, and the first power is the symbol itself
--   raised_some              a power of a symbol that is not zero is not zero
--   raised-over              the power of a quotient is the quotient of the powers
--   poly_power               the power i of a polynomial with k coefficients has i(k−1)+1
--   value-power              its value is that power of the value; values_power, at all points
--   power_one                the first power is the polynomial itself
--   powers_message           the powers are a message of the s rows; encoded_powers, its code array has the powers of the row
-- Assumes nothing.
use mathlib.Core.Path.{◌≡◌, refl, ap, ap₂, ◌∙◌}
use mathlib.Core.List.{List, [], ◌∷◌, ◌++◌, flat_map}
use Prim.Native.Nat.{ℕ, zero, suc, ◌-◌, ◌*◌, ◌≤◌}
use native.Mathlib.Nat.{suc-mul}
use native.Mathlib.Omega.{arith}
use lib.ListN.{length, length-append}
use lib.Seq.{take_at, drop_at}
use Rattle.field.specs.Symbols.{IsSymbol, times, over, raised}
use Rattle.field.specs.Arithmetic.{Arithmetic, gf}
use Rattle.field.proofs.Laws.{Field}
use Rattle.poly.specs.Poly.{All, Poly, value, values_at}
use Rattle.poly.proofs.Ring.{ring, times_one, no_divisors, over_times, over_unique}
use Rattle.poly.proofs.Sums.{scale_one}
use Rattle.poly.proofs.Products.{mul-const, length-mul, symbols_mul}
use Rattle.poly.proofs.Values.{value_const, value-mul}
use Rattle.codes.specs.Code.{IsMessage, total, encoded_rows, encoded, up_from}
use Rattle.codes.proofs.Parts.{all_append}
use Rattle.codes.proofs.Factors.{Factor}
use Rattle.power_checks.specs.Powers.{power_length, power_row, power_rows, power_code, power_of, powers_of}
use Rattle.power_checks.specs.Working.{power_lengths_from}
use Rattle.powers.specs.Working.{power_rows_from, powers_from}

-- a product of products
exchange : {K : Type 0} (A : Arithmetic K) (𝓕 : Field A) (a b u v : K) {w : K} → A.times u v ≡ w
    → A.times (A.times a u) (A.times b v) ≡ A.times (A.times a b) w
exchange A 𝓕 a b u v h = rw (← h) (simp ring)

module _ (d : ℕ) (𝓕 : Field (gf d)) where
  pub raised_in : (a i : ℕ) → IsSymbol d (raised d a i)
  unfolding raised
  raised_in a zero = 𝓕.one_in
  raised_in a (suc i) = 𝓕.times_in a (raised d a i)

  pub raised_one : (a : ℕ) → IsSymbol d a → raised d a 1 ≡ a
  unfolding raised
  raised_one a h = times_one (gf d) 𝓕 h

  pub raised_some : (f i : ℕ) → Factor d f → ¬ (raised d f i ≡ 0)
  unfolding raised
  raised_some f zero h e = 𝓕.one_zero e
  raised_some f (suc i) h e = raised_some f i h (no_divisors (gf d) 𝓕 h.0 (raised_in f i) h.1 e)

  times-raised : (a b i : ℕ) → times d (raised d a i) (raised d b i) ≡ raised d (times d a b) i
  unfolding raised
  times-raised a b zero = times_one (gf d) 𝓕 𝓕.one_in
  times-raised a b (suc i) = exchange (gf d) 𝓕 a b (raised d a i) (raised d b i) (times-raised a b i)

  pub raised-over : (y f i : ℕ) → IsSymbol d y → Factor d f → over d (raised d y i) (raised d f i) ≡ raised d (over d y f) i
  raised-over y f i p h = over_unique (gf d) 𝓕 (raised_in y i) (raised_in f i) (raised_in (over d y f) i) (raised_some f i h)
      (times-raised f (over d y f) i ∙ ap (λ (a : ℕ). raised d a i) (over_times (gf d) 𝓕 p h.0 h.1))

module _ {K : Type 0} (A : Arithmetic K) (𝓕 : Field A) where
  pub power_symbols : (f : List K) (i : ℕ) → All A.In (power_of A f i)
  unfolding power_of
  power_symbols f zero = (𝓕.one_in, tt)
  power_symbols f (suc i) = symbols_mul A 𝓕 f (power_of A f i)

  power-length : {k : ℕ} (f : List K) (i : ℕ) → 1 ≤ k → length f ≡ k → length (power_of A f i) ≡ power_length k i
  unfolding power_of
  power-length {k} f zero some h = omega arith
  power-length {k} f (suc i) some h =
      let count : length (power_of A f i) ≡ suc (i * (k - 1)) = omega (arith, power-length f i some h) in
      omega (arith, length-mul A 𝓕 f (power_of A f i) {m = k - 1} {n = i * (k - 1)} (omega arith) count, suc-mul i (k - 1))

  pub poly_power : {k : ℕ} (f : List K) (i : ℕ) → 1 ≤ k → Poly A k f → Poly A (power_length k i) (power_of A f i)
  poly_power f i some h = record { count = power-length f i some h.count; symbols = power_symbols f i }

  pub power_one : (f : List K) → All A.In f → power_of A f 1 ≡ f
  unfolding power_of
  power_one f h = mul-const A 𝓕 f A.one ∙ scale_one A 𝓕 f h

  -- the powers of a polynomial, row after row
  powers_length : {k : ℕ} (f : List K) (i s : ℕ) → 1 ≤ k → length f ≡ k → length (powers_from A f i s) ≡ total (power_lengths_from k i s)
  unfolding up_from flat_map total
  powers_length f i zero some h = refl
  powers_length {k} f i (suc s) some h = omega (
    arith,
    length-append (power_of A f i) (powers_from A f (suc i) s),
    power-length {k = k} f i some h,
    powers_length {k = k} f (suc i) s some h,
  )

  powers_symbols : (f : List K) (i s : ℕ) → All A.In (powers_from A f i s)
  unfolding up_from flat_map
  powers_symbols f i zero = tt
  powers_symbols f i (suc s) =
      all_append A.In (power_of A f i) (powers_from A f (suc i) s) (power_symbols f i) (powers_symbols f (suc i) s)

module _ (d : ℕ) (𝓕 : Field (gf d)) where
  pub value-power : (f : List ℕ) (i x : ℕ) → value (gf d) (power_of (gf d) f i) x ≡ raised d (value (gf d) f x) i
  unfolding power_of raised
  value-power f zero x = value_const (gf d) 𝓕 1 x
  value-power f (suc i) x = value-mul (gf d) 𝓕 f (power_of (gf d) f i) x ∙ ap (times d (value (gf d) f x)) (value-power f i x)

  pub values_power : (xs f : List ℕ) (i : ℕ) → values_at (gf d) xs (power_of (gf d) f i) ≡ power_row d i (values_at (gf d) xs f)
  unfolding values_at power_row
  values_power [] f i = refl
  values_power (x ∷ xs) f i = ap₂ ◌∷◌ (value-power f i x) (values_power xs f i)

  module _ (xs : List ℕ) {k : ℕ} (some : 1 ≤ k) {f : List ℕ} (h : Poly (gf d) k f) where
    encoded_from : (i s : ℕ)
        → encoded_rows (gf d) xs (power_lengths_from k i s) (powers_from (gf d) f i s) ≡ power_rows_from d i s (values_at (gf d) xs f)
    unfolding encoded_rows up_from flat_map
    encoded_from i zero = refl
    encoded_from i (suc s) =
        let p : List ℕ = power_of (gf d) f i in
        let rest : List ℕ = powers_from (gf d) f (suc i) s in
        let count : length p ≡ power_length k i = (poly_power (gf d) 𝓕 f i some h).count in
        ap₂ ◌++◌
        (ap (values_at (gf d) xs) (take_at p rest (power_length k i) count) ∙ values_power xs f i)
        (ap (encoded_rows (gf d) xs (power_lengths_from k (suc i) s)) (drop_at p rest (power_length k i) count) ∙ encoded_from (suc i) s)

    pub encoded_powers : (s : ℕ) → encoded (power_code d xs k s) (powers_of (gf d) f s) ≡ power_rows d s (values_at (gf d) xs f)
    encoded_powers s = encoded_from 1 s

    pub powers_message : (s : ℕ) → IsMessage (power_code d xs k s) (powers_of (gf d) f s)
    powers_message s = record { count = powers_length (gf d) 𝓕 f 1 s some h.count; symbols = powers_symbols (gf d) 𝓕 f 1 s }
