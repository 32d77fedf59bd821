-- What the checks of the code leave true.
--
--   first-outside    4 applies where k is outside
--   long, fitting, whole, short    where it is not, 4 applies where the largest length is above n, and 18 where it is n
--   Sized d n k s    what 1, 3, 20, 4 and 18 leave; sized, from them and whatever checks follow; short_of, the lengths are short
--   power_counts, power_checked    then the code of the s rows passes its own checks
--   row_counts       what they leave of the single-row code
-- Assumes nothing.
use mathlib.Core.Path.{◌≡◌, refl}
use mathlib.Core.Logic.{◌⊎◌, inl, inr}
use mathlib.Core.Bool.{Bool, true, false}
use mathlib.Core.List.{List, ◌++◌}
use Prim.Native.Nat.{ℕ, ◌≤◌, ◌<◌}
use native.Mathlib.Nat.{mul-le-mul, one-mul}
use native.Mathlib.Omega.{arith}
use native.Mathlib.Decide.{ℕ_discrete}
use lib.ListN.{length}
use Rattle.refusal.specs.Refusal.{Check, first, bad_degree, is_in, outside, some_outside}
use Rattle.refusal.proofs.Laws.{within}
use Rattle.refusal.proofs.Ladders.{clear}
use Rattle.codes.specs.Code.{Code, rows, total}
use Rattle.codes.specs.Checks.{unchecked}
use Rattle.codes.proofs.Proper.{lengths_test, absent_test}
use Rattle.codes.proofs.Passed.{Counts, total-most}
use Rattle.power_checks.specs.Powers.{power_length, power_lengths, row_code, power_code}
use Rattle.power_checks.specs.Checks.{counted_lengths, shape_checks}
use Rattle.power_checks.specs.Working.{Short, Counted}
use Rattle.power_checks.proofs.Sizes.{length_powers, length_one, length_most, lengths_within, lengths_below}

-- ---- 4 and 18

holds : (b : Bool) → ¬ (b ≡ false) → b ≡ true
holds true n = refl
holds false n = absurd (n refl)

-- where k itself is outside
pub first-outside : (n k s : ℕ) → outside 1 n k ≡ true → some_outside 1 n (counted_lengths k s) ≡ true
unfolding some_outside
first-outside n k s e = rw e

module _ {n k s : ℕ} (h : Counted n k s) where
  abbrev L : ℕ
  L = power_length k s

  least : k ≤ L
  least = omega (arith, length_one k h.some, length_most k 1 s h.powers)

  pub long : n < L → some_outside 1 n (counted_lengths k s) ≡ true
  long q = holds _ (λ e. omega (arith, ((lengths_test 1 n (counted_lengths k s)).0 e).1.0.1))

  pub fitting : L ≤ n → some_outside 1 n (counted_lengths k s) ≡ false
  fitting q = (lengths_test 1 n (counted_lengths k s)).1 ((h.some, h.fits), ((omega arith, q), tt))

  pub whole : n ≡ L → is_in n (counted_lengths k s) ≡ true
  whole q = holds _ (λ e. (absent_test n (counted_lengths k s)).0 e (inr (inl q)))

  pub short : L < n → is_in n (counted_lengths k s) ≡ false
  short q = (absent_test n (counted_lengths k s)).1 go
    where
      go : (n ≡ k) ⊎ ((n ≡ L) ⊎ ⊥) → ⊥
      go (inl e) = omega (arith, least)
      go (inr (inl e)) = omega arith
      go (inr (inr z)) = z

-- ---- 1, 3, 20, 4 and 18

pub record Sized (d n k s : ℕ) : Type 0 where
  pub degree : bad_degree d ≡ false
  pub some_columns : 1 ≤ n
  pub counted : Counted n k s
  pub below : power_length k s < n

pub sized : (d n k s : ℕ) (ds : List Check) → 0 ≡ first (shape_checks d n k s ++ ds) → Sized d n k s × (0 ≡ first ds)
sized d n k s ds e =
    let p₁ = clear 0 _ _ e in
    let p₃ = clear 2 _ _ p₁.1 in
    let p₂₀ = clear 19 _ _ p₃.1 in
    let p₄ = clear 3 _ _ p₂₀.1 in
    let p₁₈ = clear 17 _ _ p₄.1 in
    let c = within 1 96 n p₃.0 in
    let r = within 1 4 s p₂₀.0 in
    let ((some, fits), ((one, most), none)) = (lengths_test 1 n (counted_lengths k s)).0 p₄.0 in (
      record {
        degree = p₁.0;
        some_columns = c.0;
        counted = record { some = some; fits = fits; most_columns = c.1; powers = r.0; most_powers = r.1 };
        below = less most (λ q. (absent_test n (counted_lengths k s)).0 p₁₈.0 (inr (inl q)));
      },
      p₁₈.1,
    )
  where
    less : {l m : ℕ} → l ≤ m → ¬ (m ≡ l) → l < m
    less {l} {m} h q = go (ℕ_discrete m l)
      where
        go : Dec (m ≡ l) → l < m
        go (yes e) = absurd (q e)
        go (no e) = omega arith

pub short_of : {d n k s : ℕ} → Sized d n k s → Short k s
short_of h = let c = h.counted in record {
  countable = record { some = c.some; most = omega (arith, c.fits, c.most_columns); powers = c.most_powers };
  short = omega (arith, h.below, c.most_columns);
}

module _ (xs : List ℕ) {d k s : ℕ} (h : Sized d (length xs) k s) where
  abbrev code : Code
  code = power_code d xs k s

  pub power_counts : Counts code
  power_counts =
      let c = h.counted in
      let count : rows code ≡ s = length_powers k 1 s in
      let lengths = lengths_within k (length xs) s (omega (arith, h.below)) in
      record {
        degree = h.degree;
        some_rows = omega (arith, c.powers);
        most_rows = omega (arith, c.most_powers);
        some_columns = h.some_columns;
        most_columns = c.most_columns;
        lengths = lengths;
        fits = total-most (length xs) (power_lengths k s) lengths;
        cells = mul-le-mul {n₂ = 4} (omega (arith, c.most_powers)) c.most_columns;
      }

  pub power_checked : unchecked code ≡ false
  power_checked = lengths_below k (length xs) s h.below

  pub row_counts : Counts (row_code d xs k)
  unfolding total
  row_counts =
      let c = h.counted in
      record {
        degree = h.degree;
        some_rows = omega arith;
        most_rows = omega arith;
        some_columns = h.some_columns;
        most_columns = c.most_columns;
        lengths = ((c.some, c.fits), tt);
        fits = omega (arith, one-mul (length xs), c.fits);
        cells = omega (arith, one-mul (length xs), c.most_columns);
      }
