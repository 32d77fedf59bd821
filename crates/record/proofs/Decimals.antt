-- Numbers in decimal.
--
--   printed_decimal    what `{}` writes of a number is its decimal digits
--   decimal_short      a number below 10 ^ k has at most k digits
-- Assumes nothing.
use mathlib.Core.Path.{◌≡◌, refl, sym, ap, ◌∙◌}
use mathlib.Core.List.{List, [], ◌∷◌, ◌++◌}
use Prim.Native.Nat.{ℕ, zero, suc, ◌+◌, ◌/◌, ◌%◌, ◌^◌, ◌≤◌, ◌<◌}
use native.Mathlib.Nat.{pow-suc, div-lt_iff_lt-mul, le_refl}
use native.Mathlib.Decide.{dec_lt}
use native.Mathlib.Omega.{arith}
use lib.ListN.{length, length-append}
use borrow.Author.Tests.{lt-ltb, le-ltb}
use Rattle.std.specs.Fmt.{decimal as printed}
use Rattle.std.proofs.lemmas.Fmt.{decimal_by_steps}
use Rattle.record.specs.Lines.{decimal_by, decimal}

-- the two clauses of `decimal_by`
one_digit : (f n : ℕ) → n < 10 → decimal_by f n ≡ (48 + n) ∷ []
unfolding decimal_by
one_digit zero n h = refl
one_digit (suc f) n h = rw (lt-ltb n 10 h)

more_digits : (f n : ℕ) → 10 ≤ n → decimal_by (suc f) n ≡ decimal_by f (n / 10) ++ (48 + n % 10) ∷ []
unfolding decimal_by
more_digits f n h = rw (le-ltb n 10 h)

grown : (m : ℕ) (ds : List ℕ) → 10 ≤ m → ((f : ℕ) → m / 10 ≤ f → decimal_by f (m / 10) ≡ ds) → (f : ℕ) → m ≤ f
    → decimal_by f m ≡ ds ++ (48 + m % 10) ∷ []
grown m ds l is zero most = absurd (omega arith)
grown m ds l is (suc f) most = more_digits f m l ∙ ap (λ (v : List ℕ). v ++ (48 + m % 10) ∷ []) (is f (omega arith))

pub printed_decimal : (n : ℕ) → n < 2 ^ 64 → printed n ≡ decimal n
unfolding decimal
printed_decimal n small =
    sym (decimal_by_steps (λ m ds. (f : ℕ) → m ≤ f → decimal_by f m ≡ ds) (λ m l f most. one_digit f m l) grown n small n (le_refl n))

short_one : (k n f : ℕ) → n < 10 → length (decimal_by f n) ≤ suc k
short_one k n f h = rw (one_digit f n h) (omega arith)

short_by : (f n k : ℕ) → n < 10 ^ suc k → length (decimal_by f n) ≤ suc k
unfolding decimal_by
short_by zero n k h = omega arith
short_by (suc f) n k h = go k h (λ j less. short_by f (n / 10) j less) (dec_lt n 10)
  where
    go : (k : ℕ) → n < 10 ^ suc k → ((j : ℕ) → n / 10 < 10 ^ suc j → length (decimal_by f (n / 10)) ≤ suc j) → Dec (n < 10)
        → length (decimal_by (suc f) n) ≤ suc k
    go k h ih (yes l) = short_one k n (suc f) l
    go zero h ih (no l) = absurd (let z : n < 10 ^ 1 = h in omega arith)
    go (suc j) h ih (no l) =
        let less : n / 10 < 10 ^ suc j =
        (div-lt_iff_lt-mul {k = 10} {x = n} {y = 10 ^ suc j} (omega arith)).1 (rw (pow-suc 10 (suc j)) at h) in
        rw (more_digits f n (omega arith)) (rw length-append (omega (arith, ih j less)))

pub decimal_short : (k n : ℕ) → n < 10 ^ suc k → length (decimal n) ≤ suc k
unfolding decimal
decimal_short k n h = short_by n n k h
