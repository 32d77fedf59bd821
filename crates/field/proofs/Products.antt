-- The laws of the product, shown once over the degree. What holds of any polynomial is shown of any; the rest follows from
-- tests of the degree at powers of two, since the product is additive in both factors.
--
--   times_plus, plus_times        distributivity
--   cut_left                      only the d low bits of a factor count
--   Tested d                      the tests that the polynomial of degree d passes, which antt computes
--   times_below                   a product is a symbol
--   times_comm, times_assoc       for all numbers
--   one_times, x_times            the unit; x times a symbol is the product by 2
--   zero-times, times_high        nothing; what has no bit among the d low ones
-- Assumes nothing.
use mathlib.Core.Path.{◌≡◌, refl, sym, ap, ap₂, ◌∙◌, subst}
use mathlib.Core.Bool.{Bool, true, false, ◌&&◌}
use Prim.Native.Nat.{ℕ, zero, suc, ◌-◌, ◌*◌, ◌/◌, ◌%◌, ◌^◌, ◌≤◌, ◌<◌}
use native.Mathlib.Nat.{mod-lt, mod-mod, mul-mod_left, sub-add_cancel}
use native.Mathlib.Numerals.{add-one}
use native.Mathlib.Omega.{arith}
use native.Mathlib.Decide.{ℕ_discrete}
use lib.Dec.{T, eqb, ltb, eqb→eq, ltb→lt}
use lib.Pow.{pow_pos, pow-add, mod-mod-pow}
use lib.Pow
use Rattle.field.specs.Symbols.{plus, modulus, times_x, times_low, times}
use Rattle.field.proofs.Sums.{plus_self, plus_swap, plus_half, plus_low, plus_shift, plus_bit}
use Rattle.field.proofs.Sums.{bit_plus, Additive, additive_zero, agree, closed}

-- ---- of any polynomial

pub times_x-plus : (d : ℕ) → Additive (times_x d)
unfolding times_x
times_x-plus d a b =
    ap₂ plus (plus_shift 1 a b)
    (ap (λ (x : ℕ). x % 2 * modulus d) (plus_half (d - 1) a b) ∙ plus_bit (a / 2 ^ (d - 1)) (b / 2 ^ (d - 1)) (modulus d))
    ∙ plus_swap (a * 2) (b * 2) (a / 2 ^ (d - 1) % 2 * modulus d) (b / 2 ^ (d - 1) % 2 * modulus d)

low_plus : (d n a : ℕ) → Additive (times_low d n a)
unfolding times_low
low_plus d zero a b c = sym (plus_self 0)
low_plus d (suc n) a b c =
    ap₂ plus (bit_plus a b c) (ap (times_x d) (low_plus d n (a / 2) b c) ∙ times_x-plus d (times_low d n (a / 2) b) (times_low d n (a / 2) c))
    ∙ plus_swap (a % 2 * b) (a % 2 * c) (times_x d (times_low d n (a / 2) b)) (times_x d (times_low d n (a / 2) c))

plus_low_left : (d n b : ℕ) → Additive (λ a. times_low d n a b)
unfolding times_low
plus_low_left d zero b a c = sym (plus_self 0)
plus_low_left d (suc n) b a c =
    ap₂ plus (plus_bit a c b)
    (ap (times_x d) (ap (λ (h : ℕ). times_low d n h b) (plus_half 1 a c) ∙ plus_low_left d n b (a / 2) (c / 2))
    ∙ times_x-plus d (times_low d n (a / 2) b) (times_low d n (c / 2) b))
    ∙ plus_swap (a % 2 * b) (c % 2 * b) (times_x d (times_low d n (a / 2) b)) (times_x d (times_low d n (c / 2) b))

pub times_plus : (d a : ℕ) → Additive (times d a)
unfolding times
times_plus d a b c = ap (times_low d d a) (plus_low d b c) ∙ low_plus d d a (b % 2 ^ d) (c % 2 ^ d)

pub plus_times : (d b : ℕ) → Additive (λ a. times d a b)
unfolding times
plus_times d b a c = plus_low_left d d (b % 2 ^ d) a c

low_cut : (d n a b : ℕ) → times_low d n (a % 2 ^ n) b ≡ times_low d n a b
unfolding times_low
low_cut d zero a b = refl
low_cut d (suc n) a b =
    ap₂ plus (ap (λ (x : ℕ). x * b) (rw (← (add-one n)) (mod-mod-pow a n 1)))
    (ap (times_x d) (ap (λ (h : ℕ). times_low d n h b) (rw (← (add-one n)) (Pow.field a n 1)) ∙ low_cut d n (a / 2) b))

-- only the d low bits of the factors count
pub cut_left : (d a b : ℕ) → times d (a % 2 ^ d) b ≡ times d a b
unfolding times
cut_left d a b = low_cut d d a (b % 2 ^ d)

cut_right : (d a b : ℕ) → times d a (b % 2 ^ d) ≡ times d a b
unfolding times
cut_right d a b = ap (times_low d d a) (mod-mod b (2 ^ d))

cut : (d a b : ℕ) → times d (a % 2 ^ d) (b % 2 ^ d) ≡ times d a b
cut d a b = cut_left d a (b % 2 ^ d) ∙ cut_right d a b

-- ---- tests

-- f passes at all numbers below n
abbrev pub all_below : ℕ → (ℕ → Bool) → Bool
all_below zero f = true
all_below (suc n) f = f n && all_below n f

pub both : (a b : Bool) → T (a && b) → T a × T b
both true b t = (tt, t)
both false b t = absurd t

below_by : (n : ℕ) (f : ℕ → Bool) (i : ℕ) → T (f n) → (i < n → T (f i)) → i < suc n → Dec (i ≡ n) → T (f i)
below_by n f i t u h (yes e) = rw e t
below_by n f i t u h (no e) = u (omega arith)

pub below : (n : ℕ) (f : ℕ → Bool) → T (all_below n f) → (i : ℕ) → i < n → T (f i)
below zero f t i h = absurd (let z : i < 0 = h in omega arith)
below (suc n) f t i h =
    below_by n f i (both (f n) (all_below n f) t).0 (below n f (both (f n) (all_below n f) t).1 i) h (ℕ_discrete i n)

abbrev commutes : ℕ → Bool
commutes d = all_below d λ i. all_below d λ j. eqb (times d (2 ^ i) (2 ^ j)) (times d (2 ^ j) (2 ^ i))

abbrev assoc_at_lem : ℕ → ℕ → ℕ → ℕ → Bool
assoc_at_lem d i j k = eqb (times d (times d (2 ^ i) (2 ^ j)) (2 ^ k)) (times d (2 ^ i) (times d (2 ^ j) (2 ^ k)))

abbrev associates : ℕ → Bool
associates d = all_below d λ i. all_below d λ j. all_below d (assoc_at_lem d i j)

abbrev closes : ℕ → Bool
closes d = all_below d λ i. all_below d λ j. ltb (times d (2 ^ i) (2 ^ j)) (2 ^ d)

abbrev keeps : ℕ → Bool
keeps d = all_below d λ i. eqb (times d 1 (2 ^ i)) (2 ^ i)

abbrev moves : ℕ → Bool
moves d = all_below d λ i. eqb (times_x d (2 ^ i)) (times d 2 (2 ^ i))

pub record Tested (d : ℕ) : Type 0 where
  pub commute : T (commutes d)
  pub associate : T (associates d)
  pub close : T (closes d)
  pub unit : T (keeps d)
  pub move : T (moves d)

-- ---- of a polynomial that passes them

module _ (d : ℕ) (𝓣 : Tested d) where
  comm_below : (a b : ℕ) → a < 2 ^ d → b < 2 ^ d → times d a b ≡ times d b a
  comm_below a b ha hb =
      agree (λ x. times d x b) (times d b) (plus_times d b) (times_plus d b) d
      (λ i hi. agree (times d (2 ^ i)) (λ x. times d x (2 ^ i)) (times_plus d (2 ^ i)) (plus_times d (2 ^ i)) d
      (λ j hj. eqb→eq (times d (2 ^ i) (2 ^ j)) (times d (2 ^ j) (2 ^ i))
      (below d (λ y. eqb (times d (2 ^ i) (2 ^ y)) (times d (2 ^ y) (2 ^ i)))
      (below d (λ x. all_below d λ y. eqb (times d (2 ^ x) (2 ^ y)) (times d (2 ^ y) (2 ^ x))) 𝓣.commute i hi) j hj))
      b hb)
      a ha

  symbol_of : (a : ℕ) → a % 2 ^ d < 2 ^ d
  symbol_of a = mod-lt a (pow_pos d)

  pub times_comm : (a b : ℕ) → times d a b ≡ times d b a
  times_comm a b = sym (cut d a b) ∙ comm_below (a % 2 ^ d) (b % 2 ^ d) (symbol_of a) (symbol_of b) ∙ cut d b a

  assoc_at : (i j k : ℕ) → i < d → j < d → k < d → times d (times d (2 ^ i) (2 ^ j)) (2 ^ k) ≡ times d (2 ^ i) (times d (2 ^ j) (2 ^ k))
  assoc_at i j k hi hj hk =
      eqb→eq (times d (times d (2 ^ i) (2 ^ j)) (2 ^ k)) (times d (2 ^ i) (times d (2 ^ j) (2 ^ k)))
      (below d (assoc_at_lem d i j)
      (below d (λ y. all_below d (assoc_at_lem d i y)) (below d (λ x. all_below d λ y. all_below d (assoc_at_lem d x y)) 𝓣.associate i hi) j hj)
      k hk)

  assoc_third : (i j c : ℕ) → i < d → j < d → c < 2 ^ d → times d (times d (2 ^ i) (2 ^ j)) c ≡ times d (2 ^ i) (times d (2 ^ j) c)
  assoc_third i j c hi hj hc =
      agree (times d (times d (2 ^ i) (2 ^ j))) (λ x. times d (2 ^ i) (times d (2 ^ j) x)) (times_plus d (times d (2 ^ i) (2 ^ j)))
      (λ x y. ap (times d (2 ^ i)) (times_plus d (2 ^ j) x y) ∙ times_plus d (2 ^ i) (times d (2 ^ j) x) (times d (2 ^ j) y))
      d (λ k hk. assoc_at i j k hi hj hk) c hc

  assoc_second : (i b c : ℕ) → i < d → b < 2 ^ d → c < 2 ^ d → times d (times d (2 ^ i) b) c ≡ times d (2 ^ i) (times d b c)
  assoc_second i b c hi hb hc =
      agree (λ x. times d (times d (2 ^ i) x) c) (λ x. times d (2 ^ i) (times d x c))
      (λ x y. ap (λ (z : ℕ). times d z c) (times_plus d (2 ^ i) x y) ∙ plus_times d c (times d (2 ^ i) x) (times d (2 ^ i) y))
      (λ x y. ap (times d (2 ^ i)) (plus_times d c x y) ∙ times_plus d (2 ^ i) (times d x c) (times d y c))
      d (λ j hj. assoc_third i j c hi hj hc) b hb

  assoc_below : (a b c : ℕ) → a < 2 ^ d → b < 2 ^ d → c < 2 ^ d → times d (times d a b) c ≡ times d a (times d b c)
  assoc_below a b c ha hb hc =
      agree (λ x. times d (times d x b) c) (λ x. times d x (times d b c))
      (λ x y. ap (λ (z : ℕ). times d z c) (plus_times d b x y) ∙ plus_times d c (times d x b) (times d y b))
      (plus_times d (times d b c)) d (λ i hi. assoc_second i b c hi hb hc) a ha

  pub times_assoc : (a b c : ℕ) → times d (times d a b) c ≡ times d a (times d b c)
  times_assoc a b c =
      sym (ap (λ (x : ℕ). times d x c) (cut d a b)) ∙ sym (cut_right d (times d (a % 2 ^ d) (b % 2 ^ d)) c)
      ∙ assoc_below (a % 2 ^ d) (b % 2 ^ d) (c % 2 ^ d) (symbol_of a) (symbol_of b) (symbol_of c)
      ∙ ap (times d (a % 2 ^ d)) (cut d b c) ∙ cut_left d a (times d b c)

  pub times_below : (a b : ℕ) → times d a b < 2 ^ d
  times_below a b =
      subst (λ (x : ℕ). x < 2 ^ d) (cut d a b)
      (closed (λ x. times d x (b % 2 ^ d)) (plus_times d (b % 2 ^ d)) d
      (λ i hi. closed (times d (2 ^ i)) (times_plus d (2 ^ i)) d
      (λ j hj. ltb→lt (times d (2 ^ i) (2 ^ j)) (2 ^ d)
      (below d (λ y. ltb (times d (2 ^ i) (2 ^ y)) (2 ^ d))
      (below d (λ x. all_below d λ y. ltb (times d (2 ^ x) (2 ^ y)) (2 ^ d)) 𝓣.close i hi) j hj))
      (b % 2 ^ d) (symbol_of b))
      (a % 2 ^ d) (symbol_of a))

  pub one_times : (a : ℕ) → a < 2 ^ d → times d 1 a ≡ a
  one_times a h =
      agree (times d 1) (λ x. x) (times_plus d 1) (λ x y. refl) d
      (λ i hi. eqb→eq (times d 1 (2 ^ i)) (2 ^ i) (below d (λ x. eqb (times d 1 (2 ^ x)) (2 ^ x)) 𝓣.unit i hi)) a h

  pub x_times : (a : ℕ) → a < 2 ^ d → times_x d a ≡ times d 2 a
  x_times a h =
      agree (times_x d) (times d 2) (times_x-plus d) (times_plus d 2) d
      (λ i hi. eqb→eq (times_x d (2 ^ i)) (times d 2 (2 ^ i)) (below d (λ x. eqb (times_x d (2 ^ x)) (times d 2 (2 ^ x))) 𝓣.move i hi)) a h

  pub zero-times : (a : ℕ) → times d 0 a ≡ 0
  zero-times a = additive_zero (λ x. times d x a) (plus_times d a)

  pub times_high : (i c : ℕ) → d ≤ i → times d (2 ^ i) c ≡ 0
  times_high i c h =
      sym (cut_left d (2 ^ i) c)
      ∙ ap (λ (x : ℕ). times d x c) (rw (← (sub-add_cancel h)) (rw (pow-add 2 (i - d) d) (mul-mod_left (2 ^ (i - d)) (2 ^ d))))
      ∙ zero-times c
