-- The laws of the sum, for all numbers; and what is additive over it.
--
--   plus_comm, plus_assoc, zero_plus, plus-zero, plus_self    the group laws
--   plus_below      the sum of two symbols is a symbol
--   plus_half, plus_low, plus_shift                            the sum bit by bit: shifted down, cut, shifted up
--   Additive f      f of a sum is the sum of its values
--   agree           two additive functions that agree at the powers of two below 2 ^ d agree on all symbols of degree d
--   closed          an additive function that sends those powers to symbols sends symbols to symbols
-- Assumes nothing.
use mathlib.Core.Path.{◌≡◌, refl, sym, ap, ap₂, ◌∙◌, subst}
use mathlib.Core.Logic.{⊎_elim, ◌⊎◌, inl, inr}
use Prim.Native.Nat.{ℕ, zero, suc, ◌+◌, ◌*◌, ◌/◌, ◌%◌, ◌^◌, ◌<◌}
use native.Mathlib.Nat.{mod-lt, mod-eq_of_lt, zero-mul, one-mul, add-zero}
use native.Mathlib.Omega.{arith}
use lib.Arith.{bin_ind, lt-one}
use lib.Pow.{pow_pos, split, shr_lt}
use lib.Bits.{bit_xor, differ, xor_step, xor_comm, xor_zero_l, xor_zero_r, xor_self, xor_lt, xor_shr, xor_mod, xor_block, xor_shifted}
use Rattle.field.specs.Symbols.{plus}

-- a bit is 0 or 1
pub bit_cases : (x : ℕ) → x < 2 → (x ≡ 0) ⊎ (x ≡ 1)
bit_cases zero h = inl refl
bit_cases (suc zero) h = inr refl
bit_cases (suc (suc x)) h = absurd (let z : suc (suc x) < 2 = h in omega arith)

differ_assoc : (x y z : ℕ) → x < 2 → y < 2 → z < 2 → differ (differ x y) z ≡ differ x (differ y z)
differ_assoc x y z hx hy hz = go (bit_cases x hx) (bit_cases y hy) (bit_cases z hz)
  where
    P : ℕ → ℕ → ℕ → Type 0
    P x y z = differ (differ x y) z ≡ differ x (differ y z)

    go : (x ≡ 0) ⊎ (x ≡ 1) → (y ≡ 0) ⊎ (y ≡ 1) → (z ≡ 0) ⊎ (z ≡ 1) → P x y z
    go (inl p) (inl q) (inl r) = rw (p, q, r)
    go (inl p) (inl q) (inr r) = rw (p, q, r)
    go (inl p) (inr q) (inl r) = rw (p, q, r)
    go (inl p) (inr q) (inr r) = rw (p, q, r)
    go (inr p) (inl q) (inl r) = rw (p, q, r)
    go (inr p) (inl q) (inr r) = rw (p, q, r)
    go (inr p) (inr q) (inl r) = rw (p, q, r)
    go (inr p) (inr q) (inr r) = rw (p, q, r)

half_of : (a b : ℕ) → bit_xor a b / 2 ≡ bit_xor (a / 2) (b / 2)
half_of a b = xor_shr a b 1

bit_of : (a b : ℕ) → bit_xor a b % 2 ≡ bit_xor (a % 2) (b % 2)
bit_of a b = xor_mod a b 1

bits_differ : (x y : ℕ) → x < 2 → y < 2 → bit_xor x y ≡ differ x y
bits_differ x y hx hy = go (bit_cases x hx) (bit_cases y hy)
  where
    go : (x ≡ 0) ⊎ (x ≡ 1) → (y ≡ 0) ⊎ (y ≡ 1) → bit_xor x y ≡ differ x y
    go (inl p) (inl q) = rw (p, q)
    go (inl p) (inr q) = rw (p, q)
    go (inr p) (inl q) = rw (p, q)
    go (inr p) (inr q) = rw (p, q)

pub bit_lt : (a : ℕ) → a % 2 < 2
bit_lt a = mod-lt a (omega arith)

bit_differs : (a b : ℕ) → bit_xor a b % 2 ≡ differ (a % 2) (b % 2)
bit_differs a b = bit_of a b ∙ bits_differ (a % 2) (b % 2) (bit_lt a) (bit_lt b)

xor_assoc : (a b c : ℕ) → bit_xor (bit_xor a b) c ≡ bit_xor a (bit_xor b c)
xor_assoc =
    bin_ind (λ (n : ℕ). (b c : ℕ) → bit_xor (bit_xor n b) c ≡ bit_xor n (bit_xor b c)) (λ b c. refl)
    (λ n ih b c.
    xor_step (bit_xor n b) c
    ∙ ap₂ (λ (h l : ℕ). h * 2 + l)
    (ap (λ (h : ℕ). bit_xor h (c / 2)) (half_of n b) ∙ ih (b / 2) (c / 2) ∙ ap (bit_xor (n / 2)) (sym (half_of b c)))
    (ap (λ (l : ℕ). differ l (c % 2)) (bit_differs n b) ∙ differ_assoc (n % 2) (b % 2) (c % 2) (bit_lt n) (bit_lt b) (bit_lt c)
    ∙ ap (differ (n % 2)) (sym (bit_differs b c)))
    ∙ sym (xor_step n (bit_xor b c)))

pub plus_comm : (a b : ℕ) → plus a b ≡ plus b a
unfolding plus
plus_comm = xor_comm

pub plus_assoc : (a b c : ℕ) → plus (plus a b) c ≡ plus a (plus b c)
unfolding plus
plus_assoc = xor_assoc

pub zero_plus : (a : ℕ) → plus 0 a ≡ a
unfolding plus
zero_plus = xor_zero_l

pub plus-zero : (a : ℕ) → plus a 0 ≡ a
unfolding plus
plus-zero = xor_zero_r

pub plus_self : (a : ℕ) → plus a a ≡ 0
unfolding plus
plus_self = xor_self

pub plus_below : (d a b : ℕ) → a < 2 ^ d → b < 2 ^ d → plus a b < 2 ^ d
unfolding plus
plus_below = xor_lt

-- four terms, the inner two exchanged
pub plus_swap : (a b c e : ℕ) → plus (plus a b) (plus c e) ≡ plus (plus a c) (plus b e)
plus_swap a b c e =
    plus_assoc a b (plus c e) ∙ ap (plus a) (sym (plus_assoc b c e) ∙ ap (λ (x : ℕ). plus x e) (plus_comm b c) ∙ plus_assoc c b e)
    ∙ sym (plus_assoc a c (plus b e))

pub plus_half : (k a b : ℕ) → plus a b / 2 ^ k ≡ plus (a / 2 ^ k) (b / 2 ^ k)
unfolding plus
plus_half k a b = xor_shr a b k

pub plus_low : (k a b : ℕ) → plus a b % 2 ^ k ≡ plus (a % 2 ^ k) (b % 2 ^ k)
unfolding plus
plus_low k a b = xor_mod a b k

pub plus_shift : (k a b : ℕ) → plus a b * 2 ^ k ≡ plus (a * 2 ^ k) (b * 2 ^ k)
unfolding plus
plus_shift k a b =
    sym (add-zero (bit_xor a b * 2 ^ k))
    ∙ sym (xor_block k a b 0 0 (pow_pos k) (pow_pos k))
    ∙ ap₂ bit_xor (add-zero (a * 2 ^ k)) (add-zero (b * 2 ^ k))

-- a bit times a number
pub plus_bit : (a b m : ℕ) → plus a b % 2 * m ≡ plus (a % 2 * m) (b % 2 * m)
plus_bit a b m = ap (λ (x : ℕ). x * m) (plus_low 1 a b) ∙ go (bit_cases (a % 2) (bit_lt a)) (bit_cases (b % 2) (bit_lt b))
  where
    go : (a % 2 ≡ 0) ⊎ (a % 2 ≡ 1) → (b % 2 ≡ 0) ⊎ (b % 2 ≡ 1) → plus (a % 2) (b % 2) * m ≡ plus (a % 2 * m) (b % 2 * m)
    go (inl p) (inl q) = rw (p, q) (simp (zero_plus, zero-mul))
    go (inl p) (inr q) = rw (p, q) (simp (zero_plus, zero-mul))
    go (inr p) (inl q) = rw (p, q) (simp (plus-zero, zero-mul))
    go (inr p) (inr q) = rw (p, q) (simp (plus_self, zero-mul))

pub bit_plus : (a b c : ℕ) → a % 2 * plus b c ≡ plus (a % 2 * b) (a % 2 * c)
bit_plus a b c =
    ⊎_elim (λ (z : a % 2 ≡ 0). rw z (simp (zero-mul, zero_plus))) (λ (z : a % 2 ≡ 1). rw z (simp one-mul)) (bit_cases (a % 2) (bit_lt a))

-- ---- additive functions

abbrev pub Additive : (ℕ → ℕ) → Type 0
Additive f = (a b : ℕ) → f (plus a b) ≡ plus (f a) (f b)

pub additive_zero : (f : ℕ → ℕ) → Additive f → f 0 ≡ 0
additive_zero f af = ap f (sym (plus_self 0)) ∙ af 0 0 ∙ plus_self (f 0)

-- a number is what stands above its d low bits and those
pub top : (d a : ℕ) → a ≡ plus (a / 2 ^ d * 2 ^ d) (a % 2 ^ d)
unfolding plus
top d a = sym (split a d) ∙ sym (xor_shifted (a / 2 ^ d) d (a % 2 ^ d) (mod-lt a (pow_pos d)))

pub additive_bit : (f : ℕ → ℕ) → Additive f → (p s : ℕ) → f (s % 2 * p) ≡ s % 2 * f p
additive_bit f af p s =
    ⊎_elim (λ (z : s % 2 ≡ 0). rw (z, zero-mul p, zero-mul (f p)) (additive_zero f af))
    (λ (z : s % 2 ≡ 1). rw (z, one-mul p, one-mul (f p)) refl)
    (bit_cases (s % 2) (bit_lt s))

module _ (f g : ℕ → ℕ) (af : Additive f) (ag : Additive g) where
  at_top : (p q : ℕ) → f p ≡ g p → q < 2 → f (q * p) ≡ g (q * p)
  at_top p q e h =
      ⊎_elim (λ (z : q ≡ 0). rw (z, zero-mul) (additive_zero f af ∙ sym (additive_zero g ag))) (λ (z : q ≡ 1). rw (z, one-mul) e)
      (bit_cases q h)

  pub agree : (d : ℕ) → ((i : ℕ) → i < d → f (2 ^ i) ≡ g (2 ^ i)) → (a : ℕ) → a < 2 ^ d → f a ≡ g a
  agree zero e a h = rw (lt-one h) (additive_zero f af ∙ sym (additive_zero g ag))
  agree (suc d) e a h =
      ap f (top d a) ∙ af (a / 2 ^ d * 2 ^ d) (a % 2 ^ d)
      ∙ ap₂ plus (at_top (2 ^ d) (a / 2 ^ d) (e d (omega arith)) (shr_lt 1 d (rw (← (one_more d)) h)))
      (agree d (λ i k. e i (omega arith)) (a % 2 ^ d) (mod-lt a (pow_pos d)))
      ∙ sym (ag (a / 2 ^ d * 2 ^ d) (a % 2 ^ d)) ∙ ap g (sym (top d a))
    where
      one_more : (n : ℕ) → suc n ≡ 1 + n
      one_more n = omega arith

pub closed : (f : ℕ → ℕ) → Additive f → (d : ℕ) → ((i : ℕ) → i < d → f (2 ^ i) < 2 ^ d) → (a : ℕ) → a < 2 ^ d → f a < 2 ^ d
closed f af d e a h =
    let low : Additive (λ x. f x % 2 ^ d) = λ x y. ap (λ (z : ℕ). z % 2 ^ d) (af x y) ∙ plus_low d (f x) (f y) in
    let same : f a ≡ f a % 2 ^ d = agree f (λ x. f x % 2 ^ d) af low d (λ i k. sym (mod-eq_of_lt (e i k))) a h in
    subst (λ (x : ℕ). x < 2 ^ d) (sym same) (mod-lt (f a) (pow_pos d))
