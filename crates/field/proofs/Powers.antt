-- Every nonzero symbol is a power of x, and the powers come round after 2 ^ d − 1: from this the inverses.
--
--   powers d n c        c, x·c, x²·c, …, n of them
--   place_of b p         the place of b in the list p, its length where b is not in it
--   Generated d         the tests of that, which antt computes
--   halved_twice        a symbol's half is a symbol, and x times it is that symbol
--   power-add           x^i · x^j = x^(i + j)
--   power-inverse       x^i and x^(2 ^ d − 1 − i) are inverse to each other
--   exponent d b        the exponent of a nonzero symbol; power_exponent: x to it is b; exponent_below
--   over_times          division undoes the product
--   over_unique         nothing else does
-- Assumes nothing.
use mathlib.Core.Path.{◌≡◌, refl, sym, ap, ◌∙◌, subst}
use mathlib.Core.Bool.{Bool, true, false, cond, ◌&&◌, ◌||◌}
use mathlib.Core.List.{List, [], ◌∷◌}
use Prim.Native.Nat.{ℕ, zero, suc, ◌+◌, ◌-◌, ◌^◌, ◌≤◌, ◌<◌}
use native.Mathlib.Nat.{suc-add, add-suc, zero-add, add-zero, sub-add_cancel, le_of_lt}
use native.Mathlib.Omega.{arith}
use native.Mathlib.Decide.{ℕ_discrete}
use lib.Dec.{T, eqb, ltb, eqb→eq, ltb→lt}
use lib.ListN.{length, get_or}
use lib.Pow.{pow_pos}
use borrow.Author.Tests.{eq-eqb, ne_eqb}
use Rattle.field.specs.Symbols.{times_x, times, Quotient, quotient_below, over}
use Rattle.field.specs.Working.Bits.{halved}
use Rattle.field.specs.Working.Tables.{power}
use Rattle.field.proofs.Products.{Tested, times_comm, times_assoc, times_below, one_times, x_times, all_below, both, below}

unfoldable pub powers : ℕ → ℕ → ℕ → List ℕ
powers d zero c = []
powers d (suc n) c = c ∷ powers d n (times_x d c)

unfoldable pub place_of : ℕ → List ℕ → ℕ
place_of b [] = zero
place_of b (a ∷ p) = cond (eqb a b) zero (suc (place_of b p))

-- b is 0 or stands at its place in p
abbrev stands : List ℕ → ℕ → Bool
stands p b = eqb b 0 || eqb (get_or p (place_of b p) 0) b && ltb (place_of b p) (length p)

abbrev stand_all : ℕ → List ℕ → Bool
stand_all n p = all_below n (stands p)

-- the half of a symbol is a symbol, and x times it is that symbol
abbrev halves : ℕ → ℕ → Bool
halves d v = ltb (halved d v) (2 ^ d) && eqb (times_x d (halved d v)) v

pub record Generated (d : ℕ) : Type 0 where
  pub tested : Tested d
  pub two : T (ltb 1 (2 ^ d))
  pub round : T (eqb (power d (2 ^ d - 1)) 1)
  pub reach : T (stand_all (2 ^ d) (powers d (2 ^ d - 1) 1))
  pub start : T (all_below d λ i. eqb (power d i) (2 ^ i))
  pub halve : T (all_below (2 ^ d) (halves d))

-- ---- one round of powers as a list

pub length_powers : (d n c : ℕ) → length (powers d n c) ≡ n
unfolding powers
length_powers d zero c = refl
length_powers d (suc n) c = ap suc (length_powers d n (times_x d c))

powers_from : (d n j i : ℕ) → i < n → get_or (powers d n (power d j)) i 0 ≡ power d (j + i)
unfolding powers power
powers_from d zero j i h = absurd (let z : i < 0 = h in omega arith)
powers_from d (suc n) j zero h = ap (power d) (sym (add-zero j))
powers_from d (suc n) j (suc i) h = powers_from d n (suc j) i (omega arith) ∙ ap (power d) (suc-add j i ∙ sym (add-suc j i))

pub powers_at : (d n i : ℕ) → i < n → get_or (powers d n 1) i 0 ≡ power d i
unfolding power
powers_at d n i h = powers_from d n 0 i h ∙ ap (power d) (zero-add i)

-- the exponent of a nonzero symbol
unfoldable pub exponent : ℕ → ℕ → ℕ
exponent d b = place_of b (powers d (2 ^ d - 1) 1)

-- ---- the search for a quotient

module _ (d a b : ℕ) where
  found_by : (n c : ℕ) → c < suc n → times d c b ≡ a → (c < n → times d (quotient_below n d a b) b ≡ a)
      → Dec (times d n b ≡ a) → times d (quotient_below (suc n) d a b) b ≡ a
  unfolding quotient_below
  found_by n c h e u (yes f) = rw (eq-eqb (times d n b) a f) f
  found_by n c h e u (no f) = rw (ne_eqb (times d n b) a f) (u (smaller (ℕ_discrete c n)))
    where
      smaller : Dec (c ≡ n) → c < n
      smaller (yes g) = absurd (f (ap (λ (x : ℕ). times d x b) (sym g) ∙ e))
      smaller (no g) = omega arith

  found : (n c : ℕ) → c < n → times d c b ≡ a → times d (quotient_below n d a b) b ≡ a
  found zero c h e = absurd (let z : c < 0 = h in omega arith)
  found (suc n) c h e = found_by n c h e (λ k. found n c k e) (ℕ_discrete (times d n b) a)

  within : (m n : ℕ) → 0 < m → n ≤ m → quotient_below n d a b < m
  unfolding quotient_below
  within m zero p h = p
  within m (suc n) p h = go (eqb (times d n b) a) (within m n p (omega arith))
    where
      go : (t : Bool) → quotient_below n d a b < m → cond t n (quotient_below n d a b) < m
      go true k = omega arith
      go false k = k

pub over_below : (d a b : ℕ) → over d a b < 2 ^ d
unfolding over
over_below d a b = within d a b (2 ^ d) (2 ^ d) (pow_pos d) (omega arith)

-- ---- of a degree that passes the tests

module _ (d : ℕ) (𝓖 : Generated d) where
  one_below : 1 < 2 ^ d
  one_below = ltb→lt 1 (2 ^ d) 𝓖.two

  pub power_below : (i : ℕ) → power d i < 2 ^ d
  unfolding power
  power_below zero = one_below
  power_below (suc i) = rw (x_times d 𝓖.tested (power d i) (power_below i)) (times_below d 𝓖.tested 2 (power d i))

  pub halved_twice : (v : ℕ) → v < 2 ^ d → (halved d v < 2 ^ d) × (times_x d (halved d v) ≡ v)
  halved_twice v h =
      let (small, back) = both (ltb (halved d v) (2 ^ d)) (eqb (times_x d (halved d v)) v) (below (2 ^ d) (halves d) 𝓖.halve v h) in
      (ltb→lt (halved d v) (2 ^ d) small, eqb→eq (times_x d (halved d v)) v back)

  -- below x^d a power of x is a power of two
  pub power_small : (i : ℕ) → i < d → power d i ≡ 2 ^ i
  power_small i h = eqb→eq (power d i) (2 ^ i) (below d (λ j. eqb (power d j) (2 ^ j)) 𝓖.start i h)

  pub power-add : (i j : ℕ) → times d (power d i) (power d j) ≡ power d (i + j)
  unfolding power
  power-add zero j = one_times d 𝓖.tested (power d j) (power_below j) ∙ ap (power d) (sym (zero-add j))
  power-add (suc i) j =
      ap (λ (x : ℕ). times d x (power d j)) (x_times d 𝓖.tested (power d i) (power_below i))
      ∙ times_assoc d 𝓖.tested 2 (power d i) (power d j)
      ∙ sym (x_times d 𝓖.tested (times d (power d i) (power d j)) (times_below d 𝓖.tested (power d i) (power d j)))
      ∙ ap (times_x d) (power-add i j) ∙ ap (power d) (sym (suc-add i j))

  pub power-inverse : (i : ℕ) → i ≤ 2 ^ d - 1 → Quotient d 1 (power d i) (power d (2 ^ d - 1 - i))
  power-inverse i h = record {
    symbol = power_below (2 ^ d - 1 - i);
    undoes = power-add (2 ^ d - 1 - i) i ∙ ap (power d) (sub-add_cancel h) ∙ eqb→eq (power d (2 ^ d - 1)) 1 𝓖.round;
  }

  stands_there : (b : ℕ) → b < 2 ^ d → (b ≡ 0 → ⊥) → (get_or (powers d (2 ^ d - 1) 1) (exponent d b) 0 ≡ b) × (exponent d b < 2 ^ d - 1)
  unfolding exponent
  stands_there b h n =
      go (below (2 ^ d) (stands (powers d (2 ^ d - 1) 1)) 𝓖.reach b h) (ne_eqb b 0 n)
    where
      p : List ℕ
      p = powers d (2 ^ d - 1) 1

      go : T (stands p b) → eqb b 0 ≡ false → (get_or p (place_of b p) 0 ≡ b) × (place_of b p < 2 ^ d - 1)
      go t e =
          let here : Bool = eqb (get_or p (place_of b p) 0) b in
          let inside : Bool = ltb (place_of b p) (length p) in
          let there : T here × T inside = both here inside (rw e at t) in
          (eqb→eq (get_or p (place_of b p) 0) b there.0, rw (length_powers d (2 ^ d - 1) 1) at (ltb→lt (place_of b p) (length p) there.1))

  pub exponent_below : (b : ℕ) → b < 2 ^ d → (b ≡ 0 → ⊥) → exponent d b < 2 ^ d - 1
  exponent_below b h n = (stands_there b h n).1

  pub power_exponent : (b : ℕ) → b < 2 ^ d → (b ≡ 0 → ⊥) → power d (exponent d b) ≡ b
  power_exponent b h n = sym (powers_at d (2 ^ d - 1) (exponent d b) (exponent_below b h n)) ∙ (stands_there b h n).0

  -- a nonzero symbol has an inverse
  inverse : (b : ℕ) → b < 2 ^ d → (b ≡ 0 → ⊥) → (c : ℕ) × (times d c b ≡ 1)
  inverse b h n = (
    power d (2 ^ d - 1 - exponent d b),
    ap (times d (power d (2 ^ d - 1 - exponent d b))) (sym (power_exponent b h n))
        ∙ (power-inverse (exponent d b) (le_of_lt (exponent_below b h n))).undoes,
  )

  pub over_times : (a b : ℕ) → a < 2 ^ d → b < 2 ^ d → (b ≡ 0 → ⊥) → times d (over d a b) b ≡ a
  unfolding over
  over_times a b ha hb n =
      let c : (c : ℕ) × (times d c b ≡ 1) = inverse b hb n in
      found d a b (2 ^ d) (times d a c.0) (times_below d 𝓖.tested a c.0)
      (times_assoc d 𝓖.tested a c.0 b ∙ ap (times d a) c.1 ∙ times_comm d 𝓖.tested a 1 ∙ one_times d 𝓖.tested a ha)

  cancel : (a c b : ℕ) → a < 2 ^ d → c < 2 ^ d → b < 2 ^ d → (b ≡ 0 → ⊥) → times d a b ≡ times d c b → a ≡ c
  cancel a c b ha hc hb n e =
      let i : (i : ℕ) × (times d i b ≡ 1) = inverse b hb n in
      let back : (x : ℕ) → x < 2 ^ d → times d i.0 (times d x b) ≡ x =
      λ x hx. ap (times d i.0) (times_comm d 𝓖.tested x b) ∙ sym (times_assoc d 𝓖.tested i.0 b x)
      ∙ ap (λ (y : ℕ). times d y x) i.1 ∙ one_times d 𝓖.tested x hx in
      sym (back a ha) ∙ ap (times d i.0) e ∙ back c hc

  pub over_unique : (a b c : ℕ) → b < 2 ^ d → c < 2 ^ d → (b ≡ 0 → ⊥) → times d c b ≡ a → over d a b ≡ c
  over_unique a b c hb hc n e =
      cancel (over d a b) c b (over_below d a b) hc hb n
      (over_times a b (subst (λ (x : ℕ). x < 2 ^ d) e (times_below d 𝓖.tested c b)) hb n ∙ sym e)
