-- A table of inverses, worked out along the powers of x, each beside its inverse.
--
--   Right d t j        t has at x^j its inverse
--   Inverted d i t     so it has at the first i powers of x, from either end
--   Paired d i a b     a is x^i, and b its inverse; paired_first, paired_next
--   inverted_next      one pair more in the table; inverted_all, every symbol but 0 is in one of them
--   quotient_by        the quotient by the divisor's inverse
-- Assumes nothing.
use mathlib.Core.Path.{◌≡◌, refl, sym, ap, ◌∙◌, subst}
use mathlib.Core.List.{List}
use Prim.Native.Nat.{ℕ, ◌+◌, ◌-◌, ◌^◌, ◌≤◌, ◌<◌}
use native.Mathlib.Decide.{dec_lt, ℕ_discrete}
use native.Mathlib.Numerals.{add-one}
use native.Mathlib.Omega.{arith}
use lib.ListN.{length, get_or, set, length-set}
use lib.Seq.{get_or-set_same, get_or-set_other}
use Rattle.field.specs.Symbols.{times_x, times, over, Quotient}
use Rattle.field.specs.Working.Bits.{halved}
use Rattle.field.specs.Working.Tables.{power, IsTable}
use Rattle.field.proofs.Products.{times_comm, times_assoc, times_below, one_times, x_times}
use Rattle.field.proofs.Powers.{Generated, power_below, power-inverse, halved_twice, exponent, power_exponent, exponent_below}
use Rattle.field.proofs.Powers.{over_unique}

abbrev pub Right : ℕ → List ℕ → ℕ → Type 0
Right d t j = Quotient d 1 (power d j) (get_or t (power d j) 0)

abbrev pub Inverted : ℕ → ℕ → List ℕ → Type 0
Inverted d i t = (j : ℕ) → j < i → Right d t j × Right d t (2 ^ d - 1 - j)

pub record Paired (d i a b : ℕ) : Type 0 where
  pub raised : a ≡ power d i
  pub inverse : Quotient d 1 a b

-- what is written over an entry is its symbol's inverse too
right_kept : (d j : ℕ) (t : List ℕ) {b w : ℕ} → Quotient d 1 b w → b < length t → Right d t j → Right d (set t b w) j
right_kept d j t {b} {w} q room before = go (ℕ_discrete (power d j) b)
  where
    go : Dec (power d j ≡ b) → Right d (set t b w) j
    go (yes e) = rw (e, get_or-set_same t b w 0 room) q
    go (no n) = rw (get_or-set_other t b (power d j) w 0 n) before

right-written : (d j : ℕ) (t : List ℕ) {b w : ℕ} → Quotient d 1 b w → b < length t → b ≡ power d j → Right d (set t b w) j
right-written d j t {b} {w} q room e = rw (sym e, get_or-set_same t b w 0 room) q

module _ (d : ℕ) (𝓖 : Generated d) where
  inverse_unique : {b v w : ℕ} → Quotient d 1 b v → Quotient d 1 b w → v ≡ w
  inverse_unique {b} {v} {w} p q = let 𝓣 = 𝓖.tested in
      sym (one_times d 𝓣 v p.symbol) ∙ ap (λ (x : ℕ). times d x v) (sym q.undoes) ∙ times_assoc d 𝓣 w b v
      ∙ ap (times d w) (times_comm d 𝓣 b v ∙ p.undoes) ∙ times_comm d 𝓣 w 1 ∙ one_times d 𝓣 w q.symbol

  pub paired_first : Paired d 0 1 1
  unfolding power
  paired_first = let one = power_below d 𝓖 0 in
      record { raised = refl; inverse = record { symbol = one; undoes = one_times d 𝓖.tested 1 one } }

  module _ {i a b : ℕ} (p : Paired d i a b) where
    pub paired_symbol : a < 2 ^ d
    paired_symbol = rw p.raised (power_below d 𝓖 i)

    pub paired_next : Paired d (i + 1) (times_x d a) (halved d b)
    unfolding power
    paired_next = let 𝓣 = 𝓖.tested in let (small, twice) = halved_twice d 𝓖 b p.inverse.symbol in record {
      raised = rw (p.raised, add-one);
      inverse = record {
        symbol = small;
        undoes = ap (times d (halved d b)) (x_times d 𝓣 a paired_symbol) ∙ sym (times_assoc d 𝓣 (halved d b) 2 a)
            ∙ ap (λ (x : ℕ). times d x a) (times_comm d 𝓣 (halved d b) 2 ∙ sym (x_times d 𝓣 (halved d b) small) ∙ twice)
            ∙ p.inverse.undoes;
      };
    }

    pub inverted_next : (t : List ℕ) → i ≤ 2 ^ d - 1 → a < length t → b < length t
        → Inverted d i t → Inverted d (i + 1) (set (set t a b) b a)
    inverted_next t h room room' before j k = go (ℕ_discrete j i)
      where
        is_b : b ≡ power d (2 ^ d - 1 - i)
        is_b = inverse_unique p.inverse (rw p.raised (power-inverse d 𝓖 i h))

        back : Quotient d 1 b a
        back = record { symbol = paired_symbol; undoes = times_comm d 𝓖.tested a b ∙ p.inverse.undoes }

        second : b < length (set t a b)
        second = rw (length-set t a b) room'

        go : Dec (j ≡ i) → Right d (set (set t a b) b a) j × Right d (set (set t a b) b a) (2 ^ d - 1 - j)
        go (yes e) = rw e (
          right_kept d i (set t a b) back second (right-written d i t p.inverse room p.raised),
          right-written d (2 ^ d - 1 - i) (set t a b) back second is_b,
        )
        go (no n) = let (low, high) = before j (omega arith) in (
          right_kept d j (set t a b) back second (right_kept d j t p.inverse room low),
          right_kept d (2 ^ d - 1 - j) (set t a b) back second (right_kept d (2 ^ d - 1 - j) t p.inverse room high),
        )

  -- every exponent is below n, or as far from the end as one that is
  pub inverted_all : (n : ℕ) (t : List ℕ) → 2 ^ d ≤ n + n → Inverted d n t → IsTable d t
  unfolding IsTable
  inverted_all n t h all b hb nonzero = subst (λ (x : ℕ). Quotient d 1 x (get_or t x 0)) (power_exponent d 𝓖 b hb nonzero) (go (dec_lt e n))
    where
      e : ℕ
      e = exponent d b

      small : e < 2 ^ d - 1
      small = exponent_below d 𝓖 b hb nonzero

      go : Dec (e < n) → Right d t e
      go (yes k) = (all e k).0
      go (no k) = subst (Right d t) (let z : 2 ^ d - 1 - (2 ^ d - 1 - e) ≡ e = omega (arith, small) in z)
          (all (2 ^ d - 1 - e) (omega (arith, small, k))).1

  -- the inverse itself, and a product with it
  pub over_one : {b w : ℕ} → b < 2 ^ d → (b ≡ 0 → ⊥) → Quotient d 1 b w → w ≡ over d 1 b
  over_one hb n q = sym (over_unique d 𝓖 1 _ _ hb q.symbol n q.undoes)

  pub quotient_by : {a b w : ℕ} → a < 2 ^ d → b < 2 ^ d → (b ≡ 0 → ⊥) → Quotient d 1 b w → times d a w ≡ over d a b
  quotient_by {a} {b} {w} ha hb n q = let 𝓣 = 𝓖.tested in
      sym (over_unique d 𝓖 a b (times d a w) hb (times_below d 𝓣 a w) n
      (times_assoc d 𝓣 a w b ∙ ap (times d a) q.undoes ∙ times_comm d 𝓣 a 1 ∙ one_times d 𝓣 a ha))
