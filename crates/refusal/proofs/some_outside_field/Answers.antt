-- `some_outside_field` answers its test: the bits of the symbols passed and the rest of the list decide.
use Rattle.std.proofs.Common.{◌≡◌, ℕ, suc, ◌+◌, ◌^◌, ◌≤◌, ◌<◌, false, refl, sym, ◌∙◌, leb, arith, add-one, bit_or}
use Rattle.std.proofs.Common.{List, [], ◌∷◌, length, get_or, drop, drop-cons}
use mathlib.Core.Bool.{◌||◌, or-true, or-false, or_assoc}
use native.Mathlib.Nat.{lt_of_lt_of_le}
use native.Mathlib.Decide.{dec_le}
use lib.Bits.{or_lt, or_add_and, and_le_l, and_le_r}
use lib.ListN.{drop_of_length-le}
use lib.Pow.{pow_mono, pow_pos}
use borrow.Author.Tests.{le-leb, lt-leb}
use Rattle.refusal.specs.Refusal.{outside_field, some_outside_field}
use Rattle.refusal.proofs.some_outside_field.Goals as goal

outside_or : (d a b : ℕ) → outside_field d (bit_or a b) ≡ outside_field d a || outside_field d b
unfolding outside_field
outside_or d a b = go (dec_le _ _) (dec_le _ _)
  where
    go : Dec (2 ^ d ≤ a) → Dec (2 ^ d ≤ b) → leb (2 ^ d) (bit_or a b) ≡ leb (2 ^ d) a || leb (2 ^ d) b
    go (yes h) k = rw (le-leb _ a h) (le-leb (2 ^ d) (bit_or a b) (omega (arith, or_add_and a b, and_le_r a b)))
    go (no h) (yes k) = rw (le-leb _ b k, or-true) (le-leb (2 ^ d) (bit_or a b) (omega (arith, or_add_and a b, and_le_l a b)))
    go (no h) (no k) =
        let p : a < 2 ^ d = omega arith in
        let q : b < 2 ^ d = omega arith in
        simp (lt-leb _ a p, lt-leb _ b q, lt-leb _ _ (or_lt d a b p q))

bits_drop : (d b : ℕ) (l : List ℕ) (i : ℕ) → i < length l
    → outside_field d b || some_outside_field d (drop i l) ≡ outside_field d (bit_or b (get_or l i 0)) || some_outside_field d (drop (i + 1) l)
unfolding some_outside_field
bits_drop d b l i h = rw (add-one, drop-cons l i 0) (simp (outside_or, or_assoc))

none_outside : (d : ℕ) (l : List ℕ) → 8 ≤ d → ((i : ℕ) → get_or l i 0 < 2 ^ 8) → some_outside_field d l ≡ false
unfolding outside_field some_outside_field
none_outside d [] h k = refl
none_outside d (a ∷ l) h k =
    simp (lt-leb (2 ^ d) a (lt_of_lt_of_le (k 0) (pow_mono h)), none_outside d l h (λ i. k (suc i)))

pub returns-then-degree-ge8 : goal.returns-then-degree-ge8
returns-then-degree-ge8 c = sym (none_outside c.args.degree c.args.s.now c.if-degree-ge8.true (λ i. (c.type_inv.s i).fits))

pub loop-a-init : goal.loop-a-init
unfolding outside_field
loop-a-init c = rw (lt-leb (2 ^ c.args.degree) 0 (pow_pos c.args.degree))

pub loop-a-preserved : goal.loop-a-preserved
loop-a-preserved c = sym (bits_drop _ _ _ _ c.loop-a-test.true) ∙ c.loop-a.invariant

pub returns : goal.returns
unfolding some_outside_field
returns c = c.outside_field.ensures ∙ sym (or-false _) ∙ (rw (drop_of_length-le _ c.loop-a-test.false) at c.loop-a.invariant)
