-- A list has a repeat where an entry stood earlier.
--
--   stands        an entry of a list is in it
--   stands_not    what differs from every entry is not
--   repeats       a list with two equal entries has a repeat
--   repeats_not   a list whose entries differ from all the earlier ones has none
--   Fresh l i j   entry i is none of the first j; Looked l i j same, whether it is one of them
--   looked_none   before the first is looked at; looked_more, one more; looked_stood, where it is one of them there is a repeat
-- Assumes nothing.
use mathlib.Core.Path.{◌≡◌, refl}
use mathlib.Core.Bool.{Bool, true, false, ◌||◌, or-true}
use mathlib.Core.List.{List, [], ◌∷◌}
use Prim.Native.Nat.{ℕ, zero, suc, ◌+◌, ◌≤◌, ◌<◌}
use native.Mathlib.Decide.{ℕ_discrete, dec_lt}
use native.Mathlib.Omega.{arith}
use lib.ListN.{length, get_or}
use lib.Dec.{eqb}
use borrow.Author.Tests.{eq-eqb, ne_eqb}
use Rattle.refusal.specs.Refusal.{is_in, repeated}

pub stands : (l : List ℕ) (i : ℕ) → i < length l → is_in (get_or l i 0) l ≡ true
unfolding is_in
stands [] i h = absurd (omega arith)
stands (a ∷ l) zero h = simp (eq-eqb a a refl)
stands (a ∷ l) (suc i) h = simp (stands l i (omega arith), or-true)

pub stands_not : (x : ℕ) (l : List ℕ) → ((i : ℕ) → i < length l → x ≡ get_or l i 0 → ⊥) → is_in x l ≡ false
unfolding is_in
stands_not x [] h = refl
stands_not x (a ∷ l) h = simp (ne_eqb x a (h 0 (omega arith)), stands_not x l (λ i b. h (suc i) (omega arith)))

pub repeats : (l : List ℕ) (j i : ℕ) → j < i → i < length l → get_or l j 0 ≡ get_or l i 0 → repeated l ≡ true
unfolding repeated
repeats [] j i o h e = absurd (omega arith)
repeats (a ∷ l) j zero o h e = absurd (omega arith)
repeats (a ∷ l) zero (suc i) o h e = simp (e, stands l i (omega arith))
repeats (a ∷ l) (suc j) (suc i) o h e = simp (repeats l j i (omega arith) (omega arith) e, or-true)

pub repeats_not : (l : List ℕ) → ((i : ℕ) → i < length l → (j : ℕ) → j < i → get_or l j 0 ≡ get_or l i 0 → ⊥) → repeated l ≡ false
unfolding repeated
repeats_not [] h = refl
repeats_not (a ∷ l) h =
    simp (
      stands_not a l (λ i b. h (suc i) (omega arith) 0 (omega arith)),
      repeats_not l (λ i b j o. h (suc i) (omega arith) (suc j) (omega arith)),
    )

abbrev pub Fresh : List ℕ → ℕ → ℕ → Type 0
Fresh l i j = (k : ℕ) → k < j → get_or l k 0 ≡ get_or l i 0 → ⊥

pub data Looked (l : List ℕ) (i j : ℕ) : Bool → Type 0 where
  stood : (k : ℕ) → k < j → get_or l k 0 ≡ get_or l i 0 → Looked l i j true
  fresh : Fresh l i j → Looked l i j false

pub looked_none : (l : List ℕ) (i : ℕ) → Looked l i 0 false
looked_none l i = fresh (λ k h. absurd (omega arith))

pub looked_more : {l : List ℕ} {i j : ℕ} {same : Bool} → Looked l i j same
    → Looked l i (j + 1) (same || eqb (get_or l j 0) (get_or l i 0))
looked_more (stood k h e) = stood k (omega arith) e
looked_more {l} {i} {j} (fresh none) = go (ℕ_discrete (get_or l j 0) (get_or l i 0))
  where
    go : Dec (get_or l j 0 ≡ get_or l i 0) → Looked l i (j + 1) (eqb (get_or l j 0) (get_or l i 0))
    go (yes e) = rw (eq-eqb _ _ e) (stood j (omega arith) e)
    go (no n) = rw (ne_eqb _ _ n) (fresh (λ k h e. by k h e (dec_lt k j)))
      where
        by : (k : ℕ) → k < j + 1 → get_or l k 0 ≡ get_or l i 0 → Dec (k < j) → ⊥
        by k h e (yes early) = none k early e
        by k h e (no late) = let last : k ≡ j = omega arith in n (rw last at e)

pub looked_stood : (l : List ℕ) (i j : ℕ) → j ≤ i → i < length l → Looked l i j true → repeated l ≡ true
looked_stood l i j o h (stood k b e) = repeats l k i (omega arith) h e
