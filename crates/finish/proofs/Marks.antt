-- Marks of columns: the flags of those that are zero, and the entries of a row at their columns.
--
--   zeros-count       as many flags as marks
--   zeros_flags       the marks being values at points, their flags are those of the test of columns
--   right-count       the entries at columns whose mark is zero are as many as the flags add up to
--   right_others      and the others are those at columns whose flag is zero
--   distinct-take     the first of distinct entries are distinct
--   right-most        they are no more than the columns; put_count, a merged row is as long as the row
--   put_at, put_other, put-zeros    what stands in a merged row, and its zeros
--   zeros_twice, zeros_at, zeros-flagged    the flags of the flags: of the marks that are not zero
--   zeros_none, flagged             no column is left, a turn, of the loop that flags
--   right_none, gathered_in, -out   the same of the loop that gathers, at a column whose mark is zero, is not
--   put_none, merged_in, -out       the same of the loop that merges
-- Assumes nothing.
use mathlib.Core.Path.{◌≡◌, refl, sym, ap, ap₂, ◌∙◌}
use mathlib.Core.Logic.{inl, inr}
use mathlib.Core.Bool.{Bool, true, false}
use mathlib.Core.List.{List, [], ◌∷◌, map}
use Prim.Native.Nat.{ℕ, zero, suc, ◌+◌, ◌-◌, ◌≤◌, ◌<◌}
use native.Mathlib.Nat.{add-zero, add-suc, suc-add, zero-add}
use native.Mathlib.Omega.{arith}
use lib.Dec.{eqb}
use lib.ListN.{length, get_or, set, take, drop, replicate, length-map, length-drop, drop_of_length-le}
use borrow.Author.Tests.{ne_eqb}
use Rattle.patch.specs.Parts.{lay}
use Rattle.patch.proofs.Parts.{lay_cons}
use Rattle.poly.proofs.Roots.{Mem, Distinct}
use Rattle.codes.specs.Code.{total, flag, flags_from}
use Rattle.codes.specs.Lost.{right}
use Rattle.codes.proofs.Right.{rank}
use Rattle.finish.specs.Working.{flag_of, zeros_in, put}
use Rattle.conditions.proofs.Places.{next}

pub zeros-count : (ms : List ℕ) → length (zeros_in ms) ≡ length ms
unfolding zeros_in
zeros-count ms = length-map ms flag_of

flag_of_lem : (m : ℕ) → flag (eqb m 0) ≡ flag_of m
flag_of_lem zero = refl
flag_of_lem (suc m) = ap flag (ne_eqb (suc m) 0 (λ e. omega arith))

flags_from_lem : (f : ℕ → Bool) (v : ℕ → ℕ) (a : ℕ) (xs : List ℕ) → ((i : ℕ) → i < length xs → f (a + i) ≡ eqb (v (get_or xs i 0)) 0)
    → zeros_in (map v xs) ≡ flags_from f a (length xs)
unfolding zeros_in flags_from
flags_from_lem f v a [] h = refl
flags_from_lem f v a (x ∷ xs) h = ap₂ ◌∷◌
    (sym (ap flag (ap f (sym (add-zero a)) ∙ h 0 (omega arith)) ∙ flag_of_lem (v x)))
    (flags_from_lem f v (suc a) xs (λ i q. ap f (suc-add a i ∙ sym (add-suc a i)) ∙ h (suc i) (omega arith)))

pub zeros_flags : (f : ℕ → Bool) (v : ℕ → ℕ) (xs : List ℕ) → ((i : ℕ) → i < length xs → f i ≡ eqb (v (get_or xs i 0)) 0)
    → zeros_in (map v xs) ≡ flags_from f 0 (length xs)
zeros_flags f v xs h = flags_from_lem f v 0 xs (λ i q. ap f (zero-add i) ∙ h i q)

module _ {K : Type 0} where
  pub right-count : (ms : List ℕ) (l : List K) → length l ≡ length ms → length (right ms l) ≡ total (zeros_in ms)
  unfolding right total zeros_in
  right-count [] l e = refl
  right-count (m ∷ ms) [] e = absurd (omega arith)
  right-count (zero ∷ ms) (a ∷ l) e = omega (arith, right-count ms l (omega arith))
  right-count (suc m ∷ ms) (a ∷ l) e = omega (arith, right-count ms l (omega arith))

  pub right_others : (ms : List ℕ) (l : List K) → length l ≡ length ms → length (right (zeros_in ms) l) + total (zeros_in ms) ≡ length l
  unfolding right total zeros_in
  right_others [] [] e = refl
  right_others [] (a ∷ l) e = absurd (omega arith)
  right_others (m ∷ ms) [] e = absurd (omega arith)
  right_others (zero ∷ ms) (a ∷ l) e = omega (arith, right_others ms l (omega arith))
  right_others (suc m ∷ ms) (a ∷ l) e = omega (arith, right_others ms l (omega arith))

  pub right-most : (ms : List ℕ) (l : List K) → length (right ms l) ≤ length ms
  unfolding right
  right-most [] l = omega arith
  right-most (m ∷ ms) [] = omega arith
  right-most (zero ∷ ms) (a ∷ l) = omega (arith, right-most ms l)
  right-most (suc m ∷ ms) (a ∷ l) = omega (arith, right-most ms l)

  mem_take : (n : ℕ) (l : List K) (a : K) → Mem a (take n l) → Mem a l
  mem_take zero l a x' = elim x' [ ]
  mem_take (suc n) [] a x3 = elim x3 [ ]
  mem_take (suc n) (b ∷ l) a (inl e) = inl e
  mem_take (suc n) (b ∷ l) a (inr h) = inr (mem_take n l a h)

  pub distinct-take : (n : ℕ) (l : List K) → Distinct l → Distinct (take n l)
  distinct-take zero l d = tt
  distinct-take (suc n) [] d = tt
  distinct-take (suc n) (a ∷ l) d = (λ h. d.0 (mem_take n l a h), distinct-take n l d.1)

pub put_count : (ms vs l : List ℕ) → length (put ms vs l) ≡ length l
unfolding put
put_count [] vs l = refl
put_count (m ∷ ms) vs [] = refl
put_count (zero ∷ ms) [] (a ∷ l) = refl
put_count (zero ∷ ms) (v ∷ vs) (a ∷ l) = ap suc (put_count ms vs l)
put_count (suc m ∷ ms) vs (a ∷ l) = ap suc (put_count ms vs l)

-- what a merged row has at a column: where the mark is zero the next of vs, which the rank counts, and else its own entry
pub put_at : (ms vs l : List ℕ) (i : ℕ) → length l ≡ length ms → i < length ms → total (zeros_in ms) ≤ length vs → get_or ms i 0 ≡ 0
    → get_or (put ms vs l) i 0 ≡ get_or vs (rank ms i) 0
unfolding put rank zeros_in total
put_at [] vs l i e q r z = absurd (omega arith)
put_at (m ∷ ms) vs [] i e q r z = absurd (omega arith)
put_at (zero ∷ ms) [] (a ∷ l) i e q r z = absurd (omega arith)
put_at (zero ∷ ms) (v ∷ vs) (a ∷ l) zero e q r z = refl
put_at (zero ∷ ms) (v ∷ vs) (a ∷ l) (suc i) e q r z = put_at ms vs l i (omega arith) (omega arith) (omega arith) z
put_at (suc m ∷ ms) vs (a ∷ l) zero e q r z = absurd (omega arith)
put_at (suc m ∷ ms) vs (a ∷ l) (suc i) e q r z = put_at ms vs l i (omega arith) (omega arith) (omega arith) z

pub put_other : (ms vs l : List ℕ) (i : ℕ) → length l ≡ length ms → i < length ms → total (zeros_in ms) ≤ length vs → ¬ (get_or ms i 0 ≡ 0)
    → get_or (put ms vs l) i 0 ≡ get_or l i 0
unfolding put zeros_in total
put_other [] vs l i e q r z = absurd (omega arith)
put_other (m ∷ ms) vs [] i e q r z = absurd (omega arith)
put_other (zero ∷ ms) [] (a ∷ l) i e q r z = absurd (omega arith)
put_other (zero ∷ ms) (v ∷ vs) (a ∷ l) zero e q r z = absurd (z refl)
put_other (zero ∷ ms) (v ∷ vs) (a ∷ l) (suc i) e q r z = put_other ms vs l i (omega arith) (omega arith) (omega arith) z
put_other (suc m ∷ ms) vs (a ∷ l) zero e q r z = refl
put_other (suc m ∷ ms) vs (a ∷ l) (suc i) e q r z = put_other ms vs l i (omega arith) (omega arith) (omega arith) z

-- the zeros of a row merged with numbers that are not zero are those of vs
pub put-zeros : (b : ℕ) (ms vs : List ℕ) → length vs ≡ total (zeros_in ms)
    → total (zeros_in (put ms vs (replicate (length ms) (suc b)))) ≡ total (zeros_in vs)
unfolding put zeros_in total
put-zeros b [] [] e = refl
put-zeros b [] (v ∷ vs) e = absurd (omega arith)
put-zeros b (zero ∷ ms) [] e = absurd (omega arith)
put-zeros b (zero ∷ ms) (v ∷ vs) e = ap (◌+◌ (flag_of v)) (put-zeros b ms vs (omega arith))
put-zeros b (suc m ∷ ms) vs e = omega (arith, put-zeros b ms vs (omega arith))

pub zeros_twice : (ms : List ℕ) → total (zeros_in ms) + total (zeros_in (zeros_in ms)) ≡ length ms
unfolding zeros_in total
zeros_twice [] = refl
zeros_twice (zero ∷ ms) = omega (arith, zeros_twice ms)
zeros_twice (suc m ∷ ms) = omega (arith, zeros_twice ms)

pub zeros_at : (ms : List ℕ) (i : ℕ) → i < length ms → get_or (zeros_in (zeros_in ms)) i 0 ≡ 0 → get_or ms i 0 ≡ 0
unfolding zeros_in
zeros_at [] i q e = refl
zeros_at (zero ∷ ms) zero q e = refl
zeros_at (suc m ∷ ms) zero q e = absurd (omega arith)
zeros_at (m ∷ ms) (suc i) q e = zeros_at ms i (omega arith) e

pub zeros-flagged : (f : ℕ → Bool) (i n : ℕ) → zeros_in (zeros_in (flags_from f i n)) ≡ flags_from f i n
unfolding zeros_in flags_from
zeros-flagged f i zero = refl
zeros-flagged f i (suc n) = ap₂ ◌∷◌ (twice (f i)) (zeros-flagged f (suc i) n)
  where
    twice : (b : Bool) → flag_of (flag_of (flag b)) ≡ flag b
    twice true = refl
    twice false = refl

-- turns of the loops, at column i

module _ (ms : List ℕ) (i : ℕ) where
  pub zeros_none : length ms ≤ i → zeros_in (drop i ms) ≡ []
  unfolding zeros_in
  zeros_none h = rw (drop_of_length-le ms h)

  zeros_more : i < length ms → zeros_in (drop i ms) ≡ flag_of (get_or ms i 0) ∷ zeros_in (drop (i + 1) ms)
  unfolding zeros_in
  zeros_more h = rw (next ms i h)

  pub zero_left : i < length ms → get_or ms i 0 ≡ 0 → 0 < total (zeros_in (drop i ms))
  unfolding total
  zero_left h e = let one = ap total (rw e at (zeros_more h)) in omega arith

  pub record Flagged (f : ℕ) (s : List ℕ) : Type 0 where
    pub small : f ≤ 1
    pub counted : total (zeros_in (drop i ms)) ≡ f + total (zeros_in (drop (i + 1) ms))
    pub laid : lay (i + 1) (zeros_in (drop (i + 1) ms)) (set s i f) ≡ lay i (zeros_in (drop i ms)) s

  flag_small : (m : ℕ) → flag_of m ≤ 1
  flag_small zero = omega arith
  flag_small (suc m) = omega arith

  pub flagged : i < length ms → (s : List ℕ) {f : ℕ} → f ≡ flag_of (get_or ms i 0) → length ms ≤ length s → Flagged f s
  unfolding total
  flagged h s {f} e fits =
      let more : zeros_in (drop i ms) ≡ f ∷ zeros_in (drop (i + 1) ms) = rw e (zeros_more h) in
      let size : length (zeros_in (drop (i + 1) ms)) ≡ length ms - (i + 1) = zeros-count (drop (i + 1) ms) ∙ length-drop (i + 1) ms in
      record {
        small = rw e (flag_small (get_or ms i 0));
        counted = ap total more;
        laid = rw more (lay_cons i f (zeros_in (drop (i + 1) ms)) s (omega arith));
      }

module _ (ms l : List ℕ) (i : ℕ) where
  pub right_none : length ms ≤ i → right (drop i ms) (drop i l) ≡ []
  unfolding right
  right_none h = rw (drop_of_length-le ms h)

  -- s and j become s' and j'
  pub record Gathered (s : List ℕ) (j : ℕ) (s' : List ℕ) (j' : ℕ) : Type 0 where
    pub small : j' ≤ j + 1
    pub counted : j' + length (right (drop (i + 1) ms) (drop (i + 1) l)) ≡ j + length (right (drop i ms) (drop i l))
    pub laid : lay j' (right (drop (i + 1) ms) (drop (i + 1) l)) s' ≡ lay j (right (drop i ms) (drop i l)) s

  module _ (h : i < length ms) (same : length l ≡ length ms) (s : List ℕ) (j : ℕ)
      (fits : j + length (right (drop i ms) (drop i l)) ≤ length s) where
    right_in : get_or ms i 0 ≡ 0 → right (drop i ms) (drop i l) ≡ get_or l i 0 ∷ right (drop (i + 1) ms) (drop (i + 1) l)
    unfolding right
    right_in e = rw (next ms i h, next l i (omega arith), e)

    pub gathered_in : get_or ms i 0 ≡ 0 → {s' : List ℕ} {j' : ℕ} → s' ≡ set s j (get_or l i 0) → j' ≡ j + 1 → Gathered s j s' j'
    gathered_in e es ej =
        let more = right_in e in
        let size = ap length more in
        record {
          small = omega arith;
          counted = omega arith;
          laid = rw (es, ej, more) (lay_cons j (get_or l i 0) (right (drop (i + 1) ms) (drop (i + 1) l)) s (omega arith));
        }

    right_by : (m : ℕ) → (m ≡ 0 → ⊥) → (ns k : List ℕ) (a : ℕ) → right (m ∷ ns) (a ∷ k) ≡ right ns k
    unfolding right
    right_by zero z ns k a = absurd (z refl)
    right_by (suc m) z ns k a = refl

    right_out : (get_or ms i 0 ≡ 0 → ⊥) → right (drop i ms) (drop i l) ≡ right (drop (i + 1) ms) (drop (i + 1) l)
    right_out z = rw (next ms i h, next l i (omega arith))
        (right_by (get_or ms i 0) z (drop (i + 1) ms) (drop (i + 1) l) (get_or l i 0))

    pub gathered_out : (get_or ms i 0 ≡ 0 → ⊥) → {s' : List ℕ} {j' : ℕ} → s' ≡ s → j' ≡ j → Gathered s j s' j'
    gathered_out z es ej =
        let more = right_out z in
        let size = ap length more in
        record { small = omega arith; counted = omega arith; laid = rw (es, ej, more) }

module _ (ms vs l : List ℕ) (i : ℕ) (same : length l ≡ length ms) where
  pub put_none : (j : ℕ) → length ms ≤ i → put (drop i ms) (drop j vs) (drop i l) ≡ []
  unfolding put
  put_none j h = let g : length l ≤ i = omega arith in rw (drop_of_length-le ms h, drop_of_length-le l g)

  -- s and j become s' and j', the row being stored from at on
  pub record Merged (at : ℕ) (s : List ℕ) (j : ℕ) (s' : List ℕ) (j' : ℕ) : Type 0 where
    pub counted : j' + total (zeros_in (drop (i + 1) ms)) ≡ j + total (zeros_in (drop i ms))
    pub laid : lay (at + (i + 1)) (put (drop (i + 1) ms) (drop j' vs) (drop (i + 1) l)) s'
        ≡ lay (at + i) (put (drop i ms) (drop j vs) (drop i l)) s

  module _ (h : i < length ms) (at : ℕ) (s : List ℕ) (fits : at + length ms ≤ length s) (j : ℕ) where
    -- the entry a, and what the rest gives
    merged_by : (a j' : ℕ) {s' : List ℕ}
        → put (drop i ms) (drop j vs) (drop i l) ≡ a ∷ put (drop (i + 1) ms) (drop j' vs) (drop (i + 1) l) → s' ≡ set s (at + i) a
        → lay (at + (i + 1)) (put (drop (i + 1) ms) (drop j' vs) (drop (i + 1) l)) s'
        ≡ lay (at + i) (put (drop i ms) (drop j vs) (drop i l)) s
    merged_by a j' more es =
        let rest : List ℕ = put (drop (i + 1) ms) (drop j' vs) (drop (i + 1) l) in
        let size : length rest ≡ length l - (i + 1) = put_count (drop (i + 1) ms) (drop j' vs) (drop (i + 1) l) ∙ length-drop (i + 1) l in
        let place : at + (i + 1) ≡ at + i + 1 = omega arith in
        rw (es, more, place) (lay_cons (at + i) a rest s (omega arith))

    put_in : get_or ms i 0 ≡ 0 → j < length vs
        → put (drop i ms) (drop j vs) (drop i l) ≡ get_or vs j 0 ∷ put (drop (i + 1) ms) (drop (j + 1) vs) (drop (i + 1) l)
    unfolding put
    put_in e k = rw (next ms i h, next vs j k, next l i (omega arith), e)

    pub merged_in : get_or ms i 0 ≡ 0 → j < length vs → {s' : List ℕ} {j' : ℕ} → s' ≡ set s (at + i) (get_or vs j 0) → j' ≡ j + 1
        → Merged at s j s' j'
    unfolding total
    merged_in e k es ej =
        let one : zeros_in (drop i ms) ≡ 1 ∷ zeros_in (drop (i + 1) ms) = rw e at (zeros_more ms i h) in
        let count = ap total one in
        record {
          counted = omega arith;
          laid = rw ej (merged_by (get_or vs j 0) (j + 1) (put_in e k) es);
        }

    put_by : (m : ℕ) → (m ≡ 0 → ⊥) → (ns ws k : List ℕ) (a : ℕ) → put (m ∷ ns) ws (a ∷ k) ≡ a ∷ put ns ws k
    unfolding put
    put_by zero z ns ws k a = absurd (z refl)
    put_by (suc m) z ns ws k a = refl

    put_out : (get_or ms i 0 ≡ 0 → ⊥)
        → put (drop i ms) (drop j vs) (drop i l) ≡ get_or l i 0 ∷ put (drop (i + 1) ms) (drop j vs) (drop (i + 1) l)
    put_out z = rw (next ms i h, next l i (omega arith))
        (put_by (get_or ms i 0) z (drop (i + 1) ms) (drop j vs) (drop (i + 1) l) (get_or l i 0))

    not_flagged : (m : ℕ) → (m ≡ 0 → ⊥) → flag_of m ≡ 0
    not_flagged zero z = absurd (z refl)
    not_flagged (suc m) z = refl

    pub merged_out : (get_or ms i 0 ≡ 0 → ⊥) → {s' : List ℕ} {j' : ℕ} → s' ≡ set s (at + i) (get_or l i 0) → j' ≡ j
        → Merged at s j s' j'
    unfolding total
    merged_out z es ej =
        let none : zeros_in (drop i ms) ≡ 0 ∷ zeros_in (drop (i + 1) ms) = rw (not_flagged (get_or ms i 0) z) at (zeros_more ms i h) in
        let count = ap total none in
        record {
          counted = omega arith;
          laid = rw ej (merged_by (get_or l i 0) j (put_out z) es);
        }
