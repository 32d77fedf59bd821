-- The figures of marks: how many places they have, and how a mark more changes them.
--
--   length-places, get_or_places    a list of a number for each place: how long it is, and what stands in it
--   is_places        a list that has these numbers is that list; place_most, where the number is at most b, no more stands there
--   ended_with, wrong_of    the counts of the marks by ending, and by column
--   count_most       a count is at most the length; count-drop, from a place on it is that of one entry and of the rest
--   flag_is          the flag of a test is the test as a number
--   wrong_flags_most a mark has at most as many wrong columns as flags
--   no_marks         the figures of no marks
--   Enterable n m    what the checks of entering leave of a mark for n columns
--   added-figures    a mark counted in the figures of ms gives the figures of ms and this mark
-- Assumes nothing.
use mathlib.Core.Path.{◌≡◌, refl, sym, ap, ◌∙◌}
use mathlib.Core.Bool.{Bool, true, false, cond, ◌&&◌}
use mathlib.Core.List.{List, [], ◌∷◌, map}
use Prim.Native.Nat.{ℕ, zero, suc, ◌+◌, ◌≤◌, ◌<◌, max}
use native.Mathlib.Nat.{add-zero, add-suc, suc-add, zero-add, add_comm, max_comm}
use native.Mathlib.Numerals.{add-one}
use native.Mathlib.Decide.{ℕ_discrete, dec_lt}
use native.Mathlib.Omega.{arith}
use lib.Dec.{eqb}
use lib.ListN.{length, get_or, set, drop, replicate, length-set, length-replicate, get_or-replicate, get_or-eq_default}
use lib.Seq.{ext_get_or, get_or-set_same, get_or-set_other, drop-cons}
use borrow.Author.Tests.{eq-eqb, ne_eqb}
use Rattle.std.specs.Int.{from_bool}
use Rattle.patch.specs.Patch.{patch}
use Rattle.patch.proofs.Laws.{length-patch, get_or-patch, get_or-patch_above}
use Rattle.codes.specs.Code.{total, largest, flag, up_from}
use Rattle.codes.proofs.Flags.{flag-most}
use Rattle.report.specs.Report.{Mark, count, is_corrected, wrong_flags, wrong_at, wrong_in, figures}
use Rattle.report.specs.Working.{flagged, with_flags, added}

-- ---- a number for each place

length_from : (f : ℕ → ℕ) (i n : ℕ) → length (map f (up_from i n)) ≡ n
unfolding up_from
length_from f i zero = refl
length_from f i (suc n) = ap suc (length_from f (suc i) n)

get_or_from : (f : ℕ → ℕ) (i n k : ℕ) → k < n → get_or (map f (up_from i n)) k 0 ≡ f (i + k)
unfolding up_from
get_or_from f i zero k h = absurd (omega arith)
get_or_from f i (suc n) zero h = rw add-zero
get_or_from f i (suc n) (suc k) h = get_or_from f (suc i) n k (omega arith) ∙ rw (suc-add, ← add-suc)

module _ (f : ℕ → ℕ) (n : ℕ) where
  length-places : length (map f (up_from 0 n)) ≡ n
  length-places = length_from f 0 n

  get_or_places : (k : ℕ) → k < n → get_or (map f (up_from 0 n)) k 0 ≡ f k
  get_or_places k h = get_or_from f 0 n k h ∙ ap f (zero-add k)

  is_places : (l : List ℕ) → length l ≡ n → ((k : ℕ) → k < n → get_or l k 0 ≡ f k) → l ≡ map f (up_from 0 n)
  is_places l e h = ext_get_or 0 l (map f (up_from 0 n)) (e ∙ sym length-places)
      (λ k q. let here : k < n = omega arith in h k here ∙ sym (get_or_places k here))

  pub place_most : (i b : ℕ) → f i ≤ b → get_or (map f (up_from 0 n)) i 0 ≤ b
  place_most i b h = go (dec_lt i n)
    where
      go : Dec (i < n) → get_or (map f (up_from 0 n)) i 0 ≤ b
      go (yes here) = rw (get_or_places i here) h
      go (no past) = rw (get_or-eq_default (map f (up_from 0 n)) 0 {n = i} (omega (arith, length-places))) (omega arith)

no_places : (n : ℕ) → replicate {A = ℕ} n 0 ≡ map (λ k. 0) (up_from 0 n)
no_places n = is_places (λ k. 0) n (replicate n 0) (length-replicate n 0) (λ k h. get_or-replicate n k 0 0 h)

-- ---- counts

pub count_most : {A : Type 0} (p : A → Bool) (l : List A) → count p l ≤ length l
unfolding count
count_most p [] = omega arith
count_most p (a ∷ l) = omega (arith, flag-most (p a), count_most p l)

pub count-drop : {A : Type 0} (p : A → Bool) (l : List A) (i : ℕ) (d : A) → i < length l
    → count p (drop i l) ≡ flag (p (get_or l i d)) + count p (drop (i + 1) l)
unfolding count
count-drop p l i d h = rw (add-one, drop-cons l i d h)

-- the flag of a test, as a number
pub flag_is : (b : Bool) → from_bool b ≡ flag b
flag_is true = refl
flag_is false = refl

pub wrong_flags_most : (m : Mark) → wrong_in m ≤ length m.flags
wrong_flags_most m = go (is_corrected m)
  where
    go : (b : Bool) → cond b (wrong_flags m.flags) 0 ≤ length m.flags
    go true = count_most (λ f. eqb f 1) m.flags
    go false = omega arith

-- ---- the figures of no marks, and of one mark more

abbrev pub ended_with : List Mark → ℕ → ℕ
ended_with ms k = count (λ m. eqb m.ending k) ms

abbrev pub wrong_of : List Mark → ℕ → ℕ
wrong_of ms i = count (wrong_at i) ms

pub no_marks : (n : ℕ)
    → record { columns = n; marks = 0; endings = replicate 5 0; wrong = 0; each = replicate 96 0; most = 0 } ≡ figures n []
unfolding count total largest
no_marks n = λ i. record { columns = n; marks = 0; endings = no_places 5 i; wrong = 0; each = no_places 96 i; most = 0 }

pub record Enterable (n : ℕ) (m : Mark) : Type 0 where
  pub ending : m.ending < 5
  pub flags : length m.flags ≡ n
  pub detail : is_corrected m ≡ true → wrong_flags m.flags ≡ m.detail

-- the place of the ending has one more
ending_more : (f : ℕ → ℕ) (n e : ℕ) → e < n
    → set (map f (up_from 0 n)) e (get_or (map f (up_from 0 n)) e 0 + 1) ≡ map (λ k. flag (eqb e k) + f k) (up_from 0 n)
ending_more f n e h =
    let old = map f (up_from 0 n) in
    is_places (λ k. flag (eqb e k) + f k) n (set old e (get_or old e 0 + 1)) (length-set old e _ ∙ length-places f n)
    (λ k q. go k q (ℕ_discrete e k))
  where
    go : (k : ℕ) → k < n → Dec (e ≡ k)
        → get_or (set (map f (up_from 0 n)) e (get_or (map f (up_from 0 n)) e 0 + 1)) k 0 ≡ flag (eqb e k) + f k
    go k q (yes same) =
        let fits : k < length (map f (up_from 0 n)) = omega (arith, length-places f n) in
        rw (same, eq-eqb k k refl) (get_or-set_same (map f (up_from 0 n)) k _ 0 fits
        ∙ ap (λ (x : ℕ). x + 1) (get_or_places f n k q) ∙ add_comm (f k) 1)
    go k q (no other) = rw (ne_eqb e k other, zero-add (f k))
        (get_or-set_other (map f (up_from 0 n)) e k _ 0 (λ z. other (sym z)) ∙ get_or_places f n k q)

-- the places of the flags of 1 have one more, those of a corrected mark
flags_more : (f : ℕ → ℕ) (b : Bool) (fs : List ℕ) → length fs ≤ 96
    → cond b (with_flags (map f (up_from 0 96)) fs) (map f (up_from 0 96)) ≡ map (λ i. flag (b && eqb (get_or fs i 0) 1) + f i) (up_from 0 96)
unfolding with_flags
flags_more f false fs h = is_places (λ i. 0 + f i) 96 (map f (up_from 0 96)) (length-places f 96)
    (λ k q. get_or_places f 96 k q ∙ sym (zero-add (f k)))
flags_more f true fs h =
    is_places (λ i. flag (eqb (get_or fs i 0) 1) + f i) 96 (patch 0 (length fs) new old)
    (length-patch 0 new old (length fs) ∙ length-places f 96) (λ k q. go k q (dec_lt k (length fs)))
  where
    old : List ℕ
    old = map f (up_from 0 96)

    new : ℕ → ℕ
    new = flagged old fs

    go : (k : ℕ) → k < 96 → Dec (k < length fs) → get_or (patch 0 (length fs) new old) k 0 ≡ flag (eqb (get_or fs k 0) 1) + f k
    go k q (yes here) =
        ap (λ (j : ℕ). get_or (patch 0 (length fs) new old) j 0) (sym (zero-add k))
        ∙ get_or-patch 0 new old (length fs) k 0 here (omega (arith, length-places f 96))
        ∙ add_comm (get_or old k 0) _ ∙ ap (λ (x : ℕ). flag (eqb (get_or fs k 0) 1) + x) (get_or_places f 96 k q)
    go k q (no there) =
        get_or-patch_above 0 new old (length fs) k 0 (omega arith) ∙ get_or_places f 96 k q
        ∙ rw (get_or-eq_default fs 0 {n = k} (omega arith)) (sym (zero-add (f k)))

-- what a corrected mark has of wrong columns is its detail
told : (b : Bool) (w d : ℕ) → (b ≡ true → w ≡ d) → cond b d 0 ≡ cond b w 0
told true w d h = sym (h refl)
told false w d h = refl

pub added-figures : (n : ℕ) (ms : List Mark) (m : Mark) → n ≤ 96 → Enterable n m → added (figures n ms) m ≡ figures n (m ∷ ms)
unfolding count total largest
added-figures n ms m few p =
    let own = told (is_corrected m) (wrong_flags m.flags) m.detail p.detail in
    let sum = total (map wrong_in ms) in
    let marks = add-one (length ms) in
    let endings = ending_more (ended_with ms) 5 m.ending p.ending in
    let wrong = ap (λ (w : ℕ). sum + w) own ∙ add_comm sum (wrong_in m) in
    let each = flags_more (wrong_of ms) (is_corrected m) m.flags (omega (arith, p.flags)) in
    let most = ap (max (largest (map wrong_in ms))) own ∙ max_comm (largest (map wrong_in ms)) (wrong_in m) in
    λ i. record { columns = n; marks = marks i; endings = endings i; wrong = wrong i; each = each i; most = most i }
