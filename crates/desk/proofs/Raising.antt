-- The loops over the coefficients that a desk keeps: what a turn adds to a row, and the count of the rows that are not zero.
--
--   none_raised, row_raised    no row is raised, and one row more
--   nonzero_exactly            a list has no nonzero symbol exactly when all are zero; flag_none, flag_some, its flag
--   row_part                   a row as the code cuts it out
--   Counts g r count l    the loop that counts, of r rows, those at which g holds: it is at the row l
--   counts_begin, counts-again, counts_end    its turns
-- Assumes nothing.
use mathlib.Core.Path.{◌≡◌, refl, sym, ap, ◌∙◌}
use mathlib.Core.Logic.Iff
use mathlib.Core.Logic.{◌↔◌}
use mathlib.Core.Bool.{Bool, true, false, true≢false}
use mathlib.Core.List.{List}
use Prim.Native.Nat.{ℕ, suc, ◌+◌, ◌-◌, ◌*◌, ◌≤◌, ◌<◌}
use native.Mathlib.Nat.{suc-mul, add-zero, zero-add, add_assoc}
use native.Mathlib.Numerals.{add-one}
use native.Mathlib.Decide.{dec_lt}
use native.Mathlib.Omega.{arith}
use lib.ListN.{length, get_or, take, drop, length-drop}
use lib.Seq.{get_or-drop}
use Rattle.patch.specs.Parts.{part}
use Rattle.patch.proofs.Laws.{length-patch, get_or-patch, get_or-patch_below, get_or-patch_above}
use Rattle.refusal.specs.Refusal.{some_outside}
use Rattle.field.specs.Symbols.{plus, times}
use Rattle.lists.specs.Working.Lists.{added, added_at}
use Rattle.poly.specs.Poly.{All}
use Rattle.codes.specs.Code.{total, flag, flags_from}
use Rattle.codes.proofs.Flags.{flag-most}
use Rattle.codes.proofs.Parts.{all_map}
use Rattle.codes.proofs.Proper.{lengths_test}
use Rattle.desk.specs.Working.{Raised}
use Rattle.desk.proofs.Columns.{row_end}

module _ {d : ℕ} {ks b : List ℕ} {δ : ℕ → ℕ} where
  pub none_raised : (u : List ℕ) → Raised d ks b δ 0 u u
  none_raised u = record {
    size = refl;
    low = λ l j h. absurd (let z : l < 0 = h in omega arith);
    high = λ l j h. absurd (let z : l < 0 = h in omega arith);
    rest = λ p h. refl;
  }

  -- one row more: the row l takes c times the coefficients of b from its length on
  module _ {l : ℕ} {u u' u'' : List ℕ} (before : Raised d ks b δ l u u') (k at : ℕ) (w : List ℕ) (own : k ≡ get_or ks l 0)
      (most : k ≤ length b) (place : at ≡ l * length b + k) (is-w : w ≡ drop k b) (room : l * length b + length b ≤ length u)
      (is : u'' ≡ added_at d (δ l) w u' at) where
    reach : at + length w ≡ l * length b + length b
    reach = rw is-w (omega (arith, length-drop k b))

    fits : at + length w ≤ length u'
    fits = omega (arith, reach, before.size)

    below : (p : ℕ) → p < at → get_or u'' p 0 ≡ get_or u' p 0
    below p h = rw is (get_or-patch_below at (added d (δ l) w u' at) u' (length w) p 0 h)

    above : (p : ℕ) → l * length b + length b ≤ p → get_or u'' p 0 ≡ get_or u' p 0
    above p h = rw is (get_or-patch_above at (added d (δ l) w u' at) u' (length w) p 0 (omega (arith, reach)))

    inside : (j : ℕ) → k ≤ j → j < length b
        → get_or u'' (l * length b + j) 0 ≡ plus (get_or u' (l * length b + j) 0) (times d (get_or b j 0) (δ l))
    unfolding added
    inside j h g =
        let there : at + (j - k) ≡ l * length b + j = omega arith in
        let same : k + (j - k) ≡ j = omega arith in
        let of_b : get_or w (j - k) 0 ≡ get_or b j 0 = rw is-w (get_or-drop k b (j - k) 0 ∙ ap (λ (i : ℕ). get_or b i 0) same) in
        rw (← there, is) (get_or-patch at (added d (δ l) w u' at) u' (length w) (j - k) 0 (omega (arith, reach)) fits
        ∙ ap (λ (x : ℕ). plus (get_or u' (at + (j - k)) 0) (times d x (δ l))) of_b)

    pub row_raised : Raised d ks b δ (l + 1) u u''
    row_raised = record {
      size = rw is (length-patch at (added d (δ l) w u' at) u' (length w)) ∙ before.size;
      low = λ m j h g i. lows m j g i (dec_lt m l) (omega arith);
      high = λ m j h g i. highs m j g i (dec_lt m l) (omega arith);
      rest = λ p h. above p (omega (arith, suc-mul l (length b))) ∙ before.rest p (omega (arith, suc-mul l (length b)));
    }
      where
        lows : (m j : ℕ) → j < get_or ks m 0 → j < length b → Dec (m < l) → m ≤ l
            → get_or u'' (m * length b + j) 0 ≡ get_or u (m * length b + j) 0
        lows m j g i (yes h) q = below _ (omega (arith, row_end l (length b) m h)) ∙ before.low m j h g i
        lows m j g i (no h) q =
            let e : m ≡ l = omega arith in
            let same : m * length b ≡ l * length b = ap (λ (x : ℕ). x * length b) e in
            below _ (omega (arith, ap (λ (x : ℕ). get_or ks x 0) e)) ∙ before.rest _ (omega arith)

        highs : (m j : ℕ) → get_or ks m 0 ≤ j → j < length b → Dec (m < l) → m ≤ l
            → get_or u'' (m * length b + j) 0 ≡ plus (get_or u (m * length b + j) 0) (times d (get_or b j 0) (δ m))
        highs m j g i (yes h) q = below _ (omega (arith, row_end l (length b) m h)) ∙ before.high m j h g i
        highs m j g i (no h) q =
            let e : m ≡ l = omega arith in
            rw e (inside j (omega (arith, ap (λ (x : ℕ). get_or ks x 0) e)) i
            ∙ ap (λ (x : ℕ). plus x (times d (get_or b j 0) (δ l))) (before.rest _ (omega arith)))

pub nonzero_exactly : (t : List ℕ) → (some_outside 0 0 t ≡ false) ↔ All (λ (a : ℕ). a ≡ 0) t
nonzero_exactly t = Iff.trans (lengths_test 0 0 t) (
  all_map (λ (a : ℕ). (0 ≤ a) × (a ≤ 0)) (λ (a : ℕ). a ≡ 0) t (λ a h. omega (arith, h)),
  all_map (λ (a : ℕ). a ≡ 0) (λ (a : ℕ). (0 ≤ a) × (a ≤ 0)) t (λ a h. (omega arith, omega arith)),
)

-- a row as the code cuts it out
pub row_part : (n l : ℕ) (t : List ℕ) → take (l * n + n - l * n) (drop (l * n) t) ≡ part (l * n) n t
unfolding part
row_part n l t = let size : l * n + n - l * n ≡ n = omega arith in rw size

-- the flag of a list, from whether it was found to be all zero
pub flag_none : (t : List ℕ) {z : Bool} → (z ≡ true) ↔ All (λ (a : ℕ). a ≡ 0) t → z ≡ true → flag (some_outside 0 0 t) ≡ 0
flag_none t test e = ap flag ((nonzero_exactly t).1 (test.0 e))

pub flag_some : (t : List ℕ) {z : Bool} → (z ≡ true) ↔ All (λ (a : ℕ). a ≡ 0) t → z ≡ false → flag (some_outside 0 0 t) ≡ 1
flag_some t {z} test e = by (some_outside 0 0 t) refl
  where
    by : (b : Bool) → b ≡ some_outside 0 0 t → flag b ≡ 1
    by true is = refl
    by false is = absurd (true≢false (sym (test.1 ((nonzero_exactly t).0 (sym is))) ∙ e))

-- what is left to count completes the count
pub record Counts (g : ℕ → Bool) (r count l : ℕ) : Type 0 where
  pub few : count ≤ l
  pub so_far_lem : count + total (flags_from g l (r - l)) ≡ total (flags_from g 0 r)

pub counts_begin : (g : ℕ → Bool) (r : ℕ) → Counts g r 0 0
counts_begin g r = let all : r - 0 ≡ r = omega arith in record { few = omega arith; so_far_lem = rw all (zero-add _) }

module _ {g : ℕ → Bool} {r count l : ℕ} (c : Counts g r count l) where
  pub counts-again : {more : ℕ} → l < r → more ≡ count + flag (g l) → Counts g r more (l + 1)
  unfolding total flags_from
  counts-again {more} h e = let left : r - l ≡ suc (r - (l + 1)) = omega arith in record {
    few = omega (arith, flag-most (g l), c.few);
    so_far_lem = rw (e, add_assoc, add-one) (rw (left, add-one) at c.so_far_lem);
  }

  pub counts_end : r ≤ l → count ≡ total (flags_from g 0 r)
  unfolding total flags_from
  counts_end h = let none : r - l ≡ 0 = omega arith in sym (add-zero count) ∙ rw none at c.so_far_lem
