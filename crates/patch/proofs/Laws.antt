-- The laws of `patch`.
--
--   patch_none, patch_more    no place; one place more
--   length-patch              the length stays
--   get_or-patch, get_or-patch_below, get_or-patch_above    what stands at a place of the part, before it, behind it
--   patch_cong                only the values that are written count
--   patch-append              a part, and the part behind it
--   patch-kept                a part behind which what stands there is written again
--   patch_step                a loop's turn: one value stored behind the part
--   patch_front               such a turn where the part is the list's front
--   get_or-patch_front                  what stands in such a part
--   here                      what a loop reads at the place that it is to write
-- Assumes nothing.
use mathlib.Core.Path.{◌≡◌, refl, sym, ap, ap₂, ◌∙◌}
use mathlib.Core.List.{List}
use Prim.Native.Nat.{ℕ, zero, suc, ◌+◌, ◌≤◌, ◌<◌}
use native.Mathlib.Nat.{le_refl, zero-add, add-zero, add-suc, add_assoc}
use native.Mathlib.Numerals.{add-one}
use native.Mathlib.Decide.{ℕ_discrete}
use native.Mathlib.Omega.{arith}
use lib.ListN.{length, get_or, set, take, length-set}
use lib.Seq.{get_or-set_same, get_or-set_other, get_or-take, set-get_or}
use Rattle.patch.specs.Patch.{patch}

module _ {A : Type 0} (at : ℕ) (f : ℕ → A) (l : List A) where
  pub patch_none : patch at 0 f l ≡ l
  unfolding patch
  patch_none = refl

  pub patch_more : (n : ℕ) → patch at (n + 1) f l ≡ set (patch at n f l) (at + n) (f n)
  unfolding patch
  patch_more n = rw add-one

  pub length-patch : (n : ℕ) → length (patch at n f l) ≡ length l
  unfolding patch
  length-patch zero = refl
  length-patch (suc n) = length-set (patch at n f l) (at + n) (f n) ∙ length-patch n

  pub get_or-patch_below : (n i : ℕ) (d : A) → i < at → get_or (patch at n f l) i d ≡ get_or l i d
  unfolding patch
  get_or-patch_below zero i d h = refl
  get_or-patch_below (suc n) i d h = get_or-set_other (patch at n f l) (at + n) i (f n) d (omega arith) ∙ get_or-patch_below n i d h

  pub get_or-patch_above : (n i : ℕ) (d : A) → at + n ≤ i → get_or (patch at n f l) i d ≡ get_or l i d
  unfolding patch
  get_or-patch_above zero i d h = refl
  get_or-patch_above (suc n) i d h = get_or-set_other (patch at n f l) (at + n) i (f n) d (omega arith) ∙ get_or-patch_above n i d (omega arith)

  inside_by : (n k : ℕ) (d : A) → k < suc n → at + suc n ≤ length l → (k < n → get_or (patch at n f l) (at + k) d ≡ f k)
      → Dec (k ≡ n) → get_or (patch at (suc n) f l) (at + k) d ≡ f k
  unfolding patch
  inside_by n k d h fits ih (yes e) = rw e (get_or-set_same (patch at n f l) (at + n) (f n) d (rw (length-patch n) (omega arith)))
  inside_by n k d h fits ih (no e) = get_or-set_other (patch at n f l) (at + n) (at + k) (f n) d (omega arith) ∙ ih (omega arith)

  pub get_or-patch : (n k : ℕ) (d : A) → k < n → at + n ≤ length l → get_or (patch at n f l) (at + k) d ≡ f k
  get_or-patch zero k d h fits = absurd (let z : k < 0 = h in omega arith)
  get_or-patch (suc n) k d h fits = inside_by n k d h fits (λ j. get_or-patch n k d j (omega arith)) (ℕ_discrete k n)

pub patch_cong : {A : Type 0} (at n : ℕ) (f g : ℕ → A) (l : List A) → ((k : ℕ) → k < n → f k ≡ g k) → patch at n f l ≡ patch at n g l
unfolding patch
patch_cong {A} at zero f g l e = refl
patch_cong {A} at (suc n) f g l e =
    ap₂ (λ (s : List A) (v : A). set s (at + n) v) (patch_cong at n f g l (λ k h. e k (omega arith))) (e n (omega arith))

pub patch-append : {A : Type 0} (at m n : ℕ) (f g : ℕ → A) (l : List A) → ((k : ℕ) → k < n → g k ≡ f (m + k))
    → patch (at + m) n g (patch at m f l) ≡ patch at (m + n) f l
unfolding patch
patch-append {A} at m zero f g l e = rw (add-zero m)
patch-append {A} at m (suc n) f g l e =
    rw (add-suc m n) (rw (← add_assoc at m n)
    (ap₂ (λ (s : List A) (v : A). set s (at + m + n) v) (patch-append at m n f g l (λ k h. e k (omega arith))) (e n (omega arith))))

pub patch-kept : {A : Type 0} (at m n : ℕ) (f : ℕ → A) (l : List A) (d : A) → ((k : ℕ) → k < n → f (m + k) ≡ get_or l (at + (m + k)) d)
    → patch at (m + n) f l ≡ patch at m f l
unfolding patch
patch-kept at m zero f l d e = rw (add-zero m)
patch-kept {A} at m (suc n) f l d e =
    let same : f (m + n) ≡ get_or (patch at (m + n) f l) (at + (m + n)) d =
    e n (omega arith) ∙ sym (get_or-patch_above at f l (m + n) (at + (m + n)) d (le_refl (at + (m + n)))) in
    rw (add-suc m n)
    (ap (set (patch at (m + n) f l) (at + (m + n))) same ∙ set-get_or (patch at (m + n) f l) (at + (m + n)) d
    ∙ patch-kept at m n f l d (λ k h. e k (omega arith)))

module _ {A : Type 0} (at i : ℕ) (f : ℕ → A) (l : List A) {s : List A} (is : s ≡ patch at i f l) where
  pub patch_step : {v : A} → v ≡ f i → set s (at + i) v ≡ patch at (i + 1) f l
  patch_step e = ap₂ (λ (t : List A) (x : A). set t (at + i) x) is e ∙ sym (patch_more at f l i)

  pub here : (d : A) → get_or s (at + i) d ≡ get_or l (at + i) d
  here d = ap (λ (t : List A). get_or t (at + i) d) is ∙ get_or-patch_above at f l i (at + i) d (le_refl (at + i))

pub patch_front : {A : Type 0} (i : ℕ) (f : ℕ → A) (l : List A) {s : List A} {v : A} → s ≡ patch 0 i f l → v ≡ f i
    → set s i v ≡ patch 0 (i + 1) f l
patch_front i f l {s} {v} is e = ap (λ (k : ℕ). set s k v) (sym (zero-add i)) ∙ patch_step 0 i f l is e

pub get_or-patch_front : {A : Type 0} (n : ℕ) (f : ℕ → A) (l : List A) {s : List A} → s ≡ patch 0 n f l → n ≤ length l → (k : ℕ) (d : A)
    → k < n
    → get_or (take n s) k d ≡ f k
get_or-patch_front n f l {s} is fits k d h =
    get_or-take n s k d h ∙ ap (λ (i : ℕ). get_or s i d) (sym (zero-add k)) ∙ rw is (get_or-patch 0 f l n k d h (omega arith))
