-- Lists made of n parts of r numbers each, one after the other, and arrays turned so that rows become columns.
--
--   length-numbers, number_at    there are n numbers below n, and the i-th is i
--   flat_more, flat_cong         one part more; only the parts count
--   all_flat                     what holds of every part's numbers holds of all
--   length_flat, part_flat       how long such a list is, and its x-th part
--   flat_parts                   a list is made of its own parts
--   column_at, column_cons       the symbols of a column; its first, and the column of the rows that follow
--   column_same                  columns are equal exactly when their symbols are
--   turned r n a                 r rows of n numbers as n rows of r
--   part_turned, column-turned   its rows were the columns, and its columns were the rows
--   turned_twice                 turned again it is what it was
-- Assumes nothing.
use mathlib.Core.Path.{◌≡◌, refl, sym, ap, ap₂, ◌∙◌, subst}
use mathlib.Core.Logic.{◌↔◌}
use mathlib.Core.List.{List, [], ◌∷◌, ◌++◌, map, flat_map, append_assoc}
use Prim.Native.Nat.{ℕ, zero, suc, ◌+◌, ◌*◌, ◌≤◌, ◌<◌}
use native.Mathlib.Nat.{zero-mul, suc-mul, mul-le-mul_right}
use native.Mathlib.Decide.{ℕ_discrete}
use native.Mathlib.Omega.{arith}
use lib.ListN.{length, get_or, take, drop, length-append, length-drop, length-map, get_or-append}
use lib.Seq.{length-take-le, take-add, take_all, take-append-le, drop-append-le, drop_at, get_or_at, get_or-drop, ext_get_or}
use Rattle.patch.specs.Patch.{patch}
use Rattle.patch.specs.Parts.{part}
use Rattle.patch.proofs.Laws.{length-patch, get_or-patch_front}
use Rattle.patch.proofs.Parts.{length_part, get_d_part}
use Rattle.poly.specs.Poly.{All}
use Rattle.codes.proofs.Parts.{all_append}
use Rattle.hermitian.specs.Ring.{numbers, column}

pub length-numbers : (n : ℕ) → length (numbers n) ≡ n
unfolding numbers
length-numbers zero = refl
length-numbers (suc n) = length-append (numbers n) (n ∷ []) ∙ omega (arith, length-numbers n)

pub number_at : (n i : ℕ) → i < n → get_or (numbers n) i 0 ≡ i
unfolding numbers
number_at zero i h = absurd (omega arith)
number_at (suc n) i h = go (ℕ_discrete i n) (number_at n i)
  where
    go : Dec (i ≡ n) → (i < n → get_or (numbers n) i 0 ≡ i) → get_or (numbers n ++ n ∷ []) i 0 ≡ i
    go (yes e) ih = rw e (get_or_at (numbers n) n [] 0 n (length-numbers n))
    go (no e) ih = get_or-append (numbers n) (n ∷ []) 0 i (omega (arith, length-numbers n)) ∙ ih (omega arith)

pub map_at : {A : Type 0} (f : A → ℕ) (l : List A) (i : ℕ) (d : A) → i < length l → get_or (map f l) i 0 ≡ f (get_or l i d)
map_at f [] i d h = absurd (omega arith)
map_at f (a ∷ l) zero d h = refl
map_at f (a ∷ l) (suc i) d h = map_at f l i d (omega arith)

pub mapped_at : (f : ℕ → ℕ) (n i : ℕ) → i < n → get_or (map f (numbers n)) i 0 ≡ f i
mapped_at f n i h = map_at f (numbers n) i 0 (omega (arith, length-numbers n)) ∙ ap f (number_at n i h)

-- a list whose front was written by a loop
pub front : (f : ℕ → ℕ) (n : ℕ) (l : List ℕ) {s : List ℕ} → s ≡ patch 0 n f l → n ≤ length l → take n s ≡ map f (numbers n)
front f n l {s} is fits =
    let size : length (take n s) ≡ n = length-take-le n s (omega (arith, ap length is, length-patch 0 f l n)) in
    let size' : length (map f (numbers n)) ≡ n = length-map (numbers n) f ∙ length-numbers n in
    ext_get_or 0 (take n s) (map f (numbers n)) (omega arith)
    (λ i h. get_or-patch_front n f l is fits i 0 (omega arith) ∙ sym (mapped_at f n i (omega arith)))

module _ {A B : Type 0} (f : A → List B) where
  flat_append : (l k : List A) → flat_map f (l ++ k) ≡ flat_map f l ++ flat_map f k
  unfolding flat_map
  flat_append [] k = refl
  flat_append (a ∷ l) k = ap (λ (z : List B). f a ++ z) (flat_append l k) ∙ sym (append_assoc (f a) (flat_map f l) (flat_map f k))

  flat_one : (a : A) → flat_map f (a ∷ []) ≡ f a
  unfolding flat_map
  flat_one a = append-nil (f a)
    where
      append-nil : (l : List B) → l ++ [] ≡ l
      append-nil [] = refl
      append-nil (b ∷ l) = ap (◌∷◌ b) (append-nil l)

pub flat_more : {B : Type 0} (f : ℕ → List B) (n : ℕ) → flat_map f (numbers (suc n)) ≡ flat_map f (numbers n) ++ f n
unfolding numbers
flat_more f n = flat_append f (numbers n) (n ∷ []) ∙ ap (◌++◌ (flat_map f (numbers n))) (flat_one f n)

pub flat_cong : {B : Type 0} (f g : ℕ → List B) (n : ℕ) → ((x : ℕ) → x < n → f x ≡ g x) → flat_map f (numbers n) ≡ flat_map g (numbers n)
flat_cong f g zero h = unfold numbers flat_map in refl
flat_cong f g (suc n) h =
    flat_more f n ∙ ap₂ ◌++◌ (flat_cong f g n (λ x k. h x (omega arith))) (h n (omega arith)) ∙ sym (flat_more g n)

pub all_flat : {B : Type 0} (P : B → Type 0) (f : ℕ → List B) (n : ℕ) → ((x : ℕ) → x < n → All P (f x)) → All P (flat_map f (numbers n))
all_flat P f zero h = unfold numbers flat_map in tt
all_flat P f (suc n) h =
    subst (All P) (sym (flat_more f n))
    (all_append P (flat_map f (numbers n)) (f n) (all_flat P f n (λ x k. h x (omega arith))) (h n (omega arith)))

-- the parts of l from 0 on, r numbers each, make up its front
flat_front : (r n : ℕ) (l : List ℕ) → flat_map (λ x. part (x * r) r l) (numbers n) ≡ take (n * r) l
unfolding part
flat_front r zero l = rw (zero-mul r) (unfold numbers flat_map in refl)
flat_front r (suc n) l =
    flat_more (λ x. part (x * r) r l) n
    ∙ ap (λ (k : List ℕ). k ++ take r (drop (n * r) l)) (flat_front r n l)
    ∙ sym (take-add (n * r) r l)
    ∙ ap (λ (k : ℕ). take k l) (sym (suc-mul n r))

pub flat_parts : (r n : ℕ) (l : List ℕ) → length l ≡ n * r → flat_map (λ x. part (x * r) r l) (numbers n) ≡ l
flat_parts r n l e = flat_front r n l ∙ take_all (n * r) l (omega arith)

-- the x-th of n parts ends within them
pub part_fits : (r n x : ℕ) → x < n → x * r + r ≤ n * r
part_fits r n x h = omega (arith, suc-mul x r, mul-le-mul_right r h)

-- part x of a list of parts, whose length is known
module _ (r : ℕ) where
  part_left : (at : ℕ) (l k : List ℕ) → at + r ≤ length l → part at r (l ++ k) ≡ part at r l
  unfolding part
  part_left at l k h =
      ap (take r) (drop-append-le at l k (omega arith)) ∙ take-append-le r (drop at l) k (omega (arith, length-drop at l))

  part_right : (at : ℕ) (l k : List ℕ) → length l ≡ at → length k ≡ r → part at r (l ++ k) ≡ k
  unfolding part
  part_right at l k e h = ap (take r) (drop_at l k at e) ∙ take_all r k (omega arith)

  module _ (f : ℕ → List ℕ) where
    pub length_flat : (n : ℕ) → ((x : ℕ) → x < n → length (f x) ≡ r) → length (flat_map f (numbers n)) ≡ n * r
    length_flat zero h = rw (zero-mul r) (unfold numbers flat_map in refl)
    length_flat (suc n) h =
        ap length (flat_more f n) ∙ length-append (flat_map f (numbers n)) (f n)
        ∙ omega (arith, suc-mul n r, length_flat n (λ x k. h x (omega arith)), h n (omega arith))

    pub part_flat : (n x : ℕ) → ((x : ℕ) → x < n → length (f x) ≡ r) → x < n → part (x * r) r (flat_map f (numbers n)) ≡ f x
    part_flat zero x h k = absurd (omega arith)
    part_flat (suc n) x h k = ap (part (x * r) r) (flat_more f n) ∙ go (ℕ_discrete x n) (part_flat n x (λ y j. h y (omega arith)))
      where
        size : length (flat_map f (numbers n)) ≡ n * r
        size = length_flat n (λ y j. h y (omega arith))

        go : Dec (x ≡ n) → (x < n → part (x * r) r (flat_map f (numbers n)) ≡ f x) → part (x * r) r (flat_map f (numbers n) ++ f n) ≡ f x
        go (yes e) ih = rw e (part_right (n * r) (flat_map f (numbers n)) (f n) size (h n (omega arith)))
        go (no e) ih =
            part_left (x * r) (flat_map f (numbers n)) (f n) (omega (arith, size, part_fits r n x (omega arith))) ∙ ih (omega arith)

module _ (r n : ℕ) (a : List ℕ) where
  pub length-column : (x : ℕ) → length (column r n a x) ≡ r
  unfolding column
  length-column x = length-map (numbers r) (λ j. get_or a (j * n + x) 0) ∙ length-numbers r

  pub column_at : (x j : ℕ) → j < r → get_or (column r n a x) j 0 ≡ get_or a (j * n + x) 0
  unfolding column
  column_at x j h = mapped_at (λ j. get_or a (j * n + x) 0) r j h

pub column_cons : (r n : ℕ) (a : List ℕ) (x : ℕ) → column (suc r) n a x ≡ get_or a x 0 ∷ column r n (drop n a) x
column_cons r n a x = ext_get_or 0 (column (suc r) n a x) (get_or a x 0 ∷ column r n (drop n a) x)
    (length-column (suc r) n a x ∙ ap suc (sym (length-column r n (drop n a) x)))
    (λ j h. column_at (suc r) n a x j (omega (arith, length-column (suc r) n a x)) ∙ go j (omega (arith, length-column (suc r) n a x)))
  where
    go : (j : ℕ) → j < suc r → get_or a (j * n + x) 0 ≡ get_or (get_or a x 0 ∷ column r n (drop n a) x) j 0
    go zero h = ap (λ (i : ℕ). get_or a i 0) (omega (arith, zero-mul n))
    go (suc j) h =
        ap (λ (i : ℕ). get_or a i 0) (omega (arith, suc-mul j n)) ∙ sym (get_or-drop n a (j * n + x) 0)
        ∙ sym (column_at r n (drop n a) x j (omega arith))

pub column_same : (r n : ℕ) (a b : List ℕ) (x : ℕ)
    → ((j : ℕ) → j < r → get_or a (j * n + x) 0 ≡ get_or b (j * n + x) 0) ↔ (column r n a x ≡ column r n b x)
column_same r n a b x = (
  λ h. ext_get_or 0 (column r n a x) (column r n b x) (length-column r n a x ∙ sym (length-column r n b x))
      (λ j k. let j' : j < r = omega (arith, length-column r n a x) in column_at r n a x j j' ∙ h j j' ∙ sym (column_at r n b x j j')),
  λ e j k. sym (column_at r n a x j k) ∙ ap (λ (l : List ℕ). get_or l j 0) e ∙ column_at r n b x j k,
)

abbrev pub turned : ℕ → ℕ → List ℕ → List ℕ
turned r n a = flat_map (column r n a) (numbers n)

module _ (r n : ℕ) (a : List ℕ) where
  pub length-turned : length (turned r n a) ≡ n * r
  length-turned = length_flat r (column r n a) n (λ x h. length-column r n a x)

  pub part_turned : (x : ℕ) → x < n → part (x * r) r (turned r n a) ≡ column r n a x
  part_turned x h = part_flat r (column r n a) n x (λ y k. length-column r n a y) h

  place : (x j : ℕ) → x < n → j < r → get_or (turned r n a) (x * r + j) 0 ≡ get_or a (j * n + x) 0
  place x j h k =
      sym (get_d_part (x * r) r (turned r n a) j k) ∙ ap (λ (l : List ℕ). get_or l j 0) (part_turned x h) ∙ column_at r n a x j k

  pub column-turned : (j : ℕ) → j < r → length a ≡ r * n → column n r (turned r n a) j ≡ part (j * n) n a
  column-turned j h e =
      let size : length (part (j * n) n a) ≡ n = length_part (j * n) n a (omega (arith, part_fits n r j h)) in
      let size' : length (column n r (turned r n a) j) ≡ n = length-column n r (turned r n a) j in
      ext_get_or 0 (column n r (turned r n a) j) (part (j * n) n a) (omega arith)
      (λ x k. column_at n r (turned r n a) j x (omega arith) ∙ place x j (omega arith) h ∙ sym (get_d_part (j * n) n a x (omega arith)))

pub turned_twice : (r n : ℕ) (a : List ℕ) → length a ≡ r * n → turned n r (turned r n a) ≡ a
turned_twice r n a e =
    flat_cong (column n r (turned r n a)) (λ j. part (j * n) n a) r (λ j h. column-turned r n a j h e)
    ∙ flat_parts n r a e
