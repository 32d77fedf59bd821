-- The forms of the model, one a slot, and the lines at the start.
--
--   forms-count, form_D, form_L    how many there are, and which
--   by_half          what holds in both halves of a line holds in all of it
--   forms-valued     the forms are lawful, and the points twice are their factors
--   start_at_L, start_at_N    the entries at the start
--   places_apart     their places
-- Assumes nothing.
use mathlib.Core.Path.{◌≡◌, refl, sym, ap, ◌∙◌}
use mathlib.Core.Bool.{false}
use mathlib.Core.List.{List, [], ◌∷◌, ◌++◌, map}
use Prim.Native.Nat.{ℕ, zero, suc, ◌+◌, ◌-◌, ◌*◌, ◌<◌}
use native.Mathlib.Nat.{zero-add, mul_left_comm}
use native.Mathlib.Decide.{dec_lt}
use native.Mathlib.Omega.{arith}
use lib.ListN.{length, get_or, length-map, length-append, get_or-append}
use lib.Seq.{get_or-append-add}
use Rattle.field.specs.Arithmetic.{Arithmetic, gf}
use Rattle.poly.specs.Poly.{All}
use Rattle.basis.proofs.Basis.{Form, Lawful}
use Rattle.basis.proofs.Scan.{all_append}
use Rattle.basis.proofs.Lines.{Separate, separate_add, separate_below}
use Rattle.hermitian.specs.Ring.{numbers}
use Rattle.hermitian.specs.Checks.{bad_size}
use Rattle.hermitian.proofs.Numbers.{length-numbers, number_at}
use Rattle.curve.proofs.Orders.{start, starts}
use Rattle.curve.proofs.Zeros.{point}
use Rattle.curve.proofs.Pairs.{place_l, place_n, pair_starts}
use Rattle.curve.proofs.Model.{condition_d, condition_l, ring_pairs, all_lawful, L-lawful}
use Rattle.pits.specs.Working.Holds.{blank, nothing, Valued}
use Rattle.pits.specs.Working.Rings.{forms, Twice}

-- what holds in the first half and in the second
pub by_half : (P : ℕ → Type 0) (n : ℕ) → ((i : ℕ) → i < n → P i) → ((i : ℕ) → i < n → P (n + i)) → (i : ℕ) → i < n + n → P i
by_half P n low high i lt = go (dec_lt i n)
  where
    go : Dec (i < n) → P i
    go (yes h) = low i h
    go (no h) = let e : n + (i - n) ≡ i = omega arith in rw e at (high (i - n) (omega arith))

map_here : {B : Type 0} (f : ℕ → B) (l : List ℕ) (d : B) (i : ℕ) → i < length l → get_or (map f l) i d ≡ f (get_or l i 0)
map_here f [] d i lt = absurd (omega arith)
map_here f (a ∷ l) d zero lt = refl
map_here f (a ∷ l) d (suc i) lt = map_here f l d i (omega arith)

module _ {B : Type 0} (f g : ℕ → B) (n : ℕ) (d : B) where
  count : (f : ℕ → B) → length (map f (numbers n)) ≡ n
  count f = length-map (numbers n) f ∙ length-numbers n

  both_count : length (map f (numbers n) ++ map g (numbers n)) ≡ n + n
  both_count = omega (arith, length-append (map f (numbers n)) (map g (numbers n)), count f, count g)

  here : (f : ℕ → B) (i : ℕ) → i < n → get_or (map f (numbers n)) i d ≡ f i
  here f i lt = map_here f (numbers n) d i (omega (arith, length-numbers n)) ∙ ap f (number_at n i lt)

  front_at : (i : ℕ) → i < n → get_or (map f (numbers n) ++ map g (numbers n)) i d ≡ f i
  front_at i lt = get_or-append (map f (numbers n)) (map g (numbers n)) d i (omega (arith, count f)) ∙ here f i lt

  back_at : (i : ℕ) → i < n → get_or (map f (numbers n) ++ map g (numbers n)) (n + i) d ≡ g i
  back_at i lt =
      ap (λ (k : ℕ). get_or (map f (numbers n) ++ map g (numbers n)) (k + i) d) (sym (count f))
      ∙ get_or-append-add (map f (numbers n)) (map g (numbers n)) i d ∙ here g i lt

module _ (q m : ℕ) (r : List ℕ) where
  pub forms-count : length (forms q m r) ≡ q * q * q + q * q * q
  forms-count = both_count (condition_d q m r) (condition_l q m) (q * q * q) nothing

  pub form_D : (i : ℕ) → i < q * q * q → get_or (forms q m r) i nothing ≡ condition_d q m r i
  form_D = front_at (condition_d q m r) (condition_l q m) (q * q * q) nothing

  pub form_L : (i : ℕ) → i < q * q * q → get_or (forms q m r) (q * q * q + i) nothing ≡ condition_l q m i
  form_L = back_at (condition_d q m r) (condition_l q m) (q * q * q) nothing

  module _ (size : bad_size q ≡ false) where
    all_L_lawful : (is : List ℕ) → All (Lawful (ring_pairs q size m)) (map (condition_l q m) is)
    all_L_lawful [] = tt
    all_L_lawful (i ∷ is) = (L-lawful q size m i, all_L_lawful is)

    pub forms-valued : (xs : List ℕ) → length xs ≡ q * q * q + q * q * q → Twice (q * q * q) (λ i. (point q i).0) xs
        → Valued q (ring_pairs q size m) (forms q m r) xs
    forms-valued xs long h = record {
      lawful = all_append _ (map (condition_d q m r) (numbers (q * q * q))) (map (condition_l q m) (numbers (q * q * q)))
          (all_lawful q size m r (numbers (q * q * q))) (all_L_lawful (numbers (q * q * q)));
      wide = long ∙ sym forms-count;
      points = λ i lt. by_half (λ i. get_or xs i 0 ≡ (get_or (forms q m r) i nothing).factor) (q * q * q)
          (λ i lt. h.first i lt ∙ ap (λ (C : Form ℕ). C.factor) (sym (form_D i lt)))
          (λ i lt. h.second i lt ∙ ap (λ (C : Form ℕ). C.factor) (sym (form_L i lt)))
          i (omega (arith, forms-count));
    }

-- ---- The entries at the start.

module _ (A : Arithmetic ℕ) (place : ℕ → ℕ) where
  length_starts : (n j : ℕ) → length (starts A place n j) ≡ n
  length_starts zero j = refl
  length_starts (suc n) j = ap suc (length_starts n (suc j))

  starts_at : (n j k p : ℕ) → k < n → p ≡ j + k → get_or (starts A place n j) k blank ≡ start A (place p)
  starts_at zero j k p lt e = absurd (omega arith)
  starts_at (suc n) j zero p lt e = let same : p ≡ j = omega arith in rw same refl
  starts_at (suc n) j (suc k) p lt e = starts_at n (suc j) k p (omega arith) (omega arith)

module _ (q m : ℕ) where
  pub starts_count : length (pair_starts (gf q) q m) ≡ 2 * q
  starts_count = omega (
    arith,
    length-append (starts (gf q) (place_l q m) q 0) (starts (gf q) (place_n q) q 0),
    length_starts (gf q) (place_l q m) q 0,
    length_starts (gf q) (place_n q) q 0,
  )

  module _ (j : ℕ) (lt : j < q) where
    pub start_at_L : get_or (pair_starts (gf q) q m) j blank ≡ start (gf q) (place_l q m j)
    start_at_L =
        get_or-append (starts (gf q) (place_l q m) q 0) (starts (gf q) (place_n q) q 0) blank j
        (omega (arith, length_starts (gf q) (place_l q m) q 0))
        ∙ starts_at (gf q) (place_l q m) q 0 j j lt (omega arith)

    pub start_at_N : get_or (pair_starts (gf q) q m) (q + j) blank ≡ start (gf q) (place_n q j)
    start_at_N =
        ap (λ (k : ℕ). get_or (pair_starts (gf q) q m) (k + j) blank) (sym (length_starts (gf q) (place_l q m) q 0))
        ∙ get_or-append-add (starts (gf q) (place_l q m) q 0) (starts (gf q) (place_n q) q 0) j blank
        ∙ starts_at (gf q) (place_n q) q 0 j j lt (omega arith)

  -- their places

  separate_from : (s c l l' : ℕ) → Separate s l l' → Separate s (c + l) (c + l')
  separate_from s c l l' h i j e = h i j (omega arith)

  swapped : (s l l' : ℕ) → Separate s l l' → Separate s l' l
  swapped s l l' h i j e = h j i (sym e)

  doubles : (j k : ℕ) → j < q → k < q → (j ≡ k → ⊥) → Separate (2 * q) (2 * j) (2 * k)
  doubles j k lj lk other = go (dec_lt j k)
    where
      go : Dec (j < k) → Separate (2 * q) (2 * j) (2 * k)
      go (yes lt) = separate_below (2 * q) (2 * j) (2 * k) (omega arith) (omega arith)
      go (no ge) = swapped (2 * q) (2 * k) (2 * j) (separate_below (2 * q) (2 * k) (2 * j) (omega arith) (omega arith))

  L-apart : (j k : ℕ) → j < q → k < q → (j ≡ k → ⊥) → Separate (2 * q) (place_l q m j) (place_l q m k)
  L-apart j k lj lk other =
      rw (split j, split k)
      (separate_add (2 * q) (c + 2 * j) (c + 2 * k) j k (separate_from (2 * q) c (2 * j) (2 * k) (doubles j k lj lk other)))
    where
      c : ℕ
      c = suc (2 * m)

      split : (j : ℕ) → place_l q m j ≡ j * (2 * q) + (c + 2 * j)
      split j = rw zero-add (omega (arith, mul_left_comm j 2 q))

  N-apart : (j k : ℕ) → j < q → k < q → (j ≡ k → ⊥) → Separate (2 * q) (place_n q j) (place_n q k)
  N-apart j k lj lk other = rw (split j, split k) (separate_add (2 * q) (2 * j) (2 * k) j k (doubles j k lj lk other))
    where
      split : (j : ℕ) → place_n q j ≡ j * (2 * q) + 2 * j
      split j = rw zero-add (omega (arith, mul_left_comm j 2 q))

  L-N-apart : (j k : ℕ) → Separate (2 * q) (place_l q m j) (place_n q k)
  L-N-apart j k a b e = omega (arith, mul_left_comm a 2 q, mul_left_comm b 2 q)

  pub places_apart : (leads : List ℕ) → ((j : ℕ) → j < q → get_or leads j 0 ≡ place_l q m j)
      → ((j : ℕ) → j < q → get_or leads (q + j) 0 ≡ place_n q j)
      → (j k : ℕ) → j < q + q → k < q + q → (j ≡ k → ⊥) → Separate (2 * q) (get_or leads j 0) (get_or leads k 0)
  places_apart leads at_L at_N j k lj lk = by_half (λ j. (j ≡ k → ⊥) → Separate (2 * q) (get_or leads j 0) (get_or leads k 0)) q
      (λ j lj. by_half (λ k. (j ≡ k → ⊥) → Separate (2 * q) (get_or leads j 0) (get_or leads k 0)) q
      (λ k lk other. rw (at_L j lj, at_L k lk) (L-apart j k lj lk other))
      (λ k lk other. rw (at_L j lj, at_N k lk) (L-N-apart j k)) k lk)
      (λ j lj. by_half (λ k. (q + j ≡ k → ⊥) → Separate (2 * q) (get_or leads (q + j) 0) (get_or leads k 0)) q
      (λ k lk other. rw (at_N j lj, at_L k lk) (swapped (2 * q) (place_l q m k) (place_n q j) (L-N-apart k j)))
      (λ k lk other. rw (at_N j lj, at_N k lk) (N-apart j k lj lk (λ same. other (omega arith)))) k lk)
      j lj
