-- The entries of a list whose flag is 0, and the rows of an array made of them.
--
--   all_right, distinct_right   what holds of every entry holds of them; of distinct entries they are distinct
--   right_flags                 they and the flags of a test of columns are as many as the columns
--   right-map                   those of a list of values are the values of those
--   right_rows: length-rows, all_rows    how long the rows are, and what holds of every symbol
--   rank fs i                   how many of the columns before i are flagged 0: where column i comes to stand
--   rank_below, right_at        it is one of the entries that are left, and entry i
--   core-differs                two arrays differ in a column that is left exactly when what is left of them does
-- Assumes nothing.
use mathlib.Core.Path.{◌≡◌, refl, sym, ap, ap₂, ◌∙◌}
use mathlib.Core.Logic.{inl, inr}
use mathlib.Core.Bool.{Bool, true, false, not, ◌||◌}
use mathlib.Core.List.{List, [], ◌∷◌, map}
use Prim.Native.Nat.{ℕ, zero, suc, ◌+◌, ◌*◌, ◌<◌}
use native.Mathlib.Nat.{zero-mul, suc-mul}
use native.Mathlib.Omega.{arith}
use lib.Dec.{eqb}
use lib.ListN.{length, get_or, take, drop, length-append, get_or-append}
use lib.Seq.{get_or-take, drop_at}
use Rattle.poly.specs.Poly.{All}
use Rattle.poly.proofs.Roots.{Mem, Distinct}
use Rattle.codes.specs.Code.{total, flag, flags_from, differs}
use Rattle.codes.specs.Lost.{right, right_rows}
use Rattle.codes.proofs.Parts.{all_take, all_drop, all_append, row_length, rest_length}

module _ {K : Type 0} where
  pub all_right : (P : K → Type 0) (fs : List ℕ) (l : List K) → All P l → All P (right fs l)
  unfolding right
  all_right P [] l h = tt
  all_right P (f ∷ fs) [] h = tt
  all_right P (zero ∷ fs) (a ∷ l) h = (h.0, all_right P fs l h.1)
  all_right P (suc f ∷ fs) (a ∷ l) h = all_right P fs l h.1

  mem_right : (fs : List ℕ) (l : List K) (a : K) → Mem a (right fs l) → Mem a l
  unfolding right
  mem_right [] l a h = elim h [ ]
  mem_right (zero ∷ fs) [] a h = elim h [ ]
  mem_right (suc f ∷ fs) [] a h = elim h [ ]
  mem_right (zero ∷ fs) (b ∷ l) a (inl e) = inl e
  mem_right (zero ∷ fs) (b ∷ l) a (inr h) = inr (mem_right fs l a h)
  mem_right (suc f ∷ fs) (b ∷ l) a h = inr (mem_right fs l a h)

  pub distinct_right : (fs : List ℕ) (l : List K) → Distinct l → Distinct (right fs l)
  unfolding right
  distinct_right [] l d = tt
  distinct_right (f ∷ fs) [] d = tt
  distinct_right (zero ∷ fs) (a ∷ l) d = (λ h. d.0 (mem_right fs l a h), distinct_right fs l d.1)
  distinct_right (suc f ∷ fs) (a ∷ l) d = distinct_right fs l d.1

  pub right_flags : (f : ℕ → Bool) (i : ℕ) (l : List K)
      → length (right (flags_from f i (length l)) l) + total (flags_from f i (length l)) ≡ length l
  unfolding right flags_from total
  right_flags f i [] = refl
  right_flags f i (a ∷ l) = go (f i) (flags_from f (suc i) (length l)) (right_flags f (suc i) l)
    where
      go : (b : Bool) (fs : List ℕ) → length (right fs l) + total fs ≡ length l
          → length (right (flag b ∷ fs) (a ∷ l)) + (flag b + total fs) ≡ suc (length l)
      go true fs h = omega arith
      go false fs h = omega arith

  -- the lists of one length keep as many entries
  pub right_same : {J : Type 0} (fs : List ℕ) (l : List K) (k : List J) → length l ≡ length fs → length k ≡ length fs
      → length (right fs l) ≡ length (right fs k)
  unfolding right
  right_same [] l k e d = refl
  right_same (f ∷ fs) [] k e d = absurd (omega arith)
  right_same (f ∷ fs) (a ∷ l) [] e d = absurd (omega arith)
  right_same (zero ∷ fs) (a ∷ l) (b ∷ k) e d = ap suc (right_same fs l k (omega arith) (omega arith))
  right_same (suc f ∷ fs) (a ∷ l) (b ∷ k) e d = right_same fs l k (omega arith) (omega arith)

  pub right-map : {J : Type 0} (g : K → J) (fs : List ℕ) (l : List K) → right fs (map g l) ≡ map g (right fs l)
  unfolding right
  right-map g [] l = refl
  right-map g (f ∷ fs) [] = refl
  right-map g (zero ∷ fs) (a ∷ l) = ap (◌∷◌ (g a)) (right-map g fs l)
  right-map g (suc f ∷ fs) (a ∷ l) = right-map g fs l

  -- flags that are all 0 leave a list as it is
  pub right_all : (f : ℕ → Bool) (i : ℕ) (l : List K) → ((j : ℕ) → f j ≡ false) → right (flags_from f i (length l)) l ≡ l
  unfolding right flags_from
  right_all f i [] h = refl
  right_all f i (a ∷ l) h = rw (h i) (ap (◌∷◌ a) (right_all f (suc i) l h))

  module _ (fs : List ℕ) (n : ℕ) (sized : length fs ≡ n) where
    pub length-rows : {J : Type 0} (k : List J) → length k ≡ n → (r : ℕ) (y : List K) → length y ≡ r * n
        → length (right_rows fs n r y) ≡ r * length (right fs k)
    unfolding right_rows
    length-rows k e zero y l = sym (zero-mul (length (right fs k)))
    length-rows k e (suc r) y l = omega (
      arith,
      suc-mul r (length (right fs k)),
      length-append (right fs (take n y)) (right_rows fs n r (drop n y)),
      right_same fs (take n y) k (row_length r n y l ∙ sym sized) (e ∙ sym sized),
      length-rows k e r (drop n y) (rest_length r n y l),
    )

    pub all_rows : (P : K → Type 0) (r : ℕ) (y : List K) → All P y → All P (right_rows fs n r y)
    unfolding right_rows
    all_rows P zero y h = tt
    all_rows P (suc r) y h = all_append P (right fs (take n y)) (right_rows fs n r (drop n y))
        (all_right P fs (take n y) (all_take P n y h))
        (all_rows P r (drop n y) (all_drop P n y h))

unfoldable pub rank : List ℕ → ℕ → ℕ
rank [] i = 0
rank (f ∷ fs) zero = 0
rank (zero ∷ fs) (suc i) = suc (rank fs i)
rank (suc f ∷ fs) (suc i) = rank fs i

module _ {K : Type 0} where
  pub rank_below : (fs : List ℕ) (l : List K) (i : ℕ) → length l ≡ length fs → i < length fs → get_or fs i 0 ≡ 0
      → rank fs i < length (right fs l)
  unfolding right rank
  rank_below [] l i e q z = absurd (omega arith)
  rank_below (f ∷ fs) [] i e q z = absurd (omega arith)
  rank_below (zero ∷ fs) (a ∷ l) zero e q z = omega arith
  rank_below (suc f ∷ fs) (a ∷ l) zero e q z = absurd (omega arith)
  rank_below (zero ∷ fs) (a ∷ l) (suc i) e q z = omega (arith, rank_below fs l i (omega arith) (omega arith) z)
  rank_below (suc f ∷ fs) (a ∷ l) (suc i) e q z = rank_below fs l i (omega arith) (omega arith) z

  pub right_at : (fs : List ℕ) (l : List K) (i : ℕ) (d : K) → length l ≡ length fs → i < length fs → get_or fs i 0 ≡ 0
      → get_or (right fs l) (rank fs i) d ≡ get_or l i d
  unfolding right rank
  right_at [] l i d e q z = absurd (omega arith)
  right_at (f ∷ fs) [] i d e q z = absurd (omega arith)
  right_at (zero ∷ fs) (a ∷ l) zero d e q z = refl
  right_at (suc f ∷ fs) (a ∷ l) zero d e q z = absurd (omega arith)
  right_at (zero ∷ fs) (a ∷ l) (suc i) d e q z = right_at fs l i d (omega arith) (omega arith) z
  right_at (suc f ∷ fs) (a ∷ l) (suc i) d e q z = right_at fs l i d (omega arith) (omega arith) z

module _ (fs : List ℕ) (n : ℕ) (sized : length fs ≡ n) {K : Type 0} (k : List K) (long : length k ≡ n) (i : ℕ) (q : i < n)
    (left : get_or fs i 0 ≡ 0) where
  -- the symbol of the first row, and the other rows
  first_at : (r : ℕ) (y : List ℕ) → length y ≡ suc r * n → get_or (right_rows fs n (suc r) y) (rank fs i) 0 ≡ get_or y i 0
  unfolding right_rows
  first_at r y l =
      let row : length (take n y) ≡ length fs = row_length r n y l ∙ sym sized in
      let below = rank_below fs (take n y) i row (omega arith) left in
      get_or-append (right fs (take n y)) (right_rows fs n r (drop n y)) 0 (rank fs i) below
      ∙ right_at fs (take n y) i 0 row (omega arith) left
      ∙ get_or-take n y i 0 q

  others_at : (r : ℕ) (y : List ℕ) → length y ≡ suc r * n
      → drop (length (right fs k)) (right_rows fs n (suc r) y) ≡ right_rows fs n r (drop n y)
  unfolding right_rows
  others_at r y l = drop_at (right fs (take n y)) (right_rows fs n r (drop n y)) (length (right fs k))
      (right_same fs (take n y) k (row_length r n y l ∙ sym sized) (long ∙ sym sized))

  pub core-differs : (r : ℕ) (a b : List ℕ) → length a ≡ r * n → length b ≡ r * n
      → differs r (length (right fs k)) (rank fs i) (right_rows fs n r a) (right_rows fs n r b) ≡ differs r n i a b
  unfolding differs
  core-differs zero a b l m = refl
  core-differs (suc r) a b l m = ap₂ ◌||◌
      (ap₂ (λ (x y : ℕ). not (eqb x y)) (first_at r a l) (first_at r b m))
      (ap₂ (differs r (length (right fs k)) (rank fs i)) (others_at r a l) (others_at r b m)
      ∙ core-differs r (drop n a) (drop n b) (rest_length r n a l) (rest_length r n b m))
