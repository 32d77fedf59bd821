-- Tests of columns: their flags, and the points at whose columns they hold.
--
--   flag-most          a flag is 0 or 1; flags-length, there is one for each column
--   flag_here          that of a column; flag-right, where it is 0 the test fails
--   flags_same         tests that agree at each column have the same flags
--   points_where f xs   the points of xs at whose column f holds
--   count_where        they are as many as the flags add up to
--   distinct_where     of distinct points they are distinct; all_where, mem_where: they are points of xs
--   where_exactly      P holds of each exactly when at every column P holds or f does not
--   where_mem          of distinct points: f holds at a column exactly when its point is one of them
-- Assumes nothing.
use mathlib.Core.Path.{◌≡◌, refl, sym, ap, ap₂, ◌∙◌, subst}
use mathlib.Core.Logic.Iff
use mathlib.Core.Logic.{◌↔◌, ◌⊎◌, inl, inr, ⊎_elim}
use mathlib.Core.Bool.{Bool, true, false, true≢false}
use mathlib.Core.List.{List, [], ◌∷◌}
use Prim.Native.Nat.{ℕ, zero, suc, ◌+◌, ◌≤◌, ◌<◌}
use native.Mathlib.Nat.{add-zero, add-suc, suc-add, zero-add}
use native.Mathlib.Omega.{arith}
use lib.ListN.{length, get_or}
use Rattle.poly.specs.Poly.{All}
use Rattle.poly.proofs.Roots.{Mem, Distinct}
use Rattle.codes.specs.Code.{total, flag, flags_from}
use Rattle.codes.proofs.Parts.{index-cons, all_map}

pub flag-most : (b : Bool) → flag b ≤ 1
flag-most true = omega arith
flag-most false = omega arith

pub flags-length : (f : ℕ → Bool) (i n : ℕ) → length (flags_from f i n) ≡ n
unfolding flags_from
flags-length f i zero = refl
flags-length f i (suc n) = ap suc (flags-length f (suc i) n)

flag_at : (f : ℕ → Bool) (a n i : ℕ) → i < n → get_or (flags_from f a n) i 0 ≡ flag (f (a + i))
unfolding flags_from
flag_at f a zero i q = absurd (omega arith)
flag_at f a (suc n) zero q = rw add-zero
flag_at f a (suc n) (suc i) q = flag_at f (suc a) n i (omega arith) ∙ rw (suc-add, ← add-suc)

not_flagged : (b : Bool) → flag b ≡ 0 → b ≡ false
not_flagged true e = absurd (omega arith)
not_flagged false e = refl

pub flag_here : (f : ℕ → Bool) (n i : ℕ) → i < n → get_or (flags_from f 0 n) i 0 ≡ flag (f i)
flag_here f n i q = flag_at f 0 n i q ∙ ap (λ (j : ℕ). flag (f j)) (zero-add i)

pub flag-right : (f : ℕ → Bool) (n i : ℕ) → i < n → get_or (flags_from f 0 n) i 0 ≡ 0 → f i ≡ false
flag-right f n i q e = not_flagged (f i) (sym (flag_here f n i q) ∙ e)

-- flags from column i + 1 on, counted from i on
shift : (f : ℕ → Bool) (i n : ℕ) → flags_from f (suc i) n ≡ flags_from (λ j. f (suc j)) i n
unfolding flags_from
shift f i zero = refl
shift f i (suc n) = ap (◌∷◌ (flag (f (suc i)))) (shift f (suc i) n)

pub flags_same : (f g : ℕ → Bool) (n : ℕ) → ((i : ℕ) → i < n → f i ≡ g i) → flags_from f 0 n ≡ flags_from g 0 n
unfolding flags_from
flags_same f g zero h = refl
flags_same f g (suc n) h = ap₂ ◌∷◌
    (ap flag (h 0 (omega arith)))
    (shift f 0 n ∙ flags_same (λ i. f (suc i)) (λ i. g (suc i)) n (λ i q. h (suc i) (omega arith)) ∙ sym (shift g 0 n))

module _ {K : Type 0} where
  abbrev keep : Bool → K → List K → List K
  keep true x p = x ∷ p
  keep false x p = p

  unfoldable pub points_where : (ℕ → Bool) → List K → List K
  points_where f [] = []
  points_where f (x ∷ xs) = keep (f 0) x (points_where (λ i. f (suc i)) xs)

  length_keep : (b : Bool) (x : K) (p : List K) (n : ℕ) → length p ≡ n → length (keep b x p) ≡ flag b + n
  length_keep true x p n h = omega arith
  length_keep false x p n h = omega arith

  pub count_where : (f : ℕ → Bool) (xs : List K) → length (points_where f xs) ≡ total (flags_from f 0 (length xs))
  unfolding points_where flags_from total
  count_where f [] = refl
  count_where f (x ∷ xs) = length_keep (f 0) x (points_where (λ i. f (suc i)) xs)
      (total (flags_from f 1 (length xs)))
      (count_where (λ i. f (suc i)) xs ∙ ap total (sym (shift f 0 (length xs))))

  all_keep : (P : K → Type 0) (b : Bool) (x : K) (p : List K) → All P (keep b x p) ↔ ((P x ⊎ (b ≡ false)) × All P p)
  all_keep P true x p = (λ h. (inl h.0, h.1), λ h. (⊎_elim (λ q. q) (λ e. absurd (true≢false e)) h.0, h.1))
  all_keep P false x p = (λ h. (inr refl, h), λ h. h.1)

  pub where_exactly : (P : K → Type 0) (f : ℕ → Bool) (xs : List K) (d : K)
      → All P (points_where f xs) ↔ ((i : ℕ) → i < length xs → P (get_or xs i d) ⊎ (f i ≡ false))
  unfolding points_where
  where_exactly P f [] d = (λ h i q. absurd (omega arith), λ h. tt)
  where_exactly P f (x ∷ xs) d = Iff.trans
      (all_keep P (f 0) x (points_where (λ i. f (suc i)) xs))
      (Iff.trans
      (Iff.and (λ h. h, λ h. h) (where_exactly P (λ i. f (suc i)) xs d))
      (index-cons (λ (i : ℕ). P (get_or (x ∷ xs) i d) ⊎ (f i ≡ false)) (length xs)))

  pub all_where : (P : K → Type 0) (f : ℕ → Bool) (xs : List K) → All P xs → All P (points_where f xs)
  unfolding points_where
  all_where P f [] h = tt
  all_where P f (x ∷ xs) h =
      (all_keep P (f 0) x (points_where (λ i. f (suc i)) xs)).1 (inl h.0, all_where P (λ i. f (suc i)) xs h.1)

  mem_keep : (b : Bool) (x y : K) (p : List K) → Mem y (keep b x p) → ((y ≡ x) × (b ≡ true)) ⊎ Mem y p
  mem_keep true x y p (inl e) = inl (e, refl)
  mem_keep true x y p (inr m) = inr m
  mem_keep false x y p m = inr m

  pub mem_where : (f : ℕ → Bool) (xs : List K) (y : K) → Mem y (points_where f xs) → Mem y xs
  unfolding points_where
  mem_where f [] y m = elim m [ ]
  mem_where f (x ∷ xs) y m =
      ⊎_elim (λ e. inl e.0) (λ n. inr (mem_where (λ i. f (suc i)) xs y n)) (mem_keep (f 0) x y (points_where (λ i. f (suc i)) xs) m)

  distinct_keep : (b : Bool) (x : K) (p : List K) → ¬ Mem x p → Distinct p → Distinct (keep b x p)
  distinct_keep true x p h d = (h, d)
  distinct_keep false x p h d = d

  pub distinct_where : (f : ℕ → Bool) (xs : List K) → Distinct xs → Distinct (points_where f xs)
  unfolding points_where
  distinct_where f [] d = tt
  distinct_where f (x ∷ xs) d = distinct_keep (f 0) x (points_where (λ i. f (suc i)) xs)
      (λ m. d.0 (mem_where (λ i. f (suc i)) xs x m))
      (distinct_where (λ i. f (suc i)) xs d.1)

  pub mem_at : (xs : List K) (i : ℕ) (d : K) → i < length xs → Mem (get_or xs i d) xs
  mem_at [] i d q = absurd (omega arith)
  mem_at (x ∷ xs) zero d q = inl refl
  mem_at (x ∷ xs) (suc i) d q = inr (mem_at xs i d (omega arith))

  -- of distinct points, f holds at the column of each that was taken
  pub where_holds : (f : ℕ → Bool) (xs : List K) (d : K) → Distinct xs → (i : ℕ) → i < length xs
      → Mem (get_or xs i d) (points_where f xs) → f i ≡ true
  unfolding points_where
  where_holds f [] d s i q m = absurd (omega arith)
  where_holds f (x ∷ xs) d s zero q m = ⊎_elim
      (λ e. e.1)
      (λ n. absurd (s.0 (mem_where (λ i. f (suc i)) xs x n)))
      (mem_keep (f 0) x x (points_where (λ i. f (suc i)) xs) m)
  where_holds f (x ∷ xs) d s (suc i) q m = ⊎_elim
      (λ e. absurd (s.0 (subst (λ (y : K). Mem y xs) e.0 (mem_at xs i d (omega arith)))))
      (where_holds (λ i. f (suc i)) xs d s.1 i (omega arith))
      (mem_keep (f 0) x (get_or xs i d) (points_where (λ i. f (suc i)) xs) m)

  pub mem_self : (xs : List K) → All (λ (x : K). Mem x xs) xs
  mem_self [] = tt
  mem_self (x ∷ xs) = (inl refl, all_map (λ (y : K). Mem y xs) (λ (y : K). Mem y (x ∷ xs)) xs (λ y m. inr m) (mem_self xs))

  -- f holds at a column exactly when its point was taken
  pub where_mem : (f : ℕ → Bool) (xs : List K) (d : K) → Distinct xs → (i : ℕ) → i < length xs
      → (f i ≡ true) ↔ Mem (get_or xs i d) (points_where f xs)
  where_mem f xs d s i q = (
    λ e. ⊎_elim
        (λ m. m)
        (λ h. absurd (true≢false (sym e ∙ h)))
        ((where_exactly (λ (x : K). Mem x (points_where f xs)) f xs d).0 (mem_self (points_where f xs)) i q),
    where_holds f xs d s i q,
  )
