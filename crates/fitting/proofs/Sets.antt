-- The sets of columns that are tried: they are all there, and in 02's order.
--
--   IsSet n t W         W is a set of t of n columns: n flags, t of them 1; no_columns, that without columns
--   sets_are, sets_all  `sets_of t n` has such sets, and all of them; few_sets, at most 2 to the power n
--   sets_from i s n      the sets of i to i + s − 1 columns; more_sets, of one size more
--   are_from, all_from  they are sets of so many columns, and all of them
--   Sorted R l          R holds of each entry and every later one
--   Earlier W U         W has fewer columns than U, or as many and its column numbers come first in the dictionary
--   in_order            'smaller sets first and, among equal sizes, in dictionary order of their column numbers'
-- Assumes nothing.
use mathlib.Core.Path.{◌≡◌, refl, sym, ap, ap₂, ◌∙◌}
use mathlib.Core.Logic.{◌⊎◌, inl, inr}
use mathlib.Core.List.{List, [], ◌∷◌, ◌++◌, map, flat_map, append_assoc, append-nil}
use Prim.Native.Nat.{ℕ, zero, suc, ◌+◌, ◌^◌, ◌≤◌, ◌<◌}
use native.Mathlib.Nat.{pow-suc, add-zero, zero-add}
use native.Mathlib.Numerals.{add-one}
use native.Mathlib.Omega.{arith}
use native.Mathlib.Decide.{ℕ_discrete}
use lib.Pow.{pow_pos}
use lib.ListN.{length, replicate, length-append, length-map, length-replicate}
use Rattle.poly.specs.Poly.{All}
use Rattle.poly.proofs.Roots.{Mem}
use Rattle.codes.specs.Code.{total, up_from}
use Rattle.codes.proofs.Parts.{all_append, all_map}
use Rattle.fitting.specs.Fitting.{sets_of, sets}

-- ---- what holds of every entry, and what is an entry

module _ {A B : Type 0} where
  all_mapped : (P : B → Type 0) (f : A → B) (l : List A) → All (λ (a : A). P (f a)) l → All P (map f l)
  all_mapped P f [] h = tt
  all_mapped P f (a ∷ l) h = (h.0, all_mapped P f l h.1)

  mem_mapped : (f : A → B) (a : A) (l : List A) → Mem a l → Mem (f a) (map f l)
  mem_mapped f a [] x' = elim x' [ ]
  mem_mapped f a (b ∷ l) (inl e) = inl (ap f e)
  mem_mapped f a (b ∷ l) (inr m) = inr (mem_mapped f a l m)

module _ {A : Type 0} where
  mem_left : (a : A) (l k : List A) → Mem a l → Mem a (l ++ k)
  mem_left a [] k x' = elim x' [ ]
  mem_left a (b ∷ l) k (inl e) = inl e
  mem_left a (b ∷ l) k (inr m) = inr (mem_left a l k m)

  mem_right : (a : A) (l k : List A) → Mem a k → Mem a (l ++ k)
  mem_right a [] k m = m
  mem_right a (b ∷ l) k m = inr (mem_right a l k m)

-- ---- the sets of one size

pub record IsSet (n t : ℕ) (W : List ℕ) : Type 0 where
  pub sized : length W ≡ n
  pub flags : All (λ (f : ℕ). f < 2) W
  pub many : total W ≡ t

pub no_columns : (n : ℕ) → IsSet n 0 (replicate n 0)
unfolding total
no_columns zero = record { sized = refl; flags = tt; many = refl }
no_columns (suc n) = let r = no_columns n in
    record { sized = length-replicate (suc n) 0; flags = (omega arith, r.flags); many = omega (arith, r.many) }

more_columns : {n t u : ℕ} (f : ℕ) → f < 2 → u ≡ f + t → (W : List ℕ) → IsSet n t W → IsSet (suc n) u (f ∷ W)
unfolding total
more_columns f q e W h = record { sized = ap suc h.sized; flags = (q, h.flags); many = omega (arith, h.many) }

pub sets_are : (t n : ℕ) → All (IsSet n t) (sets_of t n)
unfolding sets_of
sets_are zero n = (no_columns n, tt)
sets_are (suc t) zero = tt
sets_are (suc t) (suc n) = all_append (IsSet (suc n) (suc t)) (map (◌∷◌ 1) (sets_of t n)) (map (◌∷◌ 0) (sets_of (suc t) n))
    (all_mapped _ (◌∷◌ 1) (sets_of t n) (all_map _ _ (sets_of t n) (more_columns 1 (omega arith) (omega arith)) (sets_are t n)))
    (all_mapped _ (◌∷◌ 0) (sets_of (suc t) n)
    (all_map _ _ (sets_of (suc t) n) (more_columns 0 (omega arith) (omega arith)) (sets_are (suc t) n)))

-- without columns all flags are 0
all_zero : (n : ℕ) (W : List ℕ) → length W ≡ n → total W ≡ 0 → W ≡ replicate n 0
unfolding total
all_zero zero [] l e = refl
all_zero zero (f ∷ W) l e = absurd (omega arith)
all_zero (suc n) [] l e = absurd (omega arith)
all_zero (suc n) (f ∷ W) l e = ap₂ ◌∷◌ (omega arith) (all_zero n W (omega arith) (omega arith))

pub sets_all : (t n : ℕ) (W : List ℕ) → length W ≡ n → All (λ (f : ℕ). f < 2) W → total W ≡ t → Mem W (sets_of t n)
unfolding sets_of total
sets_all zero n W l s e = inl (all_zero n W l e)
sets_all (suc t) zero [] l s e = absurd (omega arith)
sets_all (suc t) zero (f ∷ W) l s e = absurd (omega arith)
sets_all (suc t) (suc n) [] l s e = absurd (omega arith)
sets_all (suc t) (suc n) (zero ∷ W) l s e = mem_right (0 ∷ W) (map (◌∷◌ 1) (sets_of t n)) (map (◌∷◌ 0) (sets_of (suc t) n))
    (mem_mapped (◌∷◌ 0) W (sets_of (suc t) n) (sets_all (suc t) n W (omega arith) s.1 (omega arith)))
sets_all (suc t) (suc n) (suc zero ∷ W) l s e = mem_left (1 ∷ W) (map (◌∷◌ 1) (sets_of t n)) (map (◌∷◌ 0) (sets_of (suc t) n))
    (mem_mapped (◌∷◌ 1) W (sets_of t n) (sets_all t n W (omega arith) s.1 (omega arith)))
sets_all (suc t) (suc n) (suc (suc f) ∷ W) l s e = absurd (omega (arith, s.0))

pub next_count : (t n : ℕ) → length (sets_of (suc t) (suc n)) ≡ length (sets_of t n) + length (sets_of (suc t) n)
unfolding sets_of
next_count t n = length-append (map (◌∷◌ 1) (sets_of t n)) (map (◌∷◌ 0) (sets_of (suc t) n))
    ∙ ap₂ ◌+◌ (length-map (sets_of t n) (◌∷◌ 1)) (length-map (sets_of (suc t) n) (◌∷◌ 0))

pub few_sets : (t n : ℕ) → length (sets_of t n) ≤ 2 ^ n
unfolding sets_of
few_sets zero n = pow_pos n
few_sets (suc t) zero = omega arith
few_sets (suc t) (suc n) = omega (arith, next_count t n, few_sets t n, few_sets (suc t) n, pow-suc 2 n)

-- ---- the sets of several sizes

abbrev pub sets_from : (i s n : ℕ) → List (List ℕ)
sets_from i s n = flat_map (λ t. sets_of t n) (up_from i s)

-- those of one size more
one_more : (i s n : ℕ) → sets_from i s n ++ sets_of (i + s) n ≡ sets_from i (suc s) n
unfolding up_from flat_map
one_more i zero n = ap (λ (t : ℕ). sets_of t n) (add-zero i) ∙ sym (append-nil (sets_of i n))
one_more i (suc s) n =
    let e : i + suc s ≡ suc i + s = omega arith in
    append_assoc (sets_of i n) (sets_from (suc i) s n) (sets_of (i + suc s) n)
    ∙ ap (λ (l : List (List ℕ)). sets_of i n ++ l) (ap (λ (t : ℕ). sets_from (suc i) s n ++ sets_of t n) e ∙ one_more (suc i) s n)

pub more_sets : (s n : ℕ) → sets_from 0 s n ++ sets_of s n ≡ sets_from 0 (s + 1) n
more_sets s n = rw add-one (ap (λ (t : ℕ). sets_from 0 s n ++ sets_of t n) (sym (zero-add s)) ∙ one_more 0 s n)

pub record IsFrom (i s n : ℕ) (W : List ℕ) : Type 0 where
  pub set : IsSet n (total W) W
  pub least : i ≤ total W
  pub most : total W < i + s

pub are_from : (i s n : ℕ) → All (IsFrom i s n) (sets_from i s n)
unfolding up_from flat_map
are_from i zero n = tt
are_from i (suc s) n = all_append (IsFrom i (suc s) n) (sets_of i n) (sets_from (suc i) s n)
    (all_map (IsSet n i) _ (sets_of i n) (λ W h. record {
      set = rw h.many h;
      least = omega (arith, h.many);
      most = omega (arith, h.many);
    }) (sets_are i n))
    (all_map (IsFrom (suc i) s n) _ (sets_from (suc i) s n) (λ W h. record {
      set = h.set;
      least = omega (arith, h.least);
      most = omega (arith, h.most);
    }) (are_from (suc i) s n))

pub all_from : (i s n : ℕ) (W : List ℕ) → IsFrom i s n W → Mem W (sets_from i s n)
unfolding up_from flat_map
all_from i zero n W h = absurd (omega (arith, h.least, h.most))
all_from i (suc s) n W h = go (ℕ_discrete (total W) i) (all_from (suc i) s n W)
  where
    go : Dec (total W ≡ i) → (IsFrom (suc i) s n W → Mem W (sets_from (suc i) s n)) → Mem W (sets_of i n ++ sets_from (suc i) s n)
    go (yes e) later = mem_left W (sets_of i n) (sets_from (suc i) s n) (sets_all i n W h.set.sized h.set.flags e)
    go (no e) later = mem_right W (sets_of i n) (sets_from (suc i) s n)
        (later (record { set = h.set; least = omega (arith, h.least); most = omega (arith, h.most) }))

-- ---- their order

module _ {A : Type 0} (R : A → A → Type 0) where
  abbrev pub Sorted : List A → Type 0
  Sorted [] = Unit {0}
  Sorted (a ∷ l) = All (R a) l × Sorted l

  sorted_append : (l k : List A) → Sorted l → Sorted k → All (λ (a : A). All (R a) k) l → Sorted (l ++ k)
  sorted_append [] k s r h = r
  sorted_append (a ∷ l) k s r h = (all_append (R a) l k s.0 h.0, sorted_append l k s.1 r h.1)

-- the numbers of the columns, from i on
unfoldable pub numbers_from : ℕ → List ℕ → List ℕ
numbers_from i [] = []
numbers_from i (zero ∷ W) = numbers_from (suc i) W
numbers_from i (suc f ∷ W) = i ∷ numbers_from (suc i) W

-- one list of numbers comes before another in the dictionary
abbrev pub Before : List ℕ → List ℕ → Type 0
Before l [] = ⊥
Before [] (b ∷ k) = Unit {0}
Before (a ∷ l) (b ∷ k) = (a < b) ⊎ ((a ≡ b) × Before l k)

abbrev BeforeFrom : ℕ → List ℕ → List ℕ → Type 0
BeforeFrom i W U = Before (numbers_from i W) (numbers_from i U)

abbrev pub Earlier : List ℕ → List ℕ → Type 0
Earlier W U = (total W < total U) ⊎ ((total W ≡ total U) × BeforeFrom 0 W U)

-- a first column before all others
first_before : (i j : ℕ) (l U : List ℕ) → i < j → 1 ≤ total U → Before (i ∷ l) (numbers_from j U)
unfolding numbers_from total
first_before i j l [] q h = absurd (omega arith)
first_before i j l (zero ∷ U) q h = first_before i (suc j) l U (omega arith) (omega arith)
first_before i j l (suc f ∷ U) q h = inl q

with_first : (i : ℕ) (l : List (List ℕ)) → Sorted (BeforeFrom (suc i)) l → Sorted (BeforeFrom i) (map (◌∷◌ 1) l)
unfolding numbers_from
with_first i [] s = tt
with_first i (W ∷ l) s =
    (all_mapped _ (◌∷◌ 1) l (all_map (BeforeFrom (suc i) W) _ l (λ U b. inr (refl, b)) s.0), with_first i l s.1)

without_first : (i : ℕ) (l : List (List ℕ)) → Sorted (BeforeFrom (suc i)) l → Sorted (BeforeFrom i) (map (◌∷◌ 0) l)
unfolding numbers_from
without_first i [] s = tt
without_first i (W ∷ l) s = (all_mapped _ (◌∷◌ 0) l s.0, without_first i l s.1)

-- sets with the first column come before those without it
apart : (i t n : ℕ) → All (λ (W : List ℕ). All (BeforeFrom i W) (map (◌∷◌ 0) (sets_of (suc t) n))) (map (◌∷◌ 1) (sets_of t n))
unfolding numbers_from
apart i t n = all_mapped _ (◌∷◌ 1) (sets_of t n)
    (all_map (IsSet n t) _ (sets_of t n)
    (λ W h. all_mapped _ (◌∷◌ 0) (sets_of (suc t) n) (all_map (IsSet n (suc t)) _ (sets_of (suc t) n)
    (λ U u. first_before i (suc i) (numbers_from (suc i) W) U (omega arith) (omega (arith, u.many))) (sets_are (suc t) n)))
    (sets_are t n))

dictionary : (i t n : ℕ) → Sorted (BeforeFrom i) (sets_of t n)
unfolding sets_of
dictionary i zero n = (tt, tt)
dictionary i (suc t) zero = tt
dictionary i (suc t) (suc n) = sorted_append (BeforeFrom i) (map (◌∷◌ 1) (sets_of t n)) (map (◌∷◌ 0) (sets_of (suc t) n))
    (with_first i (sets_of t n) (dictionary (suc i) t n)) (without_first i (sets_of (suc t) n) (dictionary (suc i) (suc t) n)) (apart i t n)

one_size : (t : ℕ) (l : List (List ℕ)) → All (λ (W : List ℕ). total W ≡ t) l → Sorted (BeforeFrom 0) l → Sorted Earlier l
one_size t [] h s = tt
one_size t (W ∷ l) h s = (go l h.1 s.0, one_size t l h.1 s.1)
  where
    go : (k : List (List ℕ)) → All (λ (U : List ℕ). total U ≡ t) k → All (BeforeFrom 0 W) k → All (Earlier W) k
    go [] g b = tt
    go (U ∷ k) g b = (inr (omega (arith, h.0, g.0), b.0), go k g.1 b.1)

in-order-from : (i s n : ℕ) → Sorted Earlier (sets_from i s n)
unfolding up_from flat_map
in-order-from i zero n = tt
in-order-from i (suc s) n = sorted_append Earlier (sets_of i n) (sets_from (suc i) s n)
    (one_size i (sets_of i n) (all_map (IsSet n i) _ (sets_of i n) (λ W h. h.many) (sets_are i n)) (dictionary 0 i n))
    (in-order-from (suc i) s n)
    (all_map (IsSet n i) _ (sets_of i n)
    (λ W h. all_map (IsFrom (suc i) s n) _ (sets_from (suc i) s n) (λ U u. inl (omega (arith, h.many, u.least))) (are_from (suc i) s n))
    (sets_are i n))

pub in_order : (τ n : ℕ) → Sorted Earlier (sets τ n)
in_order τ n = in-order-from 0 (suc τ) n

before_not : (l : List ℕ) → ¬ Before l l
before_not [] b = b
before_not (a ∷ l) (inl q) = omega arith
before_not (a ∷ l) (inr (e, b)) = before_not l b

-- no set is earlier than itself
pub earlier_not : (W : List ℕ) → ¬ Earlier W W
earlier_not W (inl q) = omega arith
earlier_not W (inr (e, b)) = before_not (numbers_from 0 W) b
