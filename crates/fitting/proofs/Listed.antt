-- What a list of the arrays that fit has.
--
--   turns_append        what comes in turn for sets and then for others
--   turns_unique        the sets decide what comes
--   turns_all, turns_only    what fits at one of the sets comes, and what comes fits at one
--   turns_sorted        what comes in turn for sets in an order is in that order
--
-- Of the arrays that fit within τ columns of y:
--   lists_all           'It lists every code array within τ columns'
--   lists_only          and nothing else
--   in-turn             'smaller sets first and, among equal sizes, in dictionary order of their column numbers'
--   each_once           'each once'
--   list_unique         they are decided
-- Assumes nothing.
use mathlib.Core.Path.{◌≡◌, refl, sym, ap₂, subst}
use mathlib.Core.Logic.{inl, inr}
use mathlib.Core.Bool.{Bool, true, false}
use mathlib.Core.List.{List, [], ◌∷◌, ◌++◌}
use Prim.Native.Nat.{ℕ, zero, suc, ◌≤◌, ◌<◌}
use native.Mathlib.Omega.{arith}
use Rattle.poly.specs.Poly.{All}
use Rattle.poly.proofs.Roots.{Mem, Distinct}
use Rattle.codes.specs.Code.{columns, differs_at, flag, flags_from, flags_of, wrong_count}
use Rattle.codes.specs.Factors.{Description, CodeArrayBy}
use Rattle.codes.proofs.Flags.{flags-length}
use Rattle.fitting.specs.Fitting.{InTurn, Fitting}
use Rattle.fitting.proofs.Sets.{IsFrom, are_from, all_from, Sorted, Earlier, in_order, earlier_not}

module _ {Fit : List ℕ → List ℕ → Type 0} where
  pub turns_append : {Ws Us l k : List (List ℕ)} → InTurn Fit Ws l → InTurn Fit Us k → InTurn Fit (Ws ++ Us) (l ++ k)
  turns_append InTurn.end s = s
  turns_append (InTurn.one f o r) s = InTurn.one f o (turns_append r s)
  turns_append (InTurn.none n r) s = InTurn.none n (turns_append r s)

  pub turns_unique : {Ws l k : List (List ℕ)} → InTurn Fit Ws l → InTurn Fit Ws k → l ≡ k
  turns_unique InTurn.end InTurn.end = refl
  turns_unique (InTurn.one f o r) (InTurn.one g p s) = ap₂ ◌∷◌ (p _ f) (turns_unique r s)
  turns_unique (InTurn.one f o r) (InTurn.none n s) = absurd (n _ f)
  turns_unique (InTurn.none n r) (InTurn.one g p s) = absurd (n _ g)
  turns_unique (InTurn.none n r) (InTurn.none m s) = turns_unique r s

  pub turns_all : {Ws l : List (List ℕ)} (W a : List ℕ) → InTurn Fit Ws l → Mem W Ws → Fit W a → Mem a l
  turns_all W a InTurn.end m g = absurd m
  turns_all W a (InTurn.one f o r) (inl e) g = inl (o a (subst (λ (U : List ℕ). Fit U a) e g))
  turns_all W a (InTurn.one f o r) (inr m) g = inr (turns_all W a r m g)
  turns_all W a (InTurn.none n r) (inl e) g = absurd (n a (subst (λ (U : List ℕ). Fit U a) e g))
  turns_all W a (InTurn.none n r) (inr m) g = turns_all W a r m g

  -- what follows from fitting at a set that has P
  pub turns_only : {Ws l : List (List ℕ)} (P : List ℕ → Type 0) (Q : List ℕ → Type 0) → ((W a : List ℕ) → P W → Fit W a → Q a)
      → InTurn Fit Ws l → All P Ws → All Q l
  turns_only P Q h InTurn.end p = tt
  turns_only P Q h (InTurn.one {W} {a} f o r) p = (h W a p.0 f, turns_only P Q h r p.1)
  turns_only P Q h (InTurn.none n r) p = turns_only P Q h r p.1

  -- the set at which an array fits is its place
  pub turns_sorted : {Ws l : List (List ℕ)} (R : List ℕ → List ℕ → Type 0) (place : List ℕ → List ℕ)
      → ((W a : List ℕ) → Fit W a → place a ≡ W) → InTurn Fit Ws l → Sorted R Ws → Sorted (λ (a b : List ℕ). R (place a) (place b)) l
  turns_sorted R place is InTurn.end s = tt
  turns_sorted R place is (InTurn.one {W} {a} f o r) s = (
    turns_only (R W) (λ (b : List ℕ). R (place a) (place b))
        (λ U b q g. subst (λ (X : List ℕ). R X (place b)) (sym (is W a f)) (subst (R W) (sym (is U b g)) q)) r s.0,
    turns_sorted R place is r s.1,
  )
  turns_sorted R place is (InTurn.none n r) s = turns_sorted R place is r s.1

pub small_flags : (f : ℕ → Bool) (i n : ℕ) → All (λ (g : ℕ). g < 2) (flags_from f i n)
unfolding flags_from
small_flags f i zero = tt
small_flags f i (suc n) = (small (f i), small_flags f (suc i) n)
  where
    small : (b : Bool) → flag b < 2
    small true = omega arith
    small false = omega arith

module _ (D : Description) (τ : ℕ) (y : List ℕ) (l : List (List ℕ)) (h : Fitting D τ y l) where
  -- the place of an array
  abbrev place : List ℕ → List ℕ
  place a = flags_of D.code y a

  abbrev count : List ℕ → ℕ
  count a = wrong_count D.code y a

  pub lists_all : (a : List ℕ) → CodeArrayBy D a → count a ≤ τ → Mem a l
  lists_all a c q = turns_all (place a) a h
      (all_from 0 (suc τ) (columns D.code) (place a) (record {
        set = record {
          sized = flags-length (differs_at D.code y a) 0 (columns D.code);
          flags = small_flags (differs_at D.code y a) 0 (columns D.code);
          many = refl;
        };
        least = omega arith;
        most = omega arith;
      }))
      (record { code = c; wrong = refl })

  pub lists_only : All (λ (a : List ℕ). CodeArrayBy D a × (count a ≤ τ)) l
  lists_only = turns_only (IsFrom 0 (suc τ) (columns D.code)) _
      (λ W a w f. (f.code, rw f.wrong (omega (arith, w.most)))) h (are_from 0 (suc τ) (columns D.code))

  pub in-turn : Sorted (λ (a b : List ℕ). Earlier (place a) (place b)) l
  in-turn = turns_sorted Earlier place (λ W a f. f.wrong) h (in_order τ (columns D.code))

  pub each_once : Distinct l
  each_once = go l in-turn
    where
      absent : (a : List ℕ) (k : List (List ℕ)) → All (λ (b : List ℕ). Earlier (place a) (place b)) k → ¬ Mem a k
      absent a [] r x'' = elim x'' [ ]
      absent a (b ∷ k) r (inl e) =
          earlier_not (place a) (subst (λ (c : List ℕ). Earlier (place a) (place c)) (sym e) r.0)
      absent a (b ∷ k) r (inr m) = absent a k r.1 m

      go : (k : List (List ℕ)) → Sorted (λ (a b : List ℕ). Earlier (place a) (place b)) k → Distinct k
      go [] s = tt
      go (a ∷ k) s = (absent a k s.0, go k s.1)

pub list_unique : (D : Description) (τ : ℕ) (y : List ℕ) (l k : List (List ℕ)) → Fitting D τ y l → Fitting D τ y k → l ≡ k
list_unique D τ y l k p q = turns_unique p q
