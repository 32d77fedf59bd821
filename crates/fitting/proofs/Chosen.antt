-- Choosing the next column of a set, or not: what the recursion over the next column to choose goes by.
--
--   under_none          sets behind no column
--   set_here            a set to which no column is to be added is tried
--   no_column           without a column left no set goes on
--   with_next, without_next    the sets that have the next column, and those that do not, are chosen in their turn
--   both_turns          and together they are all that go on
-- Assumes nothing.
use mathlib.Core.Path.{◌≡◌, refl, sym, ap, ap₂, ◌∙◌, subst}
use mathlib.Core.List.{List, [], ◌∷◌, ◌++◌, map, map-append}
use Prim.Native.Nat.{ℕ, zero, suc, ◌+◌, ◌-◌, ◌≤◌, ◌<◌}
use native.Mathlib.Numerals.{add-one}
use native.Mathlib.Omega.{arith}
use lib.ListN.{length, get_or, take, drop, set, replicate, length-set, length-map, get_or-replicate}
use lib.Seq.{take-add, take-suc, take-suc-set, append_snoc, drop-drop, drop-set-lt, get_or-drop, length-take-le}
use Rattle.poly.specs.Poly.{All}
use Rattle.codes.specs.Code.{columns, total}
use Rattle.codes.specs.Factors.{Description, multiplied}
use Rattle.codes.proofs.Parts.{all_take, take-replicate}
use Rattle.fitting.specs.Fitting.{sets_of, FitsAt, InTurn}
use Rattle.fitting.specs.Working.{Trying, Turned, under, Choosing}
use Rattle.fitting.proofs.Sets.{next_count}
use Rattle.fitting.proofs.Placed.{placed_none, turned-append}

total-take : (n : ℕ) (W : List ℕ) → total (take n W) ≤ total W
unfolding total
total-take zero W = omega arith
total-take (suc n) [] = omega arith
total-take (suc n) (f ∷ W) = omega (arith, total-take n W)

total-set : (W : List ℕ) (i : ℕ) → i < length W → total (set W i 1) + get_or W i 0 ≡ total W + 1
unfolding total
total-set [] i q = absurd (omega arith)
total-set (f ∷ W) zero q = omega arith
total-set (f ∷ W) (suc i) q = omega (arith, total-set W i (omega arith))

all_set : (P : ℕ → Type 0) (W : List ℕ) (i a : ℕ) → P a → All P W → All P (set W i a)
all_set P [] i a p h = tt
all_set P (f ∷ W) zero a p h = (p, h.1)
all_set P (f ∷ W) (suc i) a p h = (h.0, all_set P W i a p h.1)

under_next : (p : List ℕ) (f : ℕ) (l : List (List ℕ)) → map (◌++◌ p) (map (◌∷◌ f) l) ≡ under (p ++ (f ∷ [])) l
under_next p f [] = refl
under_next p f (W ∷ l) = ap₂ ◌∷◌ (sym (append_snoc p f W)) (under_next p f l)

pub under_none : (l : List (List ℕ)) → under [] l ≡ l
under_none [] = refl
under_none (W ∷ l) = ap (◌∷◌ W) (under_none l)

next_sets : (p : List ℕ) (more left : ℕ) → ¬ (more ≡ 0) → 0 < left
    → under p (sets_of more left) ≡ under (p ++ (1 ∷ [])) (sets_of (more - 1) (left - 1)) ++ under (p ++ (0 ∷ [])) (sets_of more (left - 1))
unfolding sets_of
next_sets p zero left n q = absurd (n refl)
next_sets p (suc t) zero n q = absurd (omega arith)
next_sets p (suc t) (suc m) n q =
    let e : suc t - 1 ≡ t = omega arith in
    let k : suc m - 1 ≡ m = omega arith in
    rw (e, k) (map-append _ (map (◌∷◌ 1) (sets_of t m)) (map (◌∷◌ 0) (sets_of (suc t) m))
    ∙ ap₂ ◌++◌ (under_next p 1 (sets_of t m)) (under_next p 0 (sets_of (suc t) m)))

next_number : (more left : ℕ) → ¬ (more ≡ 0) → 0 < left
    → length (sets_of more left) ≡ length (sets_of (more - 1) (left - 1)) + length (sets_of more (left - 1))
next_number zero left n q = absurd (n refl)
next_number (suc t) zero n q = absurd (omega arith)
next_number (suc t) (suc m) n q =
    let e : suc t - 1 ≡ t = omega arith in
    let k : suc m - 1 ≡ m = omega arith in
    rw (e, k) (next_count t m)

no_sets : (p : List ℕ) (more left : ℕ) → ¬ (more ≡ 0) → left ≡ 0 → [] ≡ under p (sets_of more left)
unfolding sets_of
no_sets p zero left n e = absurd (n refl)
no_sets p (suc t) zero n e = refl
no_sets p (suc t) (suc m) n e = absurd (omega arith)

last_set : (p : List ℕ) (more left : ℕ) → more ≡ 0 → (p ++ replicate left 0) ∷ [] ≡ under p (sets_of more left)
unfolding sets_of
last_set p zero left e = refl
last_set p (suc t) left e = absurd (omega arith)

module _ {D : Description} {z W : List ℕ} {i more count : ℕ} (h : Choosing D z W i more count) where
  abbrev n : ℕ
  n = columns D.code

  -- the sets that are tried
  abbrev go_on : List (List ℕ)
  go_on = under (take i W) (sets_of more (n - i))

  module _ (none : more ≡ 0) where
    pub set_here : Trying D z (take n W) count
    set_here = record {
      quotient = h.quotient;
      set = record {
        sized = length-take-le n W (omega (arith, h.few, h.set.sized));
        small = all_take (λ (f : ℕ). f < 2) n W h.set.small;
      };
      room = omega (arith, total-take n W, h.room);
      before = omega (
        arith,
        h.before,
        ap length (sym (last_set (take i W) more (n - i) none)),
        length-map (sets_of more (n - i)) (◌++◌ (take i W)),
      );
    }

    pub last_turn : take n W ∷ [] ≡ go_on
    last_turn =
        let e : n ≡ i + (n - i) = omega (arith, h.next) in
        ap (λ (W : List ℕ). W ∷ [])
        (ap (λ (m : ℕ). take m W) e ∙ take-add i (n - i) W
        ∙ ap (λ (l : List ℕ). take i W ++ l)
        (ap (take (n - i)) h.rest ∙ take-replicate (n - i) (16 - i) 0 (omega (arith, h.few))))
        ∙ last_set (take i W) more (n - i) none

  module _ (some : ¬ (more ≡ 0)) where
    pub no_column : i ≡ n → (room : List ℕ) → Turned D z go_on count room count room
    no_column e room = record {
      arrays = [];
      turns = subst (λ (l : List (List ℕ)). InTurn (FitsAt D (multiplied D z)) l []) (no_sets (take i W) more (n - i) some (omega arith))
          InTurn.end;
      total = omega arith;
      left = sym (placed_none count room);
    }

    module _ (q : i < n) where
      below : i < length W
      below = omega (arith, h.few, h.set.sized)

      here : get_or W i 0 ≡ 0
      here = ap (λ (j : ℕ). get_or W j 0) (omega arith) ∙ sym (get_or-drop i W 0 0) ∙ ap (λ (l : List ℕ). get_or l 0 0) h.rest
          ∙ get_or-replicate (16 - i) 0 0 0 (omega (arith, h.few))

      rest : drop (i + 1) W ≡ replicate (16 - (i + 1)) 0
      rest = sym (drop-drop 1 i W) ∙ ap (drop 1) h.rest ∙ fewer (16 - i) (16 - (i + 1)) (omega (arith, h.few))
        where
          fewer : (m k : ℕ) → m ≡ suc k → drop {A = ℕ} 1 (replicate m 0) ≡ replicate k 0
          fewer zero k e = absurd (omega arith)
          fewer (suc m) k e = let same : m ≡ k = omega arith in ap (λ (j : ℕ). replicate j 0) same

      -- one column fewer is left
      fewer_left : n - i - 1 ≡ n - (i + 1)
      fewer_left = omega arith

      number : length (sets_of more (n - i)) ≡ length (sets_of (more - 1) (n - (i + 1))) + length (sets_of more (n - (i + 1)))
      number = rw fewer_left at (next_number more (n - i) some (omega arith))

      pub with_next : Choosing D z (set W i 1) (i + 1) (more - 1) count
      with_next = record {
        quotient = h.quotient;
        few = h.few;
        set = record {
          sized = length-set W i 1 ∙ h.set.sized;
          small = all_set (λ (f : ℕ). f < 2) W i 1 (omega arith) h.set.small;
        };
        next = omega arith;
        rest = drop-set-lt (i + 1) W i 1 (omega arith) ∙ rest;
        room = omega (arith, total-set W i below, here, h.room);
        before = omega (arith, number, h.before);
      }

      pub without_next : {r : ℕ} → r ≤ count + length (under (take (i + 1) (set W i 1)) (sets_of (more - 1) (n - (i + 1))))
          → Choosing D z W (i + 1) more r
      without_next {r} f = record {
        quotient = h.quotient;
        few = h.few;
        set = h.set;
        next = omega arith;
        rest = rest;
        room = h.room;
        before = omega (
          arith,
          number,
          h.before,
          length-map (sets_of (more - 1) (n - (i + 1))) (◌++◌ (take (i + 1) (set W i 1))),
        );
      }

      pub both_turns : {r s : ℕ} {room room' room'' : List ℕ}
          → Turned D z (under (take (i + 1) (set W i 1)) (sets_of (more - 1) (n - (i + 1)))) count room r room'
          → Turned D z (under (take (i + 1) W) (sets_of more (n - (i + 1)))) r room' s room'' → Turned D z go_on count room s room''
      both_turns {r} {s} {room} {room'} {room''} a b =
          let one : take (i + 1) (set W i 1) ≡ take i W ++ (1 ∷ []) = rw add-one (take-suc-set W i 1 below) in
          let two : take (i + 1) W ≡ take i W ++ (0 ∷ []) = rw (add-one, ← here) (take-suc W i 0 below) in
          subst (λ (l : List (List ℕ)). Turned D z l count room s room'')
          (ap₂ (λ (p k : List ℕ). under p (sets_of (more - 1) (n - (i + 1))) ++ under k (sets_of more (n - (i + 1)))) one two
          ∙ sym (rw fewer_left at (next_sets (take i W) more (n - i) some (omega arith))))
          (turned-append a b)
