-- Facts that hold of all, or of one, of the entries of a list; and the scan of a list for a pivot, and what it finds.
--
--   All P l     P holds of every entry (of poly's specs)
--   Any P l     P holds of some entry
--   IfFound P o   P holds of what o holds, if anything
--   all_map     from all of es to all of map f es; all_of_map, back
--   better best e     the better of the best so far and e
--   lowest best es    the best of all of es and of what was best before
--   NoBetter o e     e is no better than o: it passes the test, or its lead is not lower
--   none_found     where nothing is found, all pass
--   found_lowest   what is lower than what is found passes
--   found          what is found has what all the elements have, and fails the test
-- Assumes nothing.
use mathlib.Core.List.{List, [], ◌∷◌, ◌++◌, map}
use mathlib.Core.Logic.{◌⊎◌, inl, inr}
use mathlib.Core.Option.{Option, none, some}
use mathlib.Core.Path.{◌≡◌}
use Prim.Native.Nat.{ℕ, ◌<◌}
use native.Mathlib.Decide.{dec_lt}
use native.Mathlib.Omega.{arith}
use Rattle.poly.specs.Poly.{All}

-- ---- Facts that hold of all, or of one, of the entries of a list.

module _ {L : Type 0} where
  abbrev pub Any : (L → Type 0) → List L → Type 0
  Any P [] = ⊥
  Any P (e ∷ es) = P e ⊎ Any P es

  abbrev pub IfFound : (L → Type 0) → Option L → Type 0
  IfFound P none = Unit {0}
  IfFound P (some e) = P e

module _ {L : Type 0} (P : L → Type 0) where
  pub all_each : ((e : L) → P e) → (es : List L) → All P es
  all_each h [] = tt
  all_each h (e ∷ es) = (h e, all_each h es)

  pub all_append : (es fs : List L) → All P es → All P fs → All P (es ++ fs)
  all_append [] fs p q = q
  all_append (e ∷ es) fs p q = (p.0, all_append es fs p.1 q)

  pub all_left : (es fs : List L) → All P (es ++ fs) → All P es
  all_left [] fs p = tt
  all_left (e ∷ es) fs p = (p.0, all_left es fs p.1)

  pub all_right : (es fs : List L) → All P (es ++ fs) → All P fs
  all_right [] fs p = p
  all_right (e ∷ es) fs p = all_right es fs p.1

module _ {L : Type 0} (P : L → Type 0) (Q : L → Type 0) where
  pub all_both : (es : List L) → All P es → All Q es → All (λ (e : L). P e × Q e) es
  all_both [] p q = tt
  all_both (e ∷ es) p q = ((p.0, q.0), all_both es p.1 q.1)

  pub any_all : (es : List L) → All P es → Any Q es → (e : L) × (P e × Q e)
  any_all [] p q = absurd q
  any_all (e ∷ es) p (inl q) = (e, (p.0, q))
  any_all (e ∷ es) p (inr q) = any_all es p.1 q

  pub all_weaken : ((e : L) → P e → Q e) → (es : List L) → All P es → All Q es
  all_weaken h [] p = tt
  all_weaken h (e ∷ es) p = (h e p.0, all_weaken h es p.1)

module _ {L M : Type 0} (P : L → Type 0) (Q : M → Type 0) (f : L → M) (h : (e : L) → P e → Q (f e)) where
  pub all_map : (es : List L) → All P es → All Q (map f es)
  all_map [] p = tt
  all_map (e ∷ es) p = (h e p.0, all_map es p.1)

  pub any_map : (es : List L) → Any P es → Any Q (map f es)
  any_map [] p = p
  any_map (e ∷ es) (inl p) = inl (h e p)
  any_map (e ∷ es) (inr p) = inr (any_map es p)

module _ {L M : Type 0} (Q : M → Type 0) (f : L → M) where
  pub all_of_map : (es : List L) → All Q (map f es) → All (λ (e : L). Q (f e)) es
  all_of_map [] q = tt
  all_of_map (e ∷ es) q = (q.0, all_of_map es q.1)

-- ---- The scan for a pivot: of the elements that fail a test, the first of lowest lead.

module _ {L : Type 0} (lead : L → ℕ) {P : L → Type 0} (test : (e : L) → Dec (P e)) where
  unfoldable pub lower : (p e : L) → Dec (lead e < lead p) → L
  lower p e (yes h) = e
  lower p e (no h) = p

  unfoldable pub better : Option L → (e : L) → Dec (P e) → Option L
  better best e (yes h) = best
  better none e (no h) = some e
  better (some p) e (no h) = some (lower p e (dec_lt (lead e) (lead p)))

  unfoldable pub lowest : Option L → List L → Option L
  lowest best [] = best
  lowest best (e ∷ es) = lowest (better best e (test e)) es

-- ---- What the scan for a pivot finds: nothing lower fails the test, and what it finds fails it.

module _ {L : Type 0} (lead : L → ℕ) (P : L → Type 0) where
  abbrev pub NoBetter : Option L → L → Type 0
  NoBetter none e = P e
  NoBetter (some p) e = lead e < lead p → P e

module _ {L : Type 0} (lead : L → ℕ) (P : L → Type 0) (test : (e : L) → Dec (P e)) where
  lower_passed : (p e f : L) (d : Dec (lead e < lead p)) → (lead f < lead p → P f) → lead f < lead (lower lead test p e d) → P f
  unfolding lower
  lower_passed p e f (yes lt) h l = h (omega arith)
  lower_passed p e f (no ge) h l = h l

  better_passed : (best : Option L) (e f : L) (d : Dec (P e)) → NoBetter lead P best f → NoBetter lead P (better lead test best e d) f
  unfolding better
  better_passed best e f (yes h) pf = pf
  better_passed none e f (no h) pf = λ _. pf
  better_passed (some p) e f (no h) pf = lower_passed p e f (dec_lt (lead e) (lead p)) pf

  lower_self : (p e : L) (d : Dec (lead e < lead p)) → lead e < lead (lower lead test p e d) → ⊥
  unfolding lower
  lower_self p e (yes lt) l = omega arith
  lower_self p e (no ge) l = ge l

  better_self : (best : Option L) (e : L) (d : Dec (P e)) → NoBetter lead P (better lead test best e d) e
  unfolding better
  better_self none e (yes h) = h
  better_self (some p) e (yes h) = λ _. h
  better_self none e (no h) = λ l. absurd (omega arith)
  better_self (some p) e (no h) = λ l. absurd (lower_self p e (dec_lt (lead e) (lead p)) l)

  lowest_keeps : (es : List L) (best : Option L) (f : L) → NoBetter lead P best f → NoBetter lead P (lowest lead test best es) f
  unfolding lowest
  lowest_keeps [] best f h = h
  lowest_keeps (e ∷ es) best f h = lowest_keeps es (better lead test best e (test e)) f (better_passed best e f (test e) h)

  -- no element is better than what the scan finds
  pub lowest_passed : (es : List L) (best : Option L) → All (NoBetter lead P (lowest lead test best es)) es
  unfolding lowest
  lowest_passed [] best = tt
  lowest_passed (e ∷ es) best =
      let next : Option L = better lead test best e (test e) in
      (lowest_keeps es next e (better_self best e (test e)), lowest_passed es next)

  module _ (Q : L → Type 0) where
    -- an element with Q that fails the test
    abbrev Fails : L → Type 0
    Fails e = Q e × (P e → ⊥)

    lower_fails : (p e : L) (d : Dec (lead e < lead p)) → Fails p → Fails e → Fails (lower lead test p e d)
    unfolding lower
    lower_fails p e (yes lt) hp he = he
    lower_fails p e (no ge) hp he = hp

    better_fails : (best : Option L) (e : L) (d : Dec (P e)) → IfFound Fails best → Q e → IfFound Fails (better lead test best e d)
    unfolding better
    better_fails best e (yes h) hb q = hb
    better_fails none e (no h) hb q = (q, h)
    better_fails (some p) e (no h) hb q = lower_fails p e (dec_lt (lead e) (lead p)) hb (q, h)

    -- what the scan finds is one of the elements, and fails the test
    pub lowest_fails : (es : List L) (best : Option L) → IfFound Fails best → All Q es → IfFound Fails (lowest lead test best es)
    unfolding lowest
    lowest_fails [] best hb q = hb
    lowest_fails (e ∷ es) best hb q =
        lowest_fails es (better lead test best e (test e)) (better_fails best e (test e) hb q.0) q.1

module _ {L : Type 0} (lead : L → ℕ) (P : L → Type 0) (test : (e : L) → Dec (P e)) (es : List L) where
  pub none_found : lowest lead test none es ≡ none → All P es
  none_found e = rw e at (lowest_passed lead P test es none)

  pub found_lowest : (g : L) → lowest lead test none es ≡ some g → All (λ (e : L). lead e < lead g → P e) es
  found_lowest g e = rw e at (lowest_passed lead P test es none)

  pub found : (Q : L → Type 0) → All Q es → (g : L) → lowest lead test none es ≡ some g → Q g × (P g → ⊥)
  found Q q g e = rw e at (lowest_fails lead P test Q es none tt q)
