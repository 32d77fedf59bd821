-- How a ladder of checks goes on, and how ladders are put together.
--
--   hit, miss             the first check applies, or the rest decides; miss_last, there is no rest
--   clear                 where no check applies, the first does not, and no other
--   Numbered cs           no check of cs has the number 0
--   stopped, passed_on    over cs ++ ds the first check of cs that applies decides; where none does, ds decides
--   front_passed          where no check of cs ++ ds applies, none of cs does
--   same_behind           checks behind cs can be exchanged for others that decide alike where cs pass
--   upto m cs             whether the numbers of the checks are at most m; first_upto, so is then that of the first that applies
-- Assumes nothing.
use mathlib.Core.Path.{◌≡◌, refl, sym}
use mathlib.Core.Bool.{Bool, true, false, ◌&&◌, true≢false}
use mathlib.Core.List.{List, [], ◌∷◌, ◌++◌}
use Prim.Native.Nat.{ℕ, zero, suc, ◌≤◌}
use native.Mathlib.Omega.{arith}
use lib.Dec.{leb}
use borrow.Author.Tests.{leb-true}
use Rattle.refusal.specs.Refusal.{Check, ◌when◌, first}

pub hit : (k : ℕ) (b : Bool) (cs : List Check) → b ≡ true → first ((k when b) ∷ cs) ≡ k
unfolding first
hit k b cs e = rw e

pub miss : (k : ℕ) (b : Bool) (cs : List Check) → b ≡ false → first ((k when b) ∷ cs) ≡ first cs
unfolding first
miss k b cs e = rw e

pub miss_last : (k : ℕ) (b : Bool) → b ≡ false → first ((k when b) ∷ []) ≡ 0
unfolding first
miss_last k b e = rw e

pub clear : (k : ℕ) (b : Bool) (cs : List Check) → 0 ≡ first ((suc k when b) ∷ cs) → (b ≡ false) × (0 ≡ first cs)
unfolding first
clear k true cs h = absurd (omega arith)
clear k false cs h = (refl, h)

abbrev pub Numbered : List Check → Type 0
Numbered [] = Unit {0}
Numbered ((zero when b) ∷ cs) = ⊥
Numbered ((suc k when b) ∷ cs) = Numbered cs

pub stopped : (cs ds : List Check) {k : ℕ} → k ≡ first cs → (k ≡ 0 → ⊥) → k ≡ first (cs ++ ds)
unfolding first
stopped [] ds e n = absurd (n e)
stopped ((k when true) ∷ cs) ds e n = e
stopped ((k when false) ∷ cs) ds e n = stopped cs ds e n

pub passed_on : (cs ds : List Check) {k : ℕ} → Numbered cs → k ≡ first cs → k ≡ 0 → first (cs ++ ds) ≡ first ds
unfolding first
passed_on [] ds h e z = refl
passed_on ((zero when b) ∷ cs) ds h e z = absurd h
passed_on ((suc k when true) ∷ cs) ds h e z = absurd (omega arith)
passed_on ((suc k when false) ∷ cs) ds h e z = passed_on cs ds h e z

pub front_passed : (cs ds : List Check) → Numbered cs → 0 ≡ first (cs ++ ds) → 0 ≡ first cs
unfolding first
front_passed [] ds h e = refl
front_passed ((zero when b) ∷ cs) ds h e = absurd h
front_passed ((suc k when true) ∷ cs) ds h e = absurd (omega arith)
front_passed ((suc k when false) ∷ cs) ds h e = front_passed cs ds h e

pub same_behind : (cs ds es : List Check) → Numbered cs → (0 ≡ first cs → first ds ≡ first es) → first (cs ++ ds) ≡ first (cs ++ es)
unfolding first
same_behind [] ds es h e = e refl
same_behind ((zero when b) ∷ cs) ds es h e = absurd h
same_behind ((suc k when true) ∷ cs) ds es h e = refl
same_behind ((suc k when false) ∷ cs) ds es h e = same_behind cs ds es h e

abbrev pub upto : ℕ → List Check → Bool
upto m [] = true
upto m ((k when b) ∷ cs) = leb k m && upto m cs

pub both : (a b : Bool) → (a && b) ≡ true → (a ≡ true) × (b ≡ true)
both true b e = (refl, e)
both false b e = absurd (true≢false (sym e))

pub first_upto : (m : ℕ) (cs : List Check) → upto m cs ≡ true → first cs ≤ m
unfolding first
first_upto m [] u = omega arith
first_upto m ((k when true) ∷ cs) u = leb-true k m (both (leb k m) (upto m cs) u).0
first_upto m ((k when false) ∷ cs) u = first_upto m cs (both (leb k m) (upto m cs) u).1
