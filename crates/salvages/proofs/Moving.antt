-- The bytes that are left, moved and stepped over.
--
--   moved          those put aside and back stand at the front, before those that are read
--   steps_kept, steps_skipped    what `salvage::next` finds is the piece at the front
--   due from got   a turn more, where bytes are to be read; due_most, due_now, due_no_more, few_left, what of that
-- Assumes nothing.
use mathlib.Core.Path.{◌≡◌, refl, sym, ap, ◌∙◌}
use mathlib.Core.Bool.{Bool, true, false, cond, ◌&&◌}
use mathlib.Core.List.{List, ◌++◌}
use Prim.Native.Nat.{ℕ, ◌+◌, ◌-◌, ◌≤◌}
use native.Mathlib.Omega.{arith}
use lib.Dec.{eqb, ltb}
use lib.ListN.{length, take, drop, replicate, length-append, length-drop}
use lib.Seq.{length-take-le, take_at}
use borrow.Author.Tests.{ltb-true}
use Rattle.patch.specs.Parts.{part, lay}
use Rattle.patch.proofs.Parts.{take-lay}
use Rattle.salvage.specs.Pieces.{kept}
use Rattle.salvage.specs.Promises.{Finds, Rooms}
use Rattle.salvage.specs.Working.{Advances}
use Rattle.salvage.specs.declared.Found.TheVariants.{Kept, Skipped}
use Rattle.salvage.proofs.Writing.{found-kept, found_skipped}
use Rattle.salvages.specs.Held.{Movable, Moved, Steps, wants_more}

module _ {l : List ℕ} {from got : ℕ} (h : Movable l from got) {aside mid : List ℕ}
    (put : aside ≡ lay 0 (take (got - from) (drop from l)) (replicate 490 0)) (back : mid ≡ lay 0 (take (got - from) aside) l) where
  abbrev n : ℕ
  n = got - from

  left_long : length (take n (drop from l)) ≡ n
  left_long = length-take-le n (drop from l) (omega (arith, h.held, length-drop from l))

  aside_front : take n aside ≡ take n (drop from l)
  aside_front = take-lay (take n (drop from l)) (replicate 490 0) put left_long (omega (arith, h.few))

  mid_front : take n mid ≡ take n (drop from l)
  mid_front = take-lay (take n aside) l back (ap length aside_front ∙ left_long) (omega (arith, h.held)) ∙ aside_front

  pub moved : (ys behind : List ℕ) (k : ℕ) → k ≤ length ys → Moved l from got (take n mid ++ (ys ++ behind)) (n + k)
  unfolding part
  moved ys behind k read =
      let front : length (take n mid) ≡ n = ap length mid_front ∙ left_long in
      record {
        at_hand = omega (arith, h.left);
        most = omega (arith, front, length-append (take n mid) (ys ++ behind), length-append ys behind);
        same = take_at (take n mid) (ys ++ behind) n front ∙ mid_front;
      }

module _ (at : ℕ) (lent : Rooms) (b : List ℕ) (after : Rooms) where
  pub steps_kept : (n m : ℕ) → Finds at b lent (Kept n m) after → Advances b (Kept n m) after → Steps b (Kept n m)
  steps_kept n m f a = let k = found-kept at lent b f a in (a.0, a.1, kept k.old k.new, k.front, sym k.size)

  pub steps_skipped : (n : ℕ) → Finds at b lent (Skipped n) after → Advances b (Skipped n) after → Steps b (Skipped n)
  steps_skipped n f a = (a.0, a.1, found_skipped at lent b n after f)

-- one turn more is due where bytes are to be read
unfoldable pub due : (from got : ℕ) → ℕ
due from got = cond (wants_more from got) 1 0

due_by : (x : Bool) → cond x 1 0 ≤ 1
due_by true = omega arith
due_by false = omega arith

pub due_most : (from got : ℕ) → due from got ≤ 1
unfolding due
due_most from got = due_by (wants_more from got)

pub due_now : (from got : ℕ) → wants_more from got ≡ true → due from got ≡ 1
unfolding due
due_now from got e = rw e

right : (x y : Bool) → x && y ≡ true → y ≡ true
right true y e = e
right false true e = refl
right false false e = e

pub few_left : (from got : ℕ) → wants_more from got ≡ true → got ≤ 4096 → got ≤ from + 490
few_left from got e h = omega (arith, ltb-true 3606 from (right (eqb got 4096) (ltb 3606 from) e))

none_due : (x : Bool) → ◌≡◌ {A = ℕ} (cond (x && false) 1 0) 0
none_due true = refl
none_due false = refl

pub due_no_more : (got : ℕ) → due 0 got ≡ 0
unfolding due
due_no_more got = none_due (eqb got 4096)
