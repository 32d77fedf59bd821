-- The slots of a line to which a multiple of the pivot is added, if need be: the three cases, and the part that is written.
--
--   mixed_pivot, mixed-zero, mixed_other    the pivot; a line whose value is zero; any other
--   copied          a copy of a part of the pivot, with zeros behind it
--   each_mixed      zeros more of the copy change nothing
--   mixed_only      to write the multiple into the line is that change of the line alone
-- Assumes nothing.
use mathlib.Core.Path.{◌≡◌, refl, sym, ap, ◌∙◌}
use mathlib.Core.Bool.{false}
use mathlib.Core.List.{List}
use Prim.Native.Nat.{ℕ, ◌+◌, ◌-◌, ◌*◌, ◌≤◌, ◌<◌}
use native.Mathlib.Nat.{add_assoc}
use native.Mathlib.Decide.{ℕ_discrete}
use native.Mathlib.Omega.{arith}
use lib.ListN.{length, get_or, take, drop}
use lib.Seq.{ext_get_or, get_or-take, length-take-le}
use Rattle.patch.specs.Patch.{patch}
use Rattle.patch.specs.Parts.{part, lay}
use Rattle.patch.proofs.Laws.{length-patch, get_or-patch, get_or-patch_below, patch_cong, patch-kept}
use Rattle.patch.proofs.Parts.{length_part, length-lay}
use Rattle.refusal.specs.Refusal.{bad_degree}
use Rattle.field.specs.Symbols.{plus, times, over}
use Rattle.field.specs.Arithmetic.{gf}
use Rattle.lists.specs.Working.Lists.{added}
use Rattle.field.proofs.Instance.{field}
use Rattle.poly.proofs.Ring.{plus-zero, zero-times}
use Rattle.rows.proofs.Newton as rows
use Rattle.solver.specs.Working.Slots.{slots, Only, Each}
use Rattle.solver.specs.Working.Turns.{Copied, mixed_by, mixed}
use Rattle.solver.proofs.Slots.{slots_length, slots_at, part-slots, only_cong, only_patch}

module _ (d : ℕ) (ds : List ℕ) (p : ℕ) (w : List ℕ) (at j : ℕ) (l : List ℕ) where
  pivot_by : (e : Dec (j ≡ p)) (z : Dec (get_or ds j 0 ≡ 0)) → j ≡ p → mixed_by d ds p w at j l e z ≡ l
  unfolding mixed_by
  pivot_by (yes h) z e = refl
  pivot_by (no h) z e = absurd (h e)

  zero_by : (e : Dec (j ≡ p)) (z : Dec (get_or ds j 0 ≡ 0)) → get_or ds j 0 ≡ 0 → mixed_by d ds p w at j l e z ≡ l
  unfolding mixed_by
  zero_by (yes h) z e = refl
  zero_by (no h) (yes z) e = refl
  zero_by (no h) (no z) e = absurd (z e)

  other_by : (e : Dec (j ≡ p)) (z : Dec (get_or ds j 0 ≡ 0)) → (j ≡ p → ⊥) → (get_or ds j 0 ≡ 0 → ⊥)
      → mixed_by d ds p w at j l e z ≡ patch at (length w) (added d (over d (get_or ds j 0) (get_or ds p 0)) w l at) l
  unfolding mixed_by
  other_by (yes h) z e f = absurd (e h)
  other_by (no h) (yes z) e f = absurd (f z)
  other_by (no h) (no z) e f = refl

  pub mixed_pivot : j ≡ p → mixed d ds p w at j l ≡ l
  unfolding mixed
  mixed_pivot = pivot_by (ℕ_discrete j p) (ℕ_discrete (get_or ds j 0) 0)

  pub mixed-zero : get_or ds j 0 ≡ 0 → mixed d ds p w at j l ≡ l
  unfolding mixed
  mixed-zero = zero_by (ℕ_discrete j p) (ℕ_discrete (get_or ds j 0) 0)

  pub mixed_other : (j ≡ p → ⊥) → (get_or ds j 0 ≡ 0 → ⊥)
      → mixed d ds p w at j l ≡ patch at (length w) (added d (over d (get_or ds j 0) (get_or ds p 0)) w l at) l
  unfolding mixed
  mixed_other = other_by (ℕ_discrete j p) (ℕ_discrete (get_or ds j 0) 0)

added-slots : (d c : ℕ) (w l : List ℕ) (j at k : ℕ) → at + k < 768 → added d c w l (768 * j + at) k ≡ added d c w (slots j l) at k
unfolding added
added-slots d c w l j at k h =
    ap (λ (x : ℕ). plus x (times d (get_or w k 0) c)) (rw add_assoc (sym (slots_at j l (at + k) h)))

pub mixed_only : (d : ℕ) (ds : List ℕ) (p : ℕ) (w : List ℕ) (at j : ℕ) (l : List ℕ) {s : List ℕ} {c : ℕ}
    → (j ≡ p → ⊥) → (get_or ds j 0 ≡ 0 → ⊥) → at + length w ≤ 768 → 768 * j + 768 ≤ length l → c ≡ over d (get_or ds j 0) (get_or ds p 0)
    → s ≡ patch (768 * j + at) (length w) (added d c w l (768 * j + at)) l → Only j (mixed d ds p w at j) l s
mixed_only d ds p w at j l {s} {c} other value within fits is e =
    only_cong j _ (mixed d ds p w at j) l s (only_patch j at (length w) _ l within e fits)
    (patch_cong at (length w) _ _ (slots j l) (λ k h. added-slots d c w l j at k (omega arith))
    ∙ rw is (sym (mixed_other d ds p w at j (slots j l) other value)))

-- a copy of the pivot's part, and the zeros behind it
pub copied : (p at n : ℕ) (l z : List ℕ) {v w : List ℕ} → at + n ≤ 768 → 768 * p + 768 ≤ length l → 784 ≤ length z
    → v ≡ lay 0 (take (768 * p + at + n - (768 * p + at)) (drop (768 * p + at) l)) z → w ≡ patch n 16 (λ k. 0) v
    → Copied (part at n (slots p l)) w
copied p at n l z {v} {w} within fits room is zeroed =
    let size : length (part at n (slots p l)) ≡ n = length_part at n (slots p l) (omega (arith, slots_length p l fits)) in
    let long : length v ≡ length z = rw is (length-lay 0 _ z) in
    let front : take n v ≡ part at n (slots p l) =
    rows.take_copied (768 * p + at) n l z (omega arith) (omega arith) is ∙ part-slots p at n l within fits in
    let same : take n w ≡ take n v =
    ext_get_or 0 _ _ (length-take-le n w (rw (zeroed, length-patch) (omega arith)) ∙ sym (length-take-le n v (omega arith)))
    (λ k lt. let below : k < n = omega (arith, length-take-le n w (rw (zeroed, length-patch) (omega arith))) in
    get_or-take n w k 0 below ∙ rw zeroed (get_or-patch_below n (λ (i : ℕ). 0) v 16 k 0 below) ∙ sym (get_or-take n v k 0 below)) in
    record {
      front = rw size (same ∙ front);
      zeros = λ k h. rw (size, zeroed) (get_or-patch n (λ (i : ℕ). 0) v 16 k 0 h (omega arith));
    }

module _ (d : ℕ) (good : bad_degree d ≡ false) (q w : List ℕ) (copy : Copied q w)
    (m : ℕ) (from : length q ≤ m) (to : m ≤ length q + 16) (fits : m ≤ length w) where
  same_front : (k : ℕ) → k < length q → get_or (take m w) k 0 ≡ get_or q k 0
  same_front k h =
      get_or-take m w k 0 (omega arith) ∙ sym (get_or-take (length q) w k 0 h) ∙ ap (λ (v : List ℕ). get_or v k 0) copy.front

  nothing : (c x k : ℕ) → k < m - length q → plus x (times d (get_or (take m w) (length q + k) 0) c) ≡ x
  nothing c x k h =
      ap (λ (y : ℕ). plus x (times d y c)) (get_or-take m w (length q + k) 0 (omega arith) ∙ copy.zeros k (omega arith))
      ∙ ap (plus x) (zero-times (gf d) (field d good) c) ∙ plus-zero (gf d) (field d good) x

  more_by : (ds : List ℕ) (p at j : ℕ) (l : List ℕ) (e : Dec (j ≡ p)) (z : Dec (get_or ds j 0 ≡ 0))
      → mixed_by d ds p (take m w) at j l e z ≡ mixed_by d ds p q at j l e z
  unfolding mixed_by added
  more_by ds p at j l (yes h) z = refl
  more_by ds p at j l (no h) (yes z) = refl
  more_by ds p at j l (no h) (no z) =
      let c : ℕ = over d (get_or ds j 0) (get_or ds p 0) in
      let f : ℕ → ℕ = added d c (take m w) l at in
      let size : length (take m w) ≡ length q + (m - length q) = omega (arith, length-take-le m w fits) in
      ap (λ (n : ℕ). patch at n f l) size
      ∙ patch-kept at (length q) (m - length q) f l 0 (λ k h. nothing c (get_or l (at + (length q + k)) 0) k h)
      ∙ patch_cong at (length q) f (added d c q l at) l (λ k h. ap (λ (y : ℕ). plus (get_or l (at + k) 0) (times d y c)) (same_front k h))

  -- zeros more of the copy change nothing
  pub each_mixed : (ds : List ℕ) (s p at : ℕ) (l l' : List ℕ) → Each s (mixed d ds p (take m w) at) l l' → Each s (mixed d ds p q at) l l'
  unfolding mixed
  each_mixed ds s p at l l' h = record {
    long = h.long;
    changed = λ j lt. h.changed j lt ∙ more_by ds p at j (slots j l) (ℕ_discrete j p) (ℕ_discrete (get_or ds j 0) 0);
  }
