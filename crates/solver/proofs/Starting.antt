-- The slots of a line, when it is written anew at the start.
--
--   part_filled     a part filled with one number is written place by place
--   cleared_only    to clear a line is a change of that line alone
--   first_only      and so it is to write the first line
--   row_only        and that of a row
--   rows_none, rows_more    the loop over the rows' lines: before its first turn, and over a turn
-- Assumes nothing.
use mathlib.Core.Path.{◌≡◌, refl, sym, ap, ◌∙◌}
use mathlib.Core.List.{List}
use Prim.Native.Nat.{ℕ, zero, suc, ◌+◌, ◌-◌, ◌*◌, ◌≤◌, ◌<◌}
use native.Mathlib.Nat.{zero-add, add-zero}
use native.Mathlib.Numerals.{add-one}
use native.Mathlib.Omega.{arith}
use borrow.Rule.Slice.PartMut.{put_mid}
use lib.ListN.{length, get_or, set, take, drop, replicate, length-take, length-drop}
use lib.Seq.{paste}
use Rattle.std.proofs.lemmas.List.{length-replicate}
use Rattle.std.proofs.lemmas.List.Edits.{paste_none, fill_from_more}
use Rattle.std.proofs.lemmas.Slice.{put_mid-paste}
use Rattle.patch.specs.Patch.{patch}
use Rattle.patch.proofs.Laws.{patch_none, patch_more}
use Rattle.patch.specs.Parts.{lay}
use Rattle.solver.specs.Working.Slots.{Only}
use Rattle.solver.specs.Working.Start.{all_counts, zero_line, first_slots, row_slots, row_line}
use Rattle.solver.proofs.Slots.{only_none, only_patch, only_then, Begun, begun_none, begun_more}

pasted : (at n v : ℕ) (l : List ℕ) → at + n ≤ length l → paste l at (replicate n v) n ≡ patch at n (λ k. v) l
pasted at zero v l fits = sym (paste_none l at (replicate 0 v)) ∙ sym (patch_none at (λ k. v) l)
pasted at (suc n) v l fits =
    rw add-one at
    (sym (fill_from_more l at n v (omega arith)) ∙ ap (λ (s : List ℕ). set s (at + n) v) (pasted at n v l (omega arith))
    ∙ sym (patch_more at (λ k. v) l n))

-- what a fill with one number leaves
part_filled : (at n v : ℕ) (l t : List ℕ) → at + n ≤ length l → t ≡ replicate (length (take (at + n - at) (drop at l))) v
    → put_mid at (at + n - at) l t ≡ patch at n (λ k. v) l
part_filled at n v l t fits filled =
    let size : length (take (at + n - at) (drop at l)) ≡ n =
    omega (arith, length-take (at + n - at) (drop at l), length-drop at l) in
    put_mid-paste at (at + n - at) l t (replicate n v) n (rw size at filled) (omega arith) (sym (length-replicate n v))
    ∙ pasted at n v l fits

module _ (j : ℕ) (l : List ℕ) (fits : 768 * j + 768 ≤ length l) where
  cleared_only : {a : List ℕ} → a ≡ patch (768 * j) 768 (λ k. 0) l → Only j zero_line l a
  unfolding zero_line
  cleared_only e = only_patch j 0 768 (λ k. 0) l (omega arith) (rw add-zero e) fits

  pub row_only : (at n : ℕ) {a t : List ℕ} → at + n ≤ 768 → a ≡ patch (768 * j) 768 (λ k. 0) l
      → t ≡ replicate (length (take (768 * j + at + n - (768 * j + at)) (drop (768 * j + at) a))) 1
      → Only j (row_slots at n) l (put_mid (768 * j + at) (768 * j + at + n - (768 * j + at)) a t)
  unfolding row_slots
  row_only at n {a} {t} within one filled =
      let clear : Only j zero_line l a = cleared_only one in
      let two : put_mid (768 * j + at) (768 * j + at + n - (768 * j + at)) a t ≡ patch (768 * j + at) n (λ k. 1) a =
      part_filled (768 * j + at) n 1 a t (omega (arith, clear.long)) filled in
      only_then j zero_line (patch at n (λ k. 1)) l a _ clear (only_patch j at n (λ k. 1) a within two (omega (arith, clear.long)))

-- one place written
one_place : (at v : ℕ) (l : List ℕ) → set l at v ≡ patch at 1 (λ k. v) l
unfolding patch
one_place at v l = rw add-zero refl

pub first_only : (us l : List ℕ) {a b : List ℕ} → length us < 768 → 768 ≤ length l
    → a ≡ patch 0 768 (λ k. 0) l → b ≡ lay 0 us a → Only 0 (first_slots us) l (set b (length us) 1)
unfolding first_slots lay
first_only us l {a} {b} short fits one two =
    let c : List ℕ = set b (length us) 1 in
    let clear : Only 0 zero_line l a = cleared_only 0 l (omega arith) one in
    let stored : Only 0 (lay 0 us) a b = only_patch 0 0 (length us) (λ k. get_or us k 0) a (omega arith) two (omega (arith, clear.long)) in
    only_then 0 zero_line (λ (x : List ℕ). patch (length us) 1 (λ k. 1) (lay 0 us x)) l a c clear
    (only_then 0 (lay 0 us) (patch (length us) 1 (λ k. 1)) a b c stored
    (only_patch 0 (length us) 1 (λ k. 1) b (omega arith) (rw zero-add (one_place (length us) 1 b)) (omega (arith, clear.long, stored.long))))

pub rows_none : (ns l : List ℕ) → Begun 1 (row_line ns) l l
rows_none ns l = begun_more (row_line ns) l 0 l l (begun_none (row_line ns) l) (only_none 0 (row_line ns 0) l refl)

pub rows_more : (ns l : List ℕ) (j at : ℕ) {s t : List ℕ} → at ≡ all_counts (take j ns) → Begun (j + 1) (row_line ns) l s
    → Only (j + 1) (row_slots at (get_or ns j 0)) s t → Begun (j + 1 + 1) (row_line ns) l t
rows_more ns l j at {s} {t} is begun only = begun_more (row_line ns) l (j + 1) s t begun changed
  where
    changed : Only (j + 1) (row_line ns (j + 1)) s t
    changed = rw add-one (rw (is, add-one) at only)
