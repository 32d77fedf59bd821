-- What a call that writes a part of a slice leaves.
--
--   part_is_lay      a row that was written over a part
--   part_is_patch    the same as a patch, by what stands at each place of the part
--   part_long        how long a part is, as the code cuts it out
--   part_filled      a part that was filled with one number
--   part_changed     a part of which each number was changed by g
-- Assumes nothing.
use mathlib.Core.Path.{◌≡◌, sym, ap, ◌∙◌}
use mathlib.Core.List.{List}
use Prim.Native.Nat.{ℕ, ◌+◌, ◌-◌, ◌≤◌, ◌<◌}
use native.Mathlib.Nat.{zero-add}
use native.Mathlib.Omega.{arith}
use lib.ListN.{length, get_or, take, drop, replicate, length-drop, length-replicate, get_or-replicate}
use lib.Seq.{length-take-le, get_or-take, get_or-drop}
use borrow.Author.Rules.{rules}
use borrow.Rule.Slice.PartMut.{put_mid}
use Rattle.std.proofs.lemmas.List.{places}
use Rattle.patch.specs.Patch.{patch}
use Rattle.patch.specs.Parts.{lay}
use Rattle.patch.proofs.Laws.{length-patch, get_or-patch}
use Rattle.patch.proofs.Parts.{is_lay, patch_is_lay}

pub part_is_lay : (at n : ℕ) (v l : List ℕ) → length v ≡ n → at + n ≤ length l → put_mid at n l v ≡ lay at v l
part_is_lay at n v l size fits =
    is_lay at v l (put_mid at n l v) (omega arith) (search (rules, places))
    (λ i h. search (rules, places))
    (λ k h. search (rules, places))
    (λ i h. search (rules, places))

module _ (at n : ℕ) (l : List ℕ) (fits : at + n ≤ length l) where
  abbrev old : List ℕ
  old = take (at + n - at) (drop at l)

  pub part_long : length old ≡ n
  part_long = length-take-le (at + n - at) (drop at l) (omega (arith, length-drop at l)) ∙ omega arith

  pub part_is_patch : (f : ℕ → ℕ) (v : List ℕ) → length v ≡ n → ((k : ℕ) → k < n → get_or v k 0 ≡ f k)
      → put_mid at (at + n - at) l v ≡ patch at n f l
  part_is_patch f v size each =
      let e : at + n - at ≡ n = omega arith in
      rw e (part_is_lay at n v l size fits ∙ sym (patch_is_lay at n f v l size (λ k h. sym (each k h))))

  pub part_filled : (a : ℕ) (v : List ℕ) → v ≡ replicate (length old) a → put_mid at (at + n - at) l v ≡ patch at n (λ k. a) l
  part_filled a v is =
      let all : v ≡ replicate n a = rw part_long at is in
      part_is_patch (λ k. a) v (rw all (length-replicate n a)) (λ k h. rw all (get_or-replicate n k a 0 h))

  pub part_changed : (g : ℕ → ℕ) (v : List ℕ) → v ≡ patch 0 n (λ k. g (get_or old k 0)) old
      → put_mid at (at + n - at) l v ≡ patch at n (λ k. g (get_or l (at + k) 0)) l
  part_changed g v is =
      let f : ℕ → ℕ = λ k. g (get_or old k 0) in
      part_is_patch (λ k. g (get_or l (at + k) 0)) v (ap length is ∙ length-patch 0 f old n ∙ part_long)
      (λ k h. ap (λ (i : ℕ). get_or v i 0) (sym (zero-add k))
      ∙ rw is (get_or-patch 0 f old n k 0 h (omega (arith, part_long)))
      ∙ ap g (get_or-take (at + n - at) (drop at l) k 0 (omega arith) ∙ get_or-drop at l k 0))
