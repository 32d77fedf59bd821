-- What becomes of the slots where the pivot p is mixed into the other lines and multiplied.
--
--   copied           the line of the pivot, where it was copied to the front
--   length-turned    the memory is as long as before
--   made_long, made_in, made_turned    between mixing and multiplying, and behind both
--   turned_pivot     the slots of the pivot
--   turned_other     those of another line
--   turned_in        all are symbols
-- Assumes nothing.
use mathlib.Core.Path.{◌≡◌, refl, ap, ◌∙◌}
use mathlib.Core.Bool.{false}
use mathlib.Core.List.{List, ◌++◌}
use Prim.Native.Nat.{ℕ, ◌+◌, ◌-◌, ◌*◌, ◌^◌, ◌≤◌, ◌<◌}
use native.Mathlib.Decide.{ℕ_discrete}
use native.Mathlib.Omega.{arith}
use lib.ListN.{length, get_or, take, drop}
use lib.Seq.{take_at}
use Rattle.patch.specs.Parts.{part}
use Rattle.patch.proofs.Laws.{length-patch, get_or-patch}
use Rattle.patch.proofs.Parts.{length_part, get_d_part}
use Rattle.refusal.specs.Refusal.{bad_degree}
use Rattle.field.specs.Symbols.{plus, times}
use Rattle.field.specs.Arithmetic.{gf}
use Rattle.field.proofs.Instance.{field}
use Rattle.lists.specs.Working.Lists.{SymbolsAt, multiplied, multiplied_at}
use Rattle.poly.proofs.Ring.{plus-zero}
use Rattle.pits.specs.Working.Table.{SlotsIn, lines_mixed, line_of, turned}
use Rattle.pits.proofs.Slots.{line_below, patch_other}
use Rattle.pits.proofs.Mixed.{slot_mixed, slot_pivot, slot_in, length-lines, lines_at}

pub copied : (n p : ℕ) (l z : List ℕ) {v : List ℕ} → n * p + n ≤ length l → v ≡ take (n * p + n - n * p) (drop (n * p) l)
    → take n (v ++ z) ≡ line_of n p l
unfolding part
copied n p l z {v} fits is =
    let e : n * p + n - n * p ≡ n = omega arith in
    let line : v ≡ part (n * p) n l = rw e at is in
    take_at v z n (ap length line ∙ length_part (n * p) n l fits) ∙ line

module _ (d : ℕ) (xs : List ℕ) (i s : ℕ) (ds : List ℕ) (p : ℕ) (l : List ℕ) where
  abbrev n : ℕ
  n = length xs

  abbrev mixed : List ℕ
  mixed = lines_mixed d ds p (line_of n p l) s l

  mixed_long : length mixed ≡ length l
  mixed_long = length-lines d ds p (line_of n p l) s l

  pub length-turned : length (turned d xs i s ds p l) ≡ length l
  unfolding turned
  length-turned = length-patch (n * p) _ mixed n ∙ mixed_long

  module _ (line : p < s) (room : n * s ≤ length l) where
    copy_long : length (line_of n p l) ≡ n
    copy_long = length_part (n * p) n l (omega (arith, line_below n s p line))

    mixed_at : (j k : ℕ) → j < s → k < n → get_or mixed (n * j + k) 0 ≡ slot_mixed d ds p j (get_or l (n * j + k) 0) (get_or l (n * p + k) 0)
    mixed_at j k lj lk =
        let e = copy_long in
        let fits : length (line_of n p l) * s ≤ length l = rw e room in
        rw e at (lines_at d ds p (line_of n p l) s l fits j k lj (omega arith))
        ∙ ap (slot_mixed d ds p j (get_or l (n * j + k) 0)) (get_d_part (n * p) n l k lk)

    module _ (good : bad_degree d ≡ false) where
      -- as the code does it, with the copy w
      module _ {w m : List ℕ} (copy : w ≡ line_of n p l) (made : m ≡ lines_mixed d ds p w s l) where
        pub made_long : length m ≡ length l
        made_long = ap length made ∙ length-lines d ds p w s l

        pub made_in : SlotsIn d n s l → SymbolsAt d m (n * p) n
        made_in symbols k lk =
            let same : m ≡ mixed = made ∙ ap (λ (v : List ℕ). lines_mixed d ds p v s l) copy in
            rw (same, mixed_at p k line lk) (slot_in d ds p p _ _ good (symbols p k line lk))

        pub made_turned : {t : List ℕ} → t ≡ multiplied_at d xs (get_or xs i 0) m (n * p) 0 → t ≡ turned d xs i s ds p l
        unfolding turned
        made_turned e =
            let same : m ≡ mixed = made ∙ ap (λ (v : List ℕ). lines_mixed d ds p v s l) copy in
            e ∙ ap (λ (v : List ℕ). multiplied_at d xs (get_or xs i 0) v (n * p) 0) same

      pub turned_pivot : (k : ℕ) → k < n
          → get_or (turned d xs i s ds p l) (n * p + k) 0 ≡ times d (plus (get_or xs k 0) (get_or xs i 0)) (get_or l (n * p + k) 0)
      unfolding turned multiplied
      turned_pivot k lk =
          get_or-patch (n * p) (multiplied d xs (get_or xs i 0) mixed (n * p) 0) mixed n k 0 lk
          (omega (arith, mixed_long, line_below n s p line))
          ∙ ap (times d (plus (get_or xs k 0) (get_or xs i 0)))
          (plus-zero (gf d) (field d good) (get_or mixed (n * p + k) 0) ∙ mixed_at p k line lk ∙ slot_pivot d ds p p _ _ refl)

      pub turned_other : (j k : ℕ) → j < s → (j ≡ p → ⊥) → k < n
          → get_or (turned d xs i s ds p l) (n * j + k) 0 ≡ slot_mixed d ds p j (get_or l (n * j + k) 0) (get_or l (n * p + k) 0)
      unfolding turned
      turned_other j k lj other lk = patch_other n p _ mixed j k other lk ∙ mixed_at j k lj lk

      pub turned_in : SlotsIn d n s l → SlotsIn d n s (turned d xs i s ds p l)
      turned_in symbols j k lj lk = go (ℕ_discrete j p)
        where
          go : Dec (j ≡ p) → get_or (turned d xs i s ds p l) (n * j + k) 0 < 2 ^ d
          go (yes e) = rw (e, turned_pivot k lk) ((field d good).times_in _ _)
          go (no other) = rw (turned_other j k lj other lk) (slot_in d ds p j _ _ good (symbols j k lj lk))
