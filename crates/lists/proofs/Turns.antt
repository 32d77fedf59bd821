-- What one turn of a loop writes.
--
--   left-symbol, right-symbol, multiplied_turn    a turn of a loop that multiplies
--   behind            what stands behind the place of a turn is what stood there
--   laid_back         a part that was filled is laid back where it stood
-- Assumes nothing.
use mathlib.Core.Path.{◌≡◌, sym, ap, ◌∙◌}
use mathlib.Core.List.{List}
use Prim.Native.Nat.{ℕ, ◌+◌, ◌-◌, ◌^◌, ◌≤◌, ◌<◌}
use native.Mathlib.Nat.{zero-add}
use native.Mathlib.Omega.{arith}
use lib.ListN.{length, get_or, set}
use borrow.Rule.Slice.PartMut.{put_mid}
use Rattle.std.proofs.Common.{rules}
use Rattle.std.proofs.lemmas.List.Edits.{length-between}
use Rattle.std.proofs.lemmas.List.{places}
use Rattle.std.proofs.lemmas.Slice.{overwrites}
use Rattle.std.specs.List.{between}
use Rattle.patch.specs.Patch.{patch}
use Rattle.patch.specs.Parts.{lay}
use Rattle.patch.proofs.Laws.{length-patch, get_or-patch, get_or-patch_above}
use Rattle.patch.proofs.Parts.{is_lay, patch_is_lay}
use Rattle.patch.proofs.Loops.{Filling, unfilled, turn}
use Rattle.field.specs.Symbols.{plus, times}
use Rattle.field.proofs.Sums.{plus_below}
use Rattle.lists.specs.Working.Lists.{multiplied, Multiplying}

-- a turn of a loop that multiplies: its factors are symbols, and their product is what it is to write
module _ {d : ℕ} {w : List ℕ} {a : ℕ} {l : List ℕ} {at b : ℕ} (m : Multiplying d w a l at b)
    {s : List ℕ} {i : ℕ} (p : Filling at (length w) (multiplied d w a l at b) l s i) (h : i < length w) where
  pub left-symbol : plus (get_or w i 0) a < 2 ^ d
  left-symbol = plus_below d _ _ (rw zero-add at (m.factors i h)) m.left

  pub right-symbol : plus (get_or s (at + i) 0) b < 2 ^ d
  right-symbol = plus_below d _ _ (rw (unfilled p 0) (m.symbols i h)) m.right

  pub multiplied_turn : {v : ℕ} → v ≡ times d (plus (get_or w i 0) a) (plus (get_or s (at + i) 0) b)
      → Filling at (length w) (multiplied d w a l at b) l (set s (at + i) v) (i + 1)
  unfolding multiplied
  multiplied_turn e = turn p h (e ∙ ap (λ (y : ℕ). times d (plus (get_or w i 0) a) (plus y b)) (unfilled p 0))

pub behind : {at n : ℕ} {f : ℕ → ℕ} {l s : List ℕ} {i : ℕ} → Filling at n f l s i → get_or s (at + (i + 1)) 0 ≡ get_or l (at + (i + 1)) 0
behind {at} {n} {f} {l} {s} {i} p =
    ap (λ (m : List ℕ). get_or m (at + (i + 1)) 0) p.so_far_lem ∙ get_or-patch_above at f l i (at + (i + 1)) 0 (omega arith)

patch_at_front : (n : ℕ) (f : ℕ → ℕ) (l : List ℕ) (k : ℕ) → k < n → n ≤ length l → get_or (patch 0 n f l) k 0 ≡ f k
patch_at_front n f l k h fits = rw zero-add at (get_or-patch 0 f l n k 0 h (rw zero-add fits))

put_mid_is_lay : (at : ℕ) (l v : List ℕ) → at + length v ≤ length l → put_mid at (length v) l v ≡ lay at v l
put_mid_is_lay at l v fits =
    is_lay at v l (put_mid at (length v) l v) fits (search (rules, overwrites)) (λ i h. search (rules, places))
    (λ k h. search (rules, places)) (λ i h. search (rules, places))

pub laid_back : (at n : ℕ) (f : ℕ → ℕ) (l : List ℕ) {v : List ℕ} → at + n ≤ length l → v ≡ patch 0 n f (between at (at + n) l)
    → put_mid at (at + n - at) l v ≡ patch at n f l
laid_back at n f l {v} fits e =
    let there : length (between at (at + n) l) ≡ n = omega (arith, length-between l at (at + n) fits) in
    let long : length v ≡ n = ap length e ∙ length-patch 0 f (between at (at + n) l) n ∙ there in
    let width : at + n - at ≡ length v = omega arith in
    rw width (put_mid_is_lay at l v (omega arith)
    ∙ sym (patch_is_lay at n f v l long (λ k h. sym (ap (λ (s : List ℕ). get_or s k 0) e ∙ patch_at_front n f _ k h (omega arith)))))
