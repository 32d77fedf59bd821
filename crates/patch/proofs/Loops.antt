-- A loop that fills a part of a list, one place a turn.
--
--   Filling at n f l s i    s is l with the first i of the part's n places filled, f k at place k of it
--   filling, turn, filled   before the first turn; a turn; what the loop leaves
--   slot                    the place that comes next is in the list
--   unfilled                what stands there is what stood there
--   kept-length             the length stays
-- Assumes nothing.
use mathlib.Core.Path.{◌≡◌, sym, ap, ◌∙◌}
use mathlib.Core.List.{List}
use Prim.Native.Nat.{ℕ, ◌+◌, ◌≤◌, ◌<◌}
use native.Mathlib.Omega.{arith}
use lib.ListN.{length, get_or, set}
use Rattle.patch.specs.Patch.{patch}
use Rattle.patch.proofs.Laws.{patch_none, length-patch, patch_step, here}

pub record Filling {A : Type 0} (at n : ℕ) (f : ℕ → A) (l s : List A) (i : ℕ) : Type 0 where
  pub within : i ≤ n
  pub so_far_lem : s ≡ patch at i f l

pub filling : {A : Type 0} {at n : ℕ} {f : ℕ → A} {l : List A} → Filling at n f l l 0
filling {at} {n} {f} {l} = record { within = omega arith; so_far_lem = sym (patch_none at f l) }

module _ {A : Type 0} {at n : ℕ} {f : ℕ → A} {l s : List A} {i : ℕ} (p : Filling at n f l s i) where
  pub kept-length : length s ≡ length l
  kept-length = ap length p.so_far_lem ∙ length-patch at f l i

  pub slot : i < n → at + n ≤ length l → at + i < length s
  slot h fits = omega (arith, kept-length)

  pub unfilled : (d : A) → get_or s (at + i) d ≡ get_or l (at + i) d
  unfilled = here at i f l p.so_far_lem

  pub turn : {v : A} → i < n → v ≡ f i → Filling at n f l (set s (at + i) v) (i + 1)
  turn h e = record { within = omega arith; so_far_lem = patch_step at i f l p.so_far_lem e }

  pub filled : n ≤ i → s ≡ patch at n f l
  filled h = let e : i ≡ n = omega (arith, p.within) in p.so_far_lem ∙ ap (λ (k : ℕ). patch at k f l) e
