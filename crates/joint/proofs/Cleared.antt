-- The working space, cleared.
--
--   cleared_by      a working space of which the first 49,152 places were written 0 is cleared
--   cleared_behind  what stood in these places does not matter
--   cleared_same    and what stands behind them is all that does
--   front_room      with any front of that length it has room enough
--   cleared-length  it is as long as it was
-- Assumes nothing.
use mathlib.Core.Path.{◌≡◌, sym, ap, ap₂, ◌∙◌}
use mathlib.Core.List.{List, ◌++◌}
use Prim.Native.Nat.{ℕ, ◌+◌, ◌≤◌}
use native.Mathlib.Omega.{arith}
use lib.ListN.{length, get_or, take, drop, replicate, length-replicate, get_or-replicate, take-append-drop, length-append, length-drop}
use lib.Seq.{ext_get_or, length-take-le, get_or-drop, drop_at}
use Rattle.patch.specs.Patch.{patch}
use Rattle.patch.proofs.Laws.{length-patch, get_or-patch_front, get_or-patch_above}
use Rattle.codes.specs.Checks.{space_bytes}
use Rattle.joint.specs.Promises.{cleared}

-- over any number of places
module _ (n : ℕ) (l : List ℕ) where
  module _ {s : List ℕ} (is : s ≡ patch 0 n (λ k. 0) l) (fits : n ≤ length l) where
    long : length s ≡ length l
    long = ap length is ∙ length-patch 0 (λ k. 0) l n

    zeros_front : take n s ≡ replicate n 0
    zeros_front =
        let size : length (take n s) ≡ n = length-take-le n s (omega (arith, long)) in
        ext_get_or 0 (take n s) (replicate n 0) (size ∙ sym (length-replicate n 0))
        (λ i h. get_or-patch_front n (λ k. 0) l is fits i 0 (omega arith) ∙ sym (get_or-replicate n i 0 0 (omega arith)))

    rest : drop n s ≡ drop n l
    rest = ext_get_or 0 (drop n s) (drop n l) (omega (arith, long, length-drop n s, length-drop n l))
        (λ i h. get_or-drop n s i 0 ∙ ap (λ (v : List ℕ). get_or v (n + i) 0) is
        ∙ get_or-patch_above 0 (λ k. 0) l n (n + i) 0 (omega arith) ∙ sym (get_or-drop n l i 0))

    zeros_by : s ≡ replicate n 0 ++ drop n l
    zeros_by = sym (take-append-drop n s) ∙ ap₂ ◌++◌ zeros_front rest

  zeros-length : n ≤ length l → length (replicate n 0 ++ drop n l) ≡ length l
  zeros-length h =
      let z : length (replicate {A = ℕ} n 0) ≡ n = length-replicate n 0 in
      omega (arith, length-append (replicate n 0) (drop n l), length-drop n l)

pub cleared_by : (w : List ℕ) {s : List ℕ} → s ≡ patch 0 space_bytes (λ k. 0) w → space_bytes ≤ length w → s ≡ cleared w
unfolding cleared
cleared_by w is fits = zeros_by space_bytes w is fits

pub cleared_behind : (s w : List ℕ) → length s ≡ space_bytes → cleared (s ++ drop space_bytes w) ≡ cleared w
unfolding cleared
cleared_behind s w e = ap (λ (v : List ℕ). replicate space_bytes 0 ++ v) (drop_at s (drop space_bytes w) space_bytes e)

pub cleared_same : (v w : List ℕ) → drop space_bytes v ≡ drop space_bytes w → cleared v ≡ cleared w
unfolding cleared
cleared_same v w e = ap (λ (l : List ℕ). replicate space_bytes 0 ++ l) e

pub cleared-length : (w : List ℕ) → space_bytes ≤ length w → length (cleared w) ≡ length w
unfolding cleared
cleared-length w h = zeros-length space_bytes w h

room : (n : ℕ) (s v : List ℕ) → length s ≡ n → n ≤ length (s ++ v)
room n s v e = omega (arith, length-append s v)

pub front_room : (s v : List ℕ) → length s ≡ space_bytes → space_bytes ≤ length (s ++ v)
front_room s v e = room space_bytes s v e
