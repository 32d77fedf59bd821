-- Where the slots of the lines lie, n slots a line.
--
--   line_below      a line before line s ends where that begins, or before it
--   slot_below      and its slots lie before
--   patch_other     a line that is written leaves the others
-- Assumes nothing.
use mathlib.Core.Path.{◌≡◌}
use mathlib.Core.List.{List}
use Prim.Native.Nat.{ℕ, ◌+◌, ◌*◌, ◌≤◌, ◌<◌}
use native.Mathlib.Nat.{mul-suc, mul-le-mul_left}
use native.Mathlib.Decide.{dec_lt}
use native.Mathlib.Omega.{arith}
use lib.ListN.{get_or}
use Rattle.patch.specs.Patch.{patch}
use Rattle.patch.proofs.Laws.{get_or-patch_below, get_or-patch_above}

pub line_below : (n s j : ℕ) → j < s → n * j + n ≤ n * s
line_below n s j lt = omega (arith, mul-suc n j, mul-le-mul_left n lt)

slot_below : (n s j i : ℕ) → j < s → i < n → n * j + i < n * s
slot_below n s j i lt h = omega (arith, line_below n s j lt)

pub patch_other : (n j : ℕ) (f : ℕ → ℕ) (l : List ℕ) (k i : ℕ) → (k ≡ j → ⊥) → i < n
    → get_or (patch (n * j) n f l) (n * k + i) 0 ≡ get_or l (n * k + i) 0
patch_other n j f l k i other h = go (dec_lt k j) (dec_lt j k)
  where
    go : Dec (k < j) → Dec (j < k) → get_or (patch (n * j) n f l) (n * k + i) 0 ≡ get_or l (n * k + i) 0
    go (yes lt) t = get_or-patch_below (n * j) f l n (n * k + i) 0 (slot_below n j k i lt h)
    go (no ge) (yes lt) = get_or-patch_above (n * j) f l n (n * k + i) 0 (omega (arith, line_below n k j lt))
    go (no ge) (no le) = absurd (other (omega arith))
