-- Lists that have n symbols twice.
--
--   twice_patched    written by two loops
-- Assumes nothing.
use mathlib.Core.Path.{◌≡◌, ap, ◌∙◌}
use mathlib.Core.List.{List}
use Prim.Native.Nat.{ℕ, ◌+◌, ◌≤◌}
use native.Mathlib.Nat.{zero-add}
use native.Mathlib.Omega.{arith}
use lib.ListN.{length, get_or}
use Rattle.patch.specs.Patch.{patch}
use Rattle.patch.proofs.Laws.{length-patch, get_or-patch, get_or-patch_below}
use Rattle.pits.specs.Working.Rings.{Twice}

pub twice_patched : (n : ℕ) (f : ℕ → ℕ) (l : List ℕ) {s t : List ℕ} → n + n ≤ length l → s ≡ patch 0 n f l → t ≡ patch n n f s
    → Twice n f t
twice_patched n f l {s} {t} room is e =
    let long : length s ≡ length l = ap length is ∙ length-patch 0 f l n in
    record {
      first = λ i lt. ap (λ (u : List ℕ). get_or u i 0) e ∙ get_or-patch_below n f s n i 0 lt
          ∙ ap (λ (u : List ℕ). get_or u i 0) is ∙ rw zero-add at (get_or-patch 0 f l n i 0 lt (omega (arith, room)));
      second = λ i lt. ap (λ (u : List ℕ). get_or u (n + i) 0) e ∙ get_or-patch n f s n i 0 lt (omega (arith, room, long));
    }
