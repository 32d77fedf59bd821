-- The y of a ring's points, as they are lent.
--
--   all_y, y_room    there are q³ of them, and room for them
--   y_at             those of a sector
-- Assumes nothing.
use mathlib.Core.Path.{◌≡◌, sym, ap, ◌∙◌}
use mathlib.Core.Bool.{false}
use mathlib.Core.List.{List, flat_map}
use Prim.Native.Nat.{ℕ, ◌+◌, ◌*◌, ◌≤◌, ◌<◌}
use native.Mathlib.Omega.{arith}
use lib.ListN.{length, get_or, take, length-take}
use Rattle.patch.specs.Parts.{part}
use Rattle.patch.proofs.Parts.{get_d_part}
use Rattle.hermitian.specs.Ring.{numbers, sector}
use Rattle.hermitian.specs.Checks.{bad_size}
use Rattle.hermitian.proofs.Numbers.{length_flat, part_flat}
use Rattle.hermitian.proofs.Sizes.{sectors}

module _ (q : ℕ) (size : bad_size q ≡ false) where
  pub all_y : {ys : List ℕ} → ys ≡ flat_map (sector q) (numbers (q * q)) → length ys ≡ q * q * q
  all_y e = ap length e ∙ length_flat q (sector q) (q * q) (λ y k. (sectors q size y k).size)

  -- the list that lends them is long enough
  pub y_room : (r : List ℕ) → take (q * q * q) r ≡ flat_map (sector q) (numbers (q * q)) → q * q * q ≤ length r
  y_room r e = omega (arith, length-take (q * q * q) r, all_y e)

  pub y_at : {ys : List ℕ} → ys ≡ flat_map (sector q) (numbers (q * q)) → (x i : ℕ) → x < q * q → i < q
      → get_or ys (x * q + i) 0 ≡ get_or (sector q x) i 0
  y_at {ys} e x i hx hi =
      sym (get_d_part (x * q) q ys i hi)
      ∙ ap (λ (v : List ℕ). get_or v i 0) (ap (part (x * q) q) e ∙ part_flat q (sector q) (q * q) x (λ y k. (sectors q size y k).size) hx)
