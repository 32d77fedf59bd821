-- The points of a ring, as the lists have them.
--
--   point_column     the x of a point is the number of its sector
--   point_ordinate   its y, as they are lent
--   column_in, ordinate_in      both are symbols; ordinates_count, how many y there are
--   twice_in         so are lists that have them twice
-- Assumes nothing.
use mathlib.Core.Path.{◌≡◌, refl, sym, ap, ◌∙◌}
use mathlib.Core.Bool.{false}
use mathlib.Core.List.{List, map, flat_map}
use Prim.Native.Nat.{ℕ, ◌+◌, ◌-◌, ◌*◌, ◌/◌, ◌^◌, ◌<◌}
use native.Mathlib.Decide.{dec_lt}
use native.Mathlib.Omega.{arith}
use lib.ListN.{length, get_or}
use Rattle.field.specs.Symbols.{plus, modulus, times_x, times_low, times, raised}
use Rattle.hermitian.specs.Ring.{numbers, on_curve, those, sector, ring_points}
use Rattle.hermitian.specs.Checks.{bad_size}
use Rattle.hermitian.proofs.Numbers.{map_at, mapped_at, length_flat}
use Rattle.hermitian.proofs.Sizes.{each, tested, sectors}
use Rattle.curve.proofs.Zeros.{point, ring_point}
use Rattle.pits.specs.Working.Table.{Symbols}
use Rattle.pits.specs.Working.Rings.{Twice}

-- both lists, worked out for the two sizes
pub record Listed (q : ℕ) : Type 0 where
  pub columns : map (λ (P : ℕ × ℕ). P.0) (ring_points q) ≡ map (λ i. i / q) (numbers (q * q * q))
  pub ordinates : map (λ (P : ℕ × ℕ). P.1) (ring_points q) ≡ flat_map (sector q) (numbers (q * q))

listed_2 : Listed 2
unfolding numbers raised on_curve those sector plus modulus times_x times_low times flat_map ring_points
listed_2 = record { columns = refl; ordinates = refl }

listed_4 : Listed 4
unfolding numbers raised on_curve those sector plus modulus times_x times_low times flat_map ring_points
listed_4 = record { columns = refl; ordinates = refl }

module _ (q : ℕ) (size : bad_size q ≡ false) where
  listed : Listed q
  listed = each Listed q size listed_2 listed_4

  pub ordinates_count : {ys : List ℕ} → ys ≡ flat_map (sector q) (numbers (q * q)) → length ys ≡ q * q * q
  ordinates_count e = ap length e ∙ length_flat q (sector q) (q * q) (λ y k. (sectors q size y k).size)

  module _ (i : ℕ) (lt : i < q * q * q) where
    pub point_column : (point q i).0 ≡ i / q
    point_column =
        sym (map_at (λ (P : ℕ × ℕ). P.0) (ring_points q) i (0, 0) (omega (arith, (tested q size).count)))
        ∙ ap (λ (l : List ℕ). get_or l i 0) listed.columns ∙ mapped_at (λ i. i / q) (q * q * q) i lt

    pub point_ordinate : {ys : List ℕ} → ys ≡ flat_map (sector q) (numbers (q * q)) → (point q i).1 ≡ get_or ys i 0
    point_ordinate e =
        sym (map_at (λ (P : ℕ × ℕ). P.1) (ring_points q) i (0, 0) (omega (arith, (tested q size).count)))
        ∙ ap (λ (l : List ℕ). get_or l i 0) (listed.ordinates ∙ sym e)

    pub column_in : (point q i).0 < 2 ^ q
    column_in = (ring_point q size i lt).x_in

    pub ordinate_in : (point q i).1 < 2 ^ q
    ordinate_in = (ring_point q size i lt).y_in

pub twice_in : (d n : ℕ) (f : ℕ → ℕ) (l : List ℕ) → length l ≡ n + n → Twice n f l → ((i : ℕ) → i < n → f i < 2 ^ d)
    → Symbols d (length l) l
twice_in d n f l long h small i lt = go (dec_lt i n)
  where
    go : Dec (i < n) → get_or l i 0 < 2 ^ d
    go (yes low) = rw (h.first i low) (small i low)
    go (no high) =
        let e : n + (i - n) ≡ i = omega arith in
        let rest : i - n < n = omega (arith, long, lt) in
        rw (← e, h.second (i - n) rest) (small (i - n) rest)
