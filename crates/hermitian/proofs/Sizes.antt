-- The two sizes of ring: what checks 10 and 11 leave true, and the tests of points and sectors, which antt computes.
--
--   sizes              a q that is not bad is 2 or 4; each, what holds of both
--   Sides q n, sides   how many rows, columns and symbols that makes
--   Tested q           the tests of a size; tested, that both pass
--   sectors            each x below q² has q points, and their y are distinct symbols
--   orders             an m that is not bad is from q² − 1 to q³ − 1
--   Room q m j, room   what working out k_j in numbers of the machine asks
--   ring_lengths_lem       every k_j is from 1 to q²; ring_rows, ring_cells: there are q of them, and q³ symbols in an array
--   first_judged       only the first of them can be q²; refused_orders, so it is from m = q³ − q on
--   ring_proper        the code of the arrays of H(m) is proper; ring_counts, its counts are within the limits
-- Assumes nothing.
use mathlib.Core.Path.{◌≡◌, refl, sym, ◌∙◌, subst}
use mathlib.Core.Logic.{◌⊎◌, inl, inr, ⊎_elim}
use mathlib.Core.Bool.{Bool, true, false, not, ◌&&◌, ◌||◌, true≢false}
use mathlib.Core.List.{List, [], ◌∷◌, flat_map}
use Prim.Native.Nat.{ℕ, ◌+◌, ◌-◌, ◌*◌, ◌/◌, ◌^◌, ◌≤◌, ◌<◌}
use native.Mathlib.Nat.{mul_comm}
use native.Mathlib.Decide.{ℕ_discrete, dec_le}
use native.Mathlib.Omega.{arith}
use lib.Dec.{T, eqb, leb, eqb→eq}
use lib.ListN.{length, length-map}
use borrow.Author.Tests.{eq-eqb, ne_eqb, le-leb, lt-leb}
use Rattle.refusal.specs.Refusal.{bad_degree, outside_field, some_outside_field, is_in, repeated, bad_points}
use Rattle.refusal.proofs.Laws.{within}
use Rattle.field.specs.Symbols.{plus, modulus, times_x, times_low, times, raised}
use Rattle.field.proofs.Products.{all_below, below, both}
use Rattle.field.proofs.Instance.{field}
use Rattle.poly.specs.Poly.{All}
use Rattle.rows.specs.Working.Rows.{Points}
use Rattle.codes.specs.Checks.{unchecked}
use Rattle.codes.proofs.Proper.{Within, Proper, points_test}
use Rattle.codes.proofs.Passed.{Counts, total-most}
use Rattle.hermitian.specs.Ring.{numbers, on_curve, those, sector, ring_points, ring_length, ring_lengths, ring_code}
use Rattle.hermitian.specs.Checks.{bad_size, bad_order}
use Rattle.hermitian.proofs.Numbers.{length-numbers}

no_other : (q : ℕ) → bad_size q ≡ false → (q ≡ 2 → ⊥) → (q ≡ 4 → ⊥) → ⊥
unfolding bad_size
no_other q h a b =
    let e : true ≡ false = simp (ne_eqb q 2 a, ne_eqb q 4 b) at h in
    absurd (true≢false e)

pub sizes : (q : ℕ) → bad_size q ≡ false → (q ≡ 2) ⊎ (q ≡ 4)
sizes q h = go (ℕ_discrete q 2) (ℕ_discrete q 4)
  where
    go : Dec (q ≡ 2) → Dec (q ≡ 4) → (q ≡ 2) ⊎ (q ≡ 4)
    go (yes a) b = inl a
    go (no a) (yes b) = inr b
    go (no a) (no b) = absurd (no_other q h a b)

-- what holds of both sizes
pub each : (P : ℕ → Type 0) (q : ℕ) → bad_size q ≡ false → P 2 → P 4 → P q
each P q h two four = ⊎_elim (λ e. subst P (sym e) two) (λ e. subst P (sym e) four) (sizes q h)

-- the counts of a ring, n being q as a count
pub record Sides (q n : ℕ) : Type 0 where
  pub some : 0 < n
  pub side : n ≤ 4
  pub some_columns : 0 < n * n
  pub columns : n * n ≤ 16
  pub cells : n * (n * n) ≡ q * q * q
  pub symbols : n * n * n ≡ q * q * q
  pub least : 1 ≤ q * q * q
  pub most : q * q * q ≤ 64

pub sides : (q n : ℕ) → bad_size q ≡ false → n ≡ q → Sides q n
sides q n h e = rw e (record {
  some = each (λ q. 0 < q) q h (omega arith) (omega arith);
  side = each (λ q. q ≤ 4) q h (omega arith) (omega arith);
  some_columns = each (λ q. 0 < q * q) q h (omega arith) (omega arith);
  columns = each (λ q. q * q ≤ 16) q h (omega arith) (omega arith);
  cells = mul_comm q (q * q);
  symbols = refl;
  least = each (λ q. 1 ≤ q * q * q) q h (omega arith) (omega arith);
  most = each (λ q. q * q * q ≤ 64) q h (omega arith) (omega arith);
})

-- 'Each x has q points', and no y stands in a sector twice
abbrev good_sector : ℕ → ℕ → Bool
good_sector q x = eqb (length (sector q x)) q && not (bad_points q (sector q x))

pub record Tested (q : ℕ) : Type 0 where
  pub degree : bad_degree q ≡ false
  pub symbols : q * q ≡ 2 ^ q
  pub points : bad_points q (numbers (q * q)) ≡ false
  pub sectors : T (all_below (q * q) (good_sector q))
  -- 'q³ of them'
  pub count : length (ring_points q) ≡ q * q * q

tested_2 : Tested 2
unfolding bad_degree bad_points some_outside_field outside_field repeated is_in numbers sector those on_curve raised ring_points
    plus modulus times_x times_low times flat_map
tested_2 = record { degree = refl; symbols = refl; points = refl; sectors = tt; count = refl }

tested_4 : Tested 4
unfolding bad_degree bad_points some_outside_field outside_field repeated is_in numbers sector those on_curve raised ring_points
    plus modulus times_x times_low times flat_map
tested_4 = record { degree = refl; symbols = refl; points = refl; sectors = tt; count = refl }

pub tested : (q : ℕ) → bad_size q ≡ false → Tested q
tested q h = each Tested q h tested_2 tested_4

passes : (b : Bool) → T (not b) → b ≡ false
passes true t = elim t [ ]
passes false t = refl

-- 'In each sector the values at q distinct y'
pub record Sector (q x : ℕ) : Type 0 where
  pub size : length (sector q x) ≡ q
  pub points : Points q (sector q x)

pub sectors : (q : ℕ) → bad_size q ≡ false → (x : ℕ) → x < q * q → Sector q x
sectors q h x k =
    let t = both (eqb (length (sector q x)) q) (not (bad_points q (sector q x))) (below (q * q) (good_sector q) (tested q h).sectors x k) in
    let p = (points_test q (sector q x)).0 (passes (bad_points q (sector q x)) t.1) in
    record { size = eqb→eq (length (sector q x)) q t.0; points = record { symbols = p.0; distinct = p.1 } }

pub orders : (q m : ℕ) → bad_order q m ≡ false → (q * q - 1 ≤ m) × (m ≤ q * q * q - 1)
unfolding bad_order
orders q m h = within (q * q - 1) (q * q * q - 1) m h

lengths_2 : (m : ℕ) → 3 ≤ m → m ≤ 7 → Within 1 4 (ring_lengths 2 m)
unfolding numbers ring_length
lengths_2 m l h = ((omega arith, omega arith), ((omega arith, omega arith), tt))

lengths_4 : (m : ℕ) → 15 ≤ m → m ≤ 63 → Within 1 16 (ring_lengths 4 m)
unfolding numbers ring_length
lengths_4 m l h =
    ((omega arith, omega arith), ((omega arith, omega arith), ((omega arith, omega arith), ((omega arith, omega arith), tt))))

-- 1 ≤ k_j ≤ q²
pub ring_lengths_lem : (q m : ℕ) → bad_size q ≡ false → bad_order q m ≡ false → Within 1 (q * q) (ring_lengths q m)
ring_lengths_lem q m h b = each (λ q. q * q - 1 ≤ m → m ≤ q * q * q - 1 → Within 1 (q * q) (ring_lengths q m)) q h (lengths_2 m) (lengths_4 m)
    (orders q m b).0 (orders q m b).1

-- 'some k equals n': none but the first can
shorter : (n k : ℕ) (ks : List ℕ) → All (λ (j : ℕ). j < n) ks → is_in n (k ∷ ks) ≡ eqb n k
unfolding is_in
shorter n k ks h = rw (absent n ks h) (or-false (eqb n k))
  where
    or-false : (b : Bool) → (b || false) ≡ b
    or-false true = refl
    or-false false = refl

    absent : (n : ℕ) (ks : List ℕ) → All (λ (j : ℕ). j < n) ks → is_in n ks ≡ false
    absent n [] h = refl
    absent n (k ∷ ks) h = rw (ne_eqb n k (λ e. omega (arith, h.0)), absent n ks h.1)

first_2 : (m : ℕ) → 3 ≤ m → m ≤ 7 → is_in 4 (ring_lengths 2 m) ≡ eqb 4 (ring_length 2 m 0)
unfolding numbers ring_length
first_2 m l h = shorter 4 _ _ (omega arith, tt)

first_4 : (m : ℕ) → 15 ≤ m → m ≤ 63 → is_in 16 (ring_lengths 4 m) ≡ eqb 16 (ring_length 4 m 0)
unfolding numbers ring_length
first_4 m l h = shorter 16 _ _ (omega arith, (omega arith, (omega arith, tt)))

pub first_judged : (q m : ℕ) → bad_size q ≡ false → bad_order q m ≡ false → unchecked (ring_code q m) ≡ eqb (q * q) (ring_length q m 0)
first_judged q m h b = rw (length-numbers (q * q))
    (each (λ q. q * q - 1 ≤ m → m ≤ q * q * q - 1 → is_in (q * q) (ring_lengths q m) ≡ eqb (q * q) (ring_length q m 0)) q h
    (first_2 m) (first_4 m) (orders q m b).0 (orders q m b).1)

-- an equation that holds from m = k on
from : (n a k m : ℕ) → (k ≤ m → n ≡ a) → (m < k → ¬ (n ≡ a)) → eqb n a ≡ leb k m
from n a k m above below = go (dec_le k m)
  where
    go : Dec (k ≤ m) → eqb n a ≡ leb k m
    go (yes h) = eq-eqb n a (above h) ∙ sym (le-leb k m h)
    go (no h) = ne_eqb n a (below (omega arith)) ∙ sym (lt-leb k m (omega arith))

orders_2 : (m : ℕ) → 3 ≤ m → m ≤ 7 → eqb 4 (ring_length 2 m 0) ≡ leb 6 m
unfolding ring_length
orders_2 m l h = from 4 (ring_length 2 m 0) 6 m (λ a. omega arith) (λ b e. omega arith)

orders_4 : (m : ℕ) → 15 ≤ m → m ≤ 63 → eqb 16 (ring_length 4 m 0) ≡ leb 60 m
unfolding ring_length
orders_4 m l h = from 16 (ring_length 4 m 0) 60 m (λ a. omega arith) (λ b e. omega arith)

-- 02, 2026-05: 'for q=4, m from 60 to 63, for q=2, m of 6 and 7 are refused'
pub refused_orders : (q m : ℕ) → bad_size q ≡ false → bad_order q m ≡ false → unchecked (ring_code q m) ≡ leb (q * q * q - q) m
refused_orders q m h b = first_judged q m h b
    ∙ each (λ q. q * q - 1 ≤ m → m ≤ q * q * q - 1 → eqb (q * q) (ring_length q m 0) ≡ leb (q * q * q - q) m) q h
    (orders_2 m) (orders_4 m) (orders q m b).0 (orders q m b).1

-- what working out k_j in numbers of the machine asks
pub record Room (q m j : ℕ) : Type 0 where
  pub least : j * (q + 1) ≤ m
  pub most : m ≤ 63
  pub small : (m - j * (q + 1)) / q + 1 ≤ 16
  pub some : 0 < q

room_2 : (m j : ℕ) → 3 ≤ m → m ≤ 7 → j < 2 → Room 2 m j
room_2 m j l h k = record { least = omega arith; most = omega arith; small = omega arith; some = omega arith }

room_4 : (m j : ℕ) → 15 ≤ m → m ≤ 63 → j < 4 → Room 4 m j
room_4 m j l h k = record { least = omega arith; most = omega arith; small = omega arith; some = omega arith }

pub room : (q m j : ℕ) → bad_size q ≡ false → bad_order q m ≡ false → j < q → Room q m j
room q m j h b = each (λ q. q * q - 1 ≤ m → m ≤ q * q * q - 1 → j < q → Room q m j) q h (room_2 m j) (room_4 m j)
    (orders q m b).0 (orders q m b).1

pub ring_rows : (q m : ℕ) → length (ring_lengths q m) ≡ q
ring_rows q m = length-map (numbers q) (ring_length q m) ∙ length-numbers q

pub ring_cells : (q m : ℕ) → length (ring_lengths q m) * length (numbers (q * q)) ≡ q * q * q
ring_cells q m = rw (ring_rows q m, length-numbers (q * q)) (mul_comm q (q * q))

module _ (q m : ℕ) (size : bad_size q ≡ false) (order : bad_order q m ≡ false) where
  within_columns : Within 1 (length (numbers (q * q))) (ring_lengths q m)
  within_columns = rw (length-numbers (q * q)) (ring_lengths_lem q m size order)

  pub ring_proper : Proper (ring_code q m)
  ring_proper = record {
    field = field q (tested q size).degree;
    symbols = ((points_test q (numbers (q * q))).0 (tested q size).points).0;
    distinct = ((points_test q (numbers (q * q))).0 (tested q size).points).1;
    lengths = within_columns;
  }

  pub ring_counts : Counts (ring_code q m)
  ring_counts = record {
    degree = (tested q size).degree;
    some_rows = rw (ring_rows q m) b.some;
    most_rows = rw (ring_rows q m) b.side;
    some_columns = rw (length-numbers (q * q)) b.some_columns;
    most_columns = rw (length-numbers (q * q)) (omega (arith, b.columns));
    lengths = within_columns;
    fits = total-most (length (numbers (q * q))) (ring_lengths q m) within_columns;
    cells = rw (ring_rows q m, length-numbers (q * q)) (omega (arith, b));
  }
    where
      b : Sides q q
      b = sides q q size refl
