-- A ring and its array: each determines the other.
--
--   array_of q w           the array of a ring: column x has the coefficients that the sector's symbols fix
--   column_array          that column
--   ring_of_array, array_of_ring    the ring of that array is the ring, and the array of its ring is the array
--   is_ring, is_array     the ring of an array has q³ symbols, and so has the array of a ring
--   array_exactly         a is the array of w exactly when it is array_of q w, so that there is no other
--   same_sector           two rings agree in a sector exactly when their arrays agree in that column
-- Assumes nothing.
use mathlib.Core.Path.{◌≡◌, sym, ap, ◌∙◌, subst}
use mathlib.Core.Logic.Iff
use mathlib.Core.Logic.{◌↔◌}
use mathlib.Core.Bool.{false}
use mathlib.Core.List.{List, [], ◌∷◌, map, flat_map}
use Prim.Native.Nat.{ℕ, ◌*◌, ◌+◌, ◌^◌, ◌<◌}
use native.Mathlib.Nat.{mul_comm}
use native.Mathlib.Omega.{arith}
use native.Mathlib.Decide.{dec_lt}
use lib.ListN.{length, get_or, drop, get_or-eq_default}
use lib.Pow.{pow_pos}
use Rattle.patch.specs.Parts.{part}
use Rattle.patch.proofs.Parts.{length_part}
use Rattle.field.specs.Symbols.{IsSymbol}
use Rattle.field.specs.Arithmetic.{gf}
use Rattle.field.proofs.Laws.{Field}
use Rattle.field.proofs.Instance.{field}
use Rattle.poly.specs.Poly.{All, Poly, values_at}
use Rattle.poly.proofs.Forms.{reduce, from_newton}
use Rattle.poly.proofs.Values.{length-values, symbols_values}
use Rattle.poly.proofs.Differences.{length_reduce, symbols_reduce}
use Rattle.poly.proofs.Newton.{poly_newton, newton_all, newton_unique}
use Rattle.rows.proofs.Symbols.{symbol_at}
use Rattle.codes.specs.Code.{differs_at}
use Rattle.codes.proofs.Parts.{all_take, all_drop}
use Rattle.codes.proofs.Columns.{differs_exactly}
use Rattle.hermitian.specs.Ring.{numbers, sector, IsRing, column, ring_of, ArrayOf, ring_code}
use Rattle.hermitian.specs.Checks.{bad_size}
use Rattle.hermitian.proofs.Numbers
use Rattle.hermitian.proofs.Sizes.{tested, Sector, sectors, ring_rows}

-- the coefficients of the polynomial that has the values v at the y of the sector
unfoldable pub coefficients : ℕ → ℕ → List ℕ → List ℕ
coefficients q x v = from_newton (gf q) q (sector q x) (reduce (gf q) q (sector q x) v)

-- the columns of the array, one after the other
unfoldable pub columns_of : ℕ → List ℕ → List ℕ
columns_of q w = flat_map (λ x. coefficients q x (part (x * q) q w)) (numbers (q * q))

unfoldable pub array_of : ℕ → List ℕ → List ℕ
array_of q w = Numbers.turned (q * q) q (columns_of q w)

module _ (q : ℕ) where
  zero-symbol : 0 < 2 ^ q
  zero-symbol = pow_pos q

  -- what stands at any place, inside the list or beyond it
  symbol_any : (l : List ℕ) (i : ℕ) → All (IsSymbol q) l → get_or l i 0 < 2 ^ q
  symbol_any l i s = go (dec_lt i (length l))
    where
      go : Dec (i < length l) → get_or l i 0 < 2 ^ q
      go (yes h) = symbol_at q l i s h
      go (no h) = rw (get_or-eq_default l 0 {n = i} (omega arith)) zero-symbol

  symbols_map : (f : ℕ → ℕ) (l : List ℕ) → ((j : ℕ) → f j < 2 ^ q) → All (IsSymbol q) (map f l)
  symbols_map f [] h = tt
  symbols_map f (j ∷ l) h = (h j, symbols_map f l h)

  pub symbols_column : (r n : ℕ) (a : List ℕ) (x : ℕ) → All (IsSymbol q) a → All (IsSymbol q) (column r n a x)
  unfolding column
  symbols_column r n a x s = symbols_map (λ j. get_or a (j * n + x) 0) (numbers r) (λ j. symbol_any a (j * n + x) s)

  pub symbols_sector : (x : ℕ) (w : List ℕ) → All (IsSymbol q) w → All (IsSymbol q) (part (x * q) q w)
  unfolding part
  symbols_sector x w s = all_take (IsSymbol q) q (drop (x * q) w) (all_drop (IsSymbol q) (x * q) w s)

module _ (q : ℕ) (size : bad_size q ≡ false) where
  pub ring_field : Field (gf q)
  ring_field = field q (tested q size).degree

  module _ (x : ℕ) (below : x < q * q) where
    s : Sector q x
    s = sectors q size x below

    pub coefficients_poly : (v : List ℕ) → length v ≡ q → All (IsSymbol q) v → Poly (gf q) q (coefficients q x v)
    unfolding coefficients
    coefficients_poly v l i =
        let sized : length v ≡ length (sector q x) = omega (arith, s.size) in
        poly_newton (gf q) ring_field q (sector q x) (reduce (gf q) q (sector q x) v)
        (omega (arith, s.size))
        (omega (arith, s.size, length_reduce (gf q) ring_field q (sector q x) v sized))
        (symbols_reduce (gf q) ring_field q (sector q x) v i)

    -- 'In each sector the values at q distinct y fix f_0(x), …, f_(q−1)(x)'
    pub values_fix : (v : List ℕ) → length v ≡ q → All (IsSymbol q) v → values_at (gf q) (sector q x) (coefficients q x v) ≡ v
    unfolding coefficients
    values_fix v l i =
        let e : length (sector q x) ≡ q = s.size in
        subst (λ (k : ℕ). values_at (gf q) (sector q x) (from_newton (gf q) k (sector q x) (reduce (gf q) k (sector q x) v)) ≡ v) e
        (newton_all (gf q) ring_field (sector q x) v s.points.distinct s.points.symbols i (omega arith))

    -- 'and the reverse'
    pub fix_values : (p : List ℕ) → Poly (gf q) q p → coefficients q x (values_at (gf q) (sector q x) p) ≡ p
    unfolding coefficients
    fix_values p h = newton_unique (gf q) ring_field q (sector q x) p s.points.distinct s.points.symbols (omega (arith, s.size)) h

  pub length-sector : (x : ℕ) (w : List ℕ) → x < q * q → length w ≡ q * q * q → length (part (x * q) q w) ≡ q
  length-sector x w h e = length_part (x * q) q w (omega (arith, Numbers.part_fits q (q * q) x h))

  column_poly : (a : List ℕ) (x : ℕ) → All (IsSymbol q) a → Poly (gf q) q (column q (q * q) a x)
  column_poly a x s = record { count = Numbers.length-column q (q * q) a x; symbols = symbols_column q q (q * q) a x s }

  values_length : (a : List ℕ) (x : ℕ) → x < q * q → length (values_at (gf q) (sector q x) (column q (q * q) a x)) ≡ q
  values_length a x h = length-values (gf q) ring_field (sector q x) (column q (q * q) a x) ∙ (sectors q size x h).size

  module _ {a : List ℕ} (h : IsRing q a) where
    pub is_ring : IsRing q (ring_of q a)
    unfolding ring_of
    is_ring = record {
      count = Numbers.length_flat q (λ x. values_at (gf q) (sector q x) (column q (q * q) a x)) (q * q) (values_length a);
      symbols = Numbers.all_flat (IsSymbol q) (λ x. values_at (gf q) (sector q x) (column q (q * q) a x)) (q * q)
          (λ x k. symbols_values (gf q) ring_field (sector q x) (column q (q * q) a x) (column_poly a x h.symbols).symbols);
    }

    -- a sector's symbols are the values of the polynomial that is the array's column
    pub sector_ring : (x : ℕ) → x < q * q → part (x * q) q (ring_of q a) ≡ values_at (gf q) (sector q x) (column q (q * q) a x)
    unfolding ring_of
    sector_ring x k =
        Numbers.part_flat q (λ x. values_at (gf q) (sector q x) (column q (q * q) a x)) (q * q) x (values_length a) k

  module _ {w : List ℕ} (h : IsRing q w) where
    sector_poly : (x : ℕ) → x < q * q → Poly (gf q) q (coefficients q x (part (x * q) q w))
    sector_poly x k = coefficients_poly x k (part (x * q) q w) (length-sector x w k h.count) (symbols_sector q x w h.symbols)

    fixed : (x : ℕ) → x < q * q → values_at (gf q) (sector q x) (coefficients q x (part (x * q) q w)) ≡ part (x * q) q w
    fixed x k = values_fix x k (part (x * q) q w) (length-sector x w k h.count) (symbols_sector q x w h.symbols)

    pub columns-length : length (columns_of q w) ≡ q * q * q
    unfolding columns_of
    columns-length = Numbers.length_flat q (λ x. coefficients q x (part (x * q) q w)) (q * q) (λ x k. (sector_poly x k).count)

    columns_symbols : All (IsSymbol q) (columns_of q w)
    unfolding columns_of
    columns_symbols = Numbers.all_flat (IsSymbol q) (λ x. coefficients q x (part (x * q) q w)) (q * q) (λ x k. (sector_poly x k).symbols)

    pub is_array : IsRing q (array_of q w)
    unfolding array_of
    is_array = record {
      count = Numbers.length-turned (q * q) q (columns_of q w) ∙ mul_comm q (q * q);
      symbols = Numbers.all_flat (IsSymbol q) (column (q * q) q (columns_of q w)) q
          (λ j k. symbols_column q (q * q) q (columns_of q w) j columns_symbols);
    }

    pub column_array : (x : ℕ) → x < q * q → column q (q * q) (array_of q w) x ≡ coefficients q x (part (x * q) q w)
    unfolding array_of
    column_array x k =
        Numbers.column-turned (q * q) q (columns_of q w) x k columns-length
        ∙ unfold columns_of in Numbers.part_flat q (λ x. coefficients q x (part (x * q) q w)) (q * q) x (λ y j. (sector_poly y j).count) k

    pub ring_of_array : ring_of q (array_of q w) ≡ w
    unfolding ring_of
    ring_of_array =
        Numbers.flat_cong (λ x. values_at (gf q) (sector q x) (column q (q * q) (array_of q w) x)) (λ x. part (x * q) q w) (q * q)
        (λ x k. ap (values_at (gf q) (sector q x)) (column_array x k) ∙ fixed x k)
        ∙ Numbers.flat_parts q (q * q) w h.count

  pub array_of_ring : {a : List ℕ} → IsRing q a → array_of q (ring_of q a) ≡ a
  unfolding array_of columns_of
  array_of_ring {a} h =
      ap (Numbers.turned (q * q) q)
      (Numbers.flat_cong (λ x. coefficients q x (part (x * q) q (ring_of q a))) (column q (q * q) a) (q * q)
      (λ x k. ap (coefficients q x) (sector_ring h x k) ∙ fix_values x k (column q (q * q) a x) (column_poly a x h.symbols)))
      ∙ Numbers.turned_twice q (q * q) a (h.count ∙ mul_comm (q * q) q)

  -- the array of a ring, and that there is no other
  pub array_exactly : {w : List ℕ} → IsRing q w → (a : List ℕ) → ArrayOf q w a ↔ (array_of q w ≡ a)
  array_exactly {w} h a = (
    λ r. ap (array_of q) (sym r.ring) ∙ array_of_ring r.array,
    λ e. subst (ArrayOf q w) e (record { array = is_array h; ring = ring_of_array h }),
  )

  same_column : (m : ℕ) (a b : List ℕ) (x : ℕ) → (differs_at (ring_code q m) a b x ≡ false) ↔ (column q (q * q) a x ≡ column q (q * q) b x)
  same_column m a b x = rw (ring_rows q m, Numbers.length-numbers (q * q))
      (Iff.trans (differs_exactly q (q * q) x a b) (Numbers.column_same q (q * q) a b x))

  -- two rings differ in a sector exactly when their arrays differ in that column
  pub same_sector : (m : ℕ) {v w : List ℕ} → IsRing q v → IsRing q w → (x : ℕ) → x < q * q
      → (differs_at (ring_code q m) (array_of q v) (array_of q w) x ≡ false) ↔ (part (x * q) q v ≡ part (x * q) q w)
  same_sector m {v} {w} h g x k = Iff.trans (same_column m (array_of q v) (array_of q w) x) (
    λ e. sym (fixed h x k) ∙ ap (values_at (gf q) (sector q x)) (sym (column_array h x k) ∙ e ∙ column_array g x k) ∙ fixed g x k,
    λ e. column_array h x k ∙ ap (coefficients q x) e ∙ sym (column_array g x k),
  )
