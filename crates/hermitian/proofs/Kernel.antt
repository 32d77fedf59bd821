-- The array of a ring without a division: the coefficients of a sector's polynomial are sums of its symbols times powers of their y.
--
--   sum_to f n            f 0 + … + f (n − 1)
--   powered d y u m      y^m·u
--   kernel d m y z       y^(m − 1) + y^(m − 2)·z + … + z^(m − 1)
--   kernels              in a sector 1 and the kernel of q make 1 where y is z, and else 0; antt computes it. The kernel of q is
--                        (y^q − z^q)/(y − z), and y^q − z^q = z − y on the curve
--   Summed q w a         a has in row j the sums over the sectors of the symbols times y^(q − 1 − j), and in row 0 those of the symbols too
--   summed_array         such an array is the array of w
-- Assumes nothing.
use mathlib.Core.Path.{◌≡◌, refl, sym, ap, ap₂, ◌∙◌}
use mathlib.Core.Bool.{Bool, false, cond}
use mathlib.Core.List.{List, [], ◌∷◌}
use Prim.Native.Nat.{ℕ, zero, suc, ◌+◌, ◌-◌, ◌*◌, ◌/◌, ◌%◌, ◌^◌, ◌<◌}
use native.Mathlib.Nat.{mod-lt, div-add-mod', div-lt_iff_lt-mul, zero-add, zero-mul}
use native.Mathlib.Decide.{ℕ_discrete}
use native.Mathlib.Omega.{arith}
use lib.Dec.{T, eqb, eqb→eq}
use lib.ListN.{length, get_or, length-map}
use lib.Seq.{ext_get_or}
use borrow.Author.Tests.{eq-eqb, ne_eqb}
use Rattle.patch.specs.Parts.{part}
use Rattle.patch.proofs.Parts.{get_d_part}
use Rattle.field.specs.Symbols.{plus, modulus, times_x, times_low, times, raised}
use Rattle.field.specs.Arithmetic.{gf}
use Rattle.field.proofs.Laws.{Field}
use Rattle.field.proofs.Products.{all_below, below}
use Rattle.poly.specs.Poly.{value, values_at}
use Rattle.poly.proofs.Ring.{zero_plus, plus-zero, plus_assoc, plus-left_comm, times_zero, times_comm, times_plus, times-left_comm}
use Rattle.poly.proofs.Ring.{one_times}
use Rattle.rows.proofs.Symbols.{symbol_at, symbols_by}
use Rattle.hermitian.specs.Ring.{numbers, on_curve, those, sector, column, ring_of, IsRing, ArrayOf}
use Rattle.hermitian.specs.Checks.{bad_size}
use Rattle.hermitian.proofs.Numbers.{map_at, flat_cong, flat_parts, length-column, column_at, part_fits}
use Rattle.hermitian.proofs.Sizes.{each, sides, sectors}
use Rattle.hermitian.proofs.Rings.{ring_field, length-sector}

unfoldable pub sum_to : (ℕ → ℕ) → ℕ → ℕ
sum_to f zero = 0
sum_to f (suc n) = plus (sum_to f n) (f n)

unfoldable pub powered : ℕ → ℕ → ℕ → ℕ → ℕ
powered d y u zero = u
powered d y u (suc m) = times d y (powered d y u m)

unfoldable kernel : ℕ → ℕ → ℕ → ℕ → ℕ
kernel d zero y z = 0
kernel d (suc m) y z = plus (powered d y 1 m) (times d z (kernel d m y z))

-- f (m − 1), …, f 0
unfoldable coefs : (ℕ → ℕ) → ℕ → List ℕ
coefs f zero = []
coefs f (suc m) = f m ∷ coefs f m

length_coefs : (f : ℕ → ℕ) (m : ℕ) → length (coefs f m) ≡ m
unfolding coefs
length_coefs f zero = refl
length_coefs f (suc m) = ap suc (length_coefs f m)

coefs_at : (f : ℕ → ℕ) (m j : ℕ) → j < m → get_or (coefs f m) j 0 ≡ f (m - 1 - j)
unfolding coefs
coefs_at f zero j h = absurd (let z : j < 0 = h in omega arith)
coefs_at f (suc m) zero h = let e : m ≡ suc m - 1 - 0 = omega arith in ap f e
coefs_at f (suc m) (suc j) h = coefs_at f m j (omega arith) ∙ (let e : m - 1 - j ≡ suc m - 1 - suc j = omega arith in ap f e)

pub sum_cong : (f g : ℕ → ℕ) (n : ℕ) → ((i : ℕ) → i < n → f i ≡ g i) → sum_to f n ≡ sum_to g n
unfolding sum_to
sum_cong f g zero h = refl
sum_cong f g (suc n) h = ap₂ plus (sum_cong f g n (λ i k. h i (omega arith))) (h n (omega arith))

-- ---- sums of symbols

module _ (d : ℕ) (𝓕 : Field (gf d)) where
  sum-zero : (f : ℕ → ℕ) (n : ℕ) → ((i : ℕ) → i < n → f i ≡ 0) → sum_to f n ≡ 0
  unfolding sum_to
  sum-zero f zero h = refl
  sum-zero f (suc n) h = rw (sum-zero f n (λ i k. h i (omega arith)), h n (omega arith)) (plus-zero (gf d) 𝓕 0)

  four_plus : (a b c e : ℕ) → plus (plus a b) (plus c e) ≡ plus (plus a c) (plus b e)
  four_plus a b c e =
      plus_assoc (gf d) 𝓕 a b (plus c e) ∙ ap (plus a) (plus-left_comm (gf d) 𝓕 b c e) ∙ sym (plus_assoc (gf d) 𝓕 a c (plus b e))

  sum-plus : (f g : ℕ → ℕ) (n : ℕ) → plus (sum_to f n) (sum_to g n) ≡ sum_to (λ i. plus (f i) (g i)) n
  unfolding sum_to
  sum-plus f g zero = plus-zero (gf d) 𝓕 0
  sum-plus f g (suc n) = four_plus (sum_to f n) (f n) (sum_to g n) (g n) ∙ ap (λ (s : ℕ). plus s (plus (f n) (g n))) (sum-plus f g n)

  sum-times : (c : ℕ) (f : ℕ → ℕ) (n : ℕ) → times d c (sum_to f n) ≡ sum_to (λ i. times d c (f i)) n
  unfolding sum_to
  sum-times c f zero = times_zero (gf d) 𝓕 c
  sum-times c f (suc n) = times_plus (gf d) 𝓕 c (sum_to f n) (f n) ∙ ap (λ (s : ℕ). plus s (times d c (f n))) (sum-times c f n)

  sum_in : (f : ℕ → ℕ) (n : ℕ) → ((i : ℕ) → i < n → f i < 2 ^ d) → sum_to f n < 2 ^ d
  unfolding sum_to
  sum_in f zero h = 𝓕.zero_in
  sum_in f (suc n) h = 𝓕.plus_in _ _ (sum_in f n (λ i k. h i (omega arith))) (h n (omega arith))

  times_one : (u : ℕ) → u < 2 ^ d → times d u 1 ≡ u
  times_one u h = times_comm (gf d) 𝓕 u 1 ∙ one_times (gf d) 𝓕 h

  -- the sum of what is nothing but at t
  sum_pick : (u K : ℕ → ℕ) (t n : ℕ) → t < n → u t < 2 ^ d → K t ≡ 1 → ((i : ℕ) → i < n → (i ≡ t → ⊥) → K i ≡ 0)
      → sum_to (λ i. times d (u i) (K i)) n ≡ u t
  unfolding sum_to
  sum_pick u K t zero h s one none = absurd (let z : t < 0 = h in omega arith)
  sum_pick u K t (suc n) h s one none =
      by (λ k. sum_pick u K t n k s one (λ i g f. none i (omega arith) f)) (ℕ_discrete t n)
    where
      by : (t < n → sum_to (λ i. times d (u i) (K i)) n ≡ u t) → Dec (t ≡ n)
          → plus (sum_to (λ i. times d (u i) (K i)) n) (times d (u n) (K n)) ≡ u t
      by rest (yes e) =
          let before : sum_to (λ i. times d (u i) (K i)) n ≡ 0 =
          sum-zero _ n (λ i k. rw (none i (omega arith) (λ f. omega arith)) (times_zero (gf d) 𝓕 (u i))) in
          ap₂ plus before (rw (← e, one) (times_one (u t) s)) ∙ zero_plus (gf d) 𝓕 (u t)
      by rest (no e) =
          ap₂ plus (rest (omega arith))
          (rw (none n (omega arith) (λ f. e (sym f))) (times_zero (gf d) 𝓕 (u n))) ∙ plus-zero (gf d) 𝓕 (u t)

  pub powered_in : (y u m : ℕ) → u < 2 ^ d → powered d y u m < 2 ^ d
  unfolding powered
  powered_in y u zero h = h
  powered_in y u (suc m) h = 𝓕.times_in _ _

  powered_times : (y u m : ℕ) → u < 2 ^ d → powered d y u m ≡ times d u (powered d y 1 m)
  unfolding powered
  powered_times y u zero h = sym (times_one u h)
  powered_times y u (suc m) h = ap (times d y) (powered_times y u m h) ∙ times-left_comm (gf d) 𝓕 y u (powered d y 1 m)

  -- ---- the values of a polynomial whose coefficients are such sums

  module _ (y u : ℕ → ℕ) (n : ℕ) (symbols : (i : ℕ) → i < n → u i < 2 ^ d) where
    abbrev row_sum : ℕ → ℕ
    row_sum m = sum_to (λ i. powered d (y i) (u i) m) n

    value_coefs : (m z : ℕ) → value (gf d) (coefs row_sum m) z ≡ sum_to (λ i. times d (u i) (kernel d m (y i) z)) n
    unfolding coefs value kernel
    value_coefs zero z = sym (sum-zero _ n (λ i k. times_zero (gf d) 𝓕 (u i)))
    value_coefs (suc m) z =
        ap (λ (s : ℕ). plus (row_sum m) (times d z s)) (value_coefs m z)
        ∙ ap (plus (row_sum m)) (sum-times z (λ i. times d (u i) (kernel d m (y i) z)) n)
        ∙ sum-plus (λ i. powered d (y i) (u i) m) (λ i. times d z (times d (u i) (kernel d m (y i) z))) n
        ∙ sum_cong _ _ n (λ i k. ap₂ plus (powered_times (y i) (u i) m (symbols i k)) (times-left_comm (gf d) 𝓕 z (u i)
        (kernel d m (y i) z))
        ∙ sym (times_plus (gf d) 𝓕 (u i) (powered d (y i) 1 m) (times d z (kernel d m (y i) z))))

    value-first : (m z : ℕ)
        → plus (sum_to (λ i. plus (powered d (y i) (u i) m) (u i)) n) (times d z (value (gf d) (coefs row_sum m) z))
        ≡ sum_to (λ i. times d (u i) (plus 1 (kernel d (suc m) (y i) z))) n
    unfolding coefs value
    value-first m z =
        ap (λ (s : ℕ). plus s (times d z (value (gf d) (coefs row_sum m) z))) (sym (sum-plus (λ i. powered d (y i) (u i) m) u n))
        ∙ plus_assoc (gf d) 𝓕 (row_sum m) (sum_to u n) _ ∙ plus-left_comm (gf d) 𝓕 (row_sum m) (sum_to u n) _
        ∙ ap (plus (sum_to u n)) (value_coefs (suc m) z)
        ∙ sum-plus u (λ i. times d (u i) (kernel d (suc m) (y i) z)) n
        ∙ sum_cong _ _ n (λ i k. ap (λ (s : ℕ). plus s (times d (u i) (kernel d (suc m) (y i) z))) (sym (times_one (u i) (symbols i k)))
        ∙ sym (times_plus (gf d) 𝓕 (u i) 1 (kernel d (suc m) (y i) z)))

-- ---- the sectors

abbrev good_pair : ℕ → List ℕ → ℕ → ℕ → Bool
good_pair q ys i t = eqb (plus 1 (kernel q q (get_or ys i 0) (get_or ys t 0))) (cond (eqb i t) 1 0)

abbrev good_pairs : ℕ → List ℕ → Bool
good_pairs q ys = all_below q λ i. all_below q λ t. good_pair q ys i t

abbrev good_kernels : ℕ → Type 0
good_kernels q = T (all_below (q * q) λ x. let ys = sector q x in good_pairs q ys)

kernels_2 : good_kernels 2
unfolding numbers sector those on_curve raised plus modulus times_x times_low times kernel powered
kernels_2 = tt

kernels_4 : good_kernels 4
unfolding numbers sector those on_curve raised plus modulus times_x times_low times kernel powered
kernels_4 = tt

kernels : (q : ℕ) → bad_size q ≡ false → (x i t : ℕ) → x < q * q → i < q → t < q
    → plus 1 (kernel q q (get_or (sector q x) i 0) (get_or (sector q x) t 0)) ≡ cond (eqb i t) 1 0
kernels q size x i t hx hi ht =
    eqb→eq _ _ (below q (good_pair q (sector q x) i) (below q (λ i. all_below q (good_pair q (sector q x) i))
    (below (q * q) (λ x. good_pairs q (sector q x)) (each good_kernels q size kernels_2 kernels_4) x hx) i hi) t ht)

pub record Summed (q : ℕ) (w a : List ℕ) : Type 0 where
  pub first : (x : ℕ) → x < q * q
      → get_or a x 0 ≡ sum_to (λ i. plus (powered q (get_or (sector q x) i 0) (get_or w (x * q + i) 0) (q - 1)) (get_or w (x * q + i) 0)) q
  pub later : (j x : ℕ) → 0 < j → j < q → x < q * q
      → get_or a (j * (q * q) + x) 0 ≡ sum_to (λ i. powered q (get_or (sector q x) i 0) (get_or w (x * q + i) 0) (q - 1 - j)) q

module _ (q : ℕ) (size : bad_size q ≡ false) {w a : List ℕ} (ring : IsRing q w) (long : length a ≡ q * q * q) (s : Summed q w a) where
  𝓕 : Field (gf q)
  𝓕 = ring_field q size

  some : 0 < q
  some = (sides q q size refl).some

  symbol : (x i : ℕ) → x < q * q → i < q → get_or w (x * q + i) 0 < 2 ^ q
  symbol x i hx hi = symbol_at q w (x * q + i) ring.symbols (omega (arith, part_fits q (q * q) x hx, ring.count))

  module _ (x : ℕ) (hx : x < q * q) where
    abbrev ys : ℕ → ℕ
    ys i = get_or (sector q x) i 0

    abbrev us : ℕ → ℕ
    us i = get_or w (x * q + i) 0

    abbrev sums : ℕ → ℕ
    sums m = sum_to (λ i. powered q (ys i) (us i) m) q

    abbrev head : ℕ
    head = sum_to (λ i. plus (powered q (ys i) (us i) (q - 1)) (us i)) q

    column_sums : column q (q * q) a x ≡ head ∷ coefs sums (q - 1)
    column_sums =
        ext_get_or 0 (column q (q * q) a x) (head ∷ coefs sums (q - 1))
        (length-column q (q * q) a x ∙ (let e : q ≡ suc (q - 1) = omega (arith, some) in e) ∙ ap suc (sym (length_coefs sums (q - 1))))
        (λ j h. by j (omega (arith, length-column q (q * q) a x)))
      where
        by : (j : ℕ) → j < q → get_or (column q (q * q) a x) j 0 ≡ get_or (head ∷ coefs sums (q - 1)) j 0
        by zero h = column_at q (q * q) a x 0 h ∙ ap (λ (k : ℕ). get_or a k 0) (rw (zero-mul (q * q)) (zero-add x)) ∙ s.first x hx
        by (suc j) h =
            let e : q - 1 - suc j ≡ q - 1 - 1 - j = omega arith in
            column_at q (q * q) a x (suc j) h ∙ s.later (suc j) x (omega arith) h hx
            ∙ ap sums e ∙ sym (coefs_at sums (q - 1) j (omega arith))

    pair_one : (t : ℕ) → t < q → plus 1 (kernel q q (ys t) (ys t)) ≡ 1
    pair_one t h = kernels q size x t t hx h h ∙ rw (eq-eqb t t refl) refl

    pair_none : (i t : ℕ) → i < q → t < q → (i ≡ t → ⊥) → plus 1 (kernel q q (ys i) (ys t)) ≡ 0
    pair_none i t hi h n = kernels q size x i t hx hi h ∙ rw (ne_eqb i t n) refl

    value-is : (t : ℕ) → t < q → value (gf q) (column q (q * q) a x) (ys t) ≡ us t
    unfolding value
    value-is t h =
        let e : suc (q - 1) ≡ q = omega (arith, some) in
        ap (λ (p : List ℕ). value (gf q) p (ys t)) column_sums
        ∙ value-first q 𝓕 ys us q (λ i k. symbol x i hx k) (q - 1) (ys t)
        ∙ ap (λ (m : ℕ). sum_to (λ i. times q (us i) (plus 1 (kernel q m (ys i) (ys t)))) q) e
        ∙ sum_pick q 𝓕 us (λ i. plus 1 (kernel q q (ys i) (ys t))) t q h (symbol x t hx h) (pair_one t h) (λ i k n. pair_none i t k h n)

    sector_is : values_at (gf q) (sector q x) (column q (q * q) a x) ≡ part (x * q) q w
    unfolding values_at
    sector_is =
        let p : List ℕ = column q (q * q) a x in
        let count : length (sector q x) ≡ q = (sectors q size x hx).size in
        ext_get_or 0 _ _ (length-map (sector q x) (value (gf q) p) ∙ count ∙ sym (length-sector q size x w hx ring.count))
        (λ t h. let below : t < q = omega (arith, length-map (sector q x) (value (gf q) p)) in
        map_at (value (gf q) p) (sector q x) t 0 (omega arith) ∙ value-is t below ∙ sym (get_d_part (x * q) q w t below))

  symbols_are : (i : ℕ) → i < length a → get_or a i 0 < 2 ^ q
  symbols_are i h =
      let columns : 0 < q * q = (sides q q size refl).some_columns in
      let cells : q * (q * q) ≡ q * q * q = (sides q q size refl).cells in
      let place : i / (q * q) * (q * q) + i % (q * q) ≡ i = div-add-mod' i (q * q) in
      rw (← place) (by (i / (q * q)) (i % (q * q)) ((div-lt_iff_lt-mul columns).1 (omega arith)) (mod-lt i columns)
      (ℕ_discrete (i / (q * q)) 0))
    where
      by : (j x : ℕ) → j < q → x < q * q → Dec (j ≡ 0) → get_or a (j * (q * q) + x) 0 < 2 ^ q
      by j x hj hx (yes e) =
          rw (e, zero-mul (q * q), zero-add x, s.first x hx)
          (sum_in q 𝓕 _ q (λ i k. 𝓕.plus_in _ _ (powered_in q 𝓕 _ _ (q - 1) (symbol x i hx k)) (symbol x i hx k)))
      by j x hj hx (no n) =
          rw (s.later j x (omega arith) hj hx) (sum_in q 𝓕 _ q (λ i k. powered_in q 𝓕 _ _ (q - 1 - j) (symbol x i hx k)))

  pub summed_array : ArrayOf q w a
  unfolding ring_of
  summed_array = record {
    array = record { count = long; symbols = symbols_by q a symbols_are };
    ring = flat_cong _ (λ x. part (x * q) q w) (q * q) sector_is ∙ flat_parts q (q * q) w ring.count;
  }
