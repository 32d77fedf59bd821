-- A function whose lead is not too high is not zero at all points of the ring.
--
--   slice A q x j p    x^i at the places order q i j of this j, and zero at all others
--   heads A q n j x v  the coefficients of v as a polynomial in y, at x: those of y^j, …, y^(j + n − 1)
--   value-heads        the value of that polynomial at y is the value of v at (x, y)
--   row q j v          v's coefficients of x^i·y^j, one for each i; value_row, its value at x is the coefficient of y^j
--   alive_on           where all x have q points each: a function whose lead is the order of x^i·y^j, with i below the number of x's,
--                      is not zero at all of these points
--   Top q p            of a free place p: it is the order of some x^i·y^j with i below q²
--   ring_points_lem        the points of the ring are points of the curve
--   alive              a function with such a lead is not zero at all points of the ring
-- Assumes nothing.
use mathlib.Core.Path.{◌≡◌, refl, sym, ◌∙◌, ap, ap₂, subst}
use mathlib.Core.Logic.{◌⊎◌, inl, inr}
use mathlib.Core.Bool.{Bool, true, false, cond}
use mathlib.Core.List.{List, [], ◌∷◌, map, flat_map}
use Prim.Native.Nat.{ℕ, zero, suc, ◌+◌, ◌-◌, ◌*◌, ◌/◌, ◌%◌, ◌<◌}
use native.Mathlib.Nat.{suc-mul, add-mul, add-zero, zero-add}
use native.Mathlib.Nat.{mul-add-mod_self_right, mod-eq_of_lt, mul-mod_left, mul-add-div_right, div-eq_of_lt}
use native.Mathlib.Nat.{div-add-mod', mul-le-mul_right, add_comm, mod-lt}
use native.Mathlib.Decide.{ℕ_discrete}
use native.Mathlib.Omega.{arith}
use lib.Dec.{T, eqb→eq}
use lib.ListN.{length, drop}
use lib.Seq.{get_or-drop}
use Rattle.field.specs.Arithmetic.{Arithmetic, gf}
use Rattle.field.specs.Symbols.{IsSymbol, plus, times, raised}
use Rattle.field.proofs.Laws.{Field}
use Rattle.poly.specs.Poly.{All, Zero, Poly, value}
use Rattle.poly.proofs.Ring.{ring, one_times, times_one}
use Rattle.poly.proofs.Roots.{Distinct, Vanishes, roots}
use Rattle.poly.proofs.Values.{value_in}
use Rattle.codes.proofs.Parts.{all_drop}
use Rattle.codes.proofs.Proper.{points_test}
use Rattle.basis.proofs.Vector.{at, Below, Lead, at_zero}
use Rattle.basis.proofs.Scan.{all_weaken, all_left, all_right, all_of_map, all_both, all_append, all_map}
use Rattle.basis.proofs.Basis.{Space}
use Rattle.basis.proofs.Lines.{cut, cut_poly, at_cut, value_cut}
use Rattle.basis.proofs.Interleaved.{every, every_in, at_every}
use Rattle.basis.proofs.Placed.{dot_from_lem, dot_in, dot_same, dot_plus, dot_none, dot_drop}
use Rattle.hermitian.specs.Ring.{numbers, on_curve, those, sector, ring_points}
use Rattle.hermitian.specs.Checks.{bad_size}
use Rattle.hermitian.proofs.Numbers.{length-numbers, all_flat}
use Rattle.hermitian.proofs.Sizes.{each, tested, Sector, sectors}
use Rattle.hermitian.proofs.Rings.{ring_field}
use Rattle.curve.proofs.Orders.{Free, order, order-of, order_mod, order_div, power, power_in, mono, val, functions, lead_free}
use Rattle.curve.proofs.TimesY.{Point}

-- ---- A function as a polynomial in y, with coefficients that are polynomials in x.

module _ {K : Type 0} (A : Arithmetic K) (q : ℕ) where
  unfoldable pub slice-by : {P : Type 0} → K → ℕ → Dec P → K
  slice-by x n (yes h) = power A x n
  slice-by x n (no h) = A.zero

  unfoldable pub slice : K → ℕ → ℕ → K
  slice x j p = slice-by x (p / q - p % q) (ℕ_discrete (p % q) j)

  unfoldable pub heads : ℕ → ℕ → K → List K → List K
  heads zero j x v = []
  heads (suc n) j x v = dot_from_lem A (slice x j) 0 v ∷ heads n (suc j) x v

  -- the same of one place
  unfoldable heads_at_lem : ℕ → ℕ → K → ℕ → List K
  heads_at_lem zero j x p = []
  heads_at_lem (suc n) j x p = slice x j p ∷ heads_at_lem n (suc j) x p

  slice-yes : {P : Type 0} (x : K) (n : ℕ) (d : Dec P) → P → slice-by x n d ≡ power A x n
  unfolding slice-by
  slice-yes x n (yes h) p = refl
  slice-yes x n (no h) p = absurd (h p)

  slice-no : {P : Type 0} (x : K) (n : ℕ) (d : Dec P) → (P → ⊥) → slice-by x n d ≡ A.zero
  unfolding slice-by
  slice-no x n (yes h) p = absurd (p h)
  slice-no x n (no h) p = refl

  slice-here : (x : K) (j p : ℕ) → p % q ≡ j → slice x j p ≡ power A x (p / q - p % q)
  unfolding slice
  slice-here x j p h = slice-yes x (p / q - p % q) (ℕ_discrete (p % q) j) h

  slice-other : (x : K) (j p : ℕ) → (p % q ≡ j → ⊥) → slice x j p ≡ A.zero
  unfolding slice
  slice-other x j p h = slice-no x (p / q - p % q) (ℕ_discrete (p % q) j) h

  abbrev pub row : ℕ → List K → List K
  row j v = drop j (every (q - 1) j v)

module _ {K : Type 0} (A : Arithmetic K) (𝓕 : Field A) (q : ℕ) (two : 1 < q) where
  pub length-heads : (n j : ℕ) (x : K) (v : List K) → length (heads A q n j x v) ≡ n
  unfolding heads
  length-heads zero j x v = refl
  length-heads (suc n) j x v = ap suc (length-heads n (suc j) x v)

  heads_in : (n j : ℕ) (x : K) (v : List K) → All A.In (heads A q n j x v)
  unfolding heads
  heads_in zero j x v = tt
  heads_in (suc n) j x v = (dot_in A 𝓕 (slice A q x j) 0 v, heads_in n (suc j) x v)

  heads_at : (n j k : ℕ) (x : K) (v : List K) → k < n → at A (heads A q n j x v) k ≡ dot_from_lem A (slice A q x (j + k)) 0 v
  unfolding heads
  heads_at zero j k x v lt = absurd (omega arith)
  heads_at (suc n) j zero x v lt = rw add-zero refl
  heads_at (suc n) j (suc k) x v lt =
      let e : suc j + k ≡ j + suc k = omega arith in
      rw e at (heads_at n (suc j) k x v (omega arith))

  none_step : (y a b : K) → a ≡ A.zero → b ≡ A.zero → A.plus a (A.times y b) ≡ A.zero
  none_step y a b e f = rw (e, f) (simp ring)

  none_at : (n j : ℕ) (x y : K) (p : ℕ) → p % q < j → value A (heads_at_lem A q n j x p) y ≡ A.zero
  unfolding heads_at_lem value
  none_at zero j x y p lt = refl
  none_at (suc n) j x y p lt = none_step y _ _ (slice-other A q x j p (λ e. omega arith)) (none_at n (suc j) x y p (omega arith))

  here_step : (y w a b : K) → a ≡ w → b ≡ A.zero → A.In w → A.plus a (A.times y b) ≡ A.times w A.one
  here_step y w a b e f h = rw (e, f) (simp ring (sym (times_one A 𝓕 h)))

  next_step : (y w a b u : K) → a ≡ A.zero → b ≡ A.times w u → A.plus a (A.times y b) ≡ A.times w (A.times y u)
  next_step y w a b u e f = rw (e, f) (simp ring)

  value_at : (n j k : ℕ) (x y : K) (p : ℕ) → p % q ≡ j + k → k < n
      → value A (heads_at_lem A q n j x p) y ≡ A.times (power A x (p / q - p % q)) (power A y k)
  unfolding heads_at_lem value power
  value_at zero j k x y p e lt = absurd (omega arith)
  value_at (suc n) j zero x y p e lt =
      here_step y _ _ _ (slice-here A q x j p (omega arith)) (none_at n (suc j) x y p (omega arith))
      (power_in A 𝓕 x (p / q - p % q))
  value_at (suc n) j (suc k) x y p e lt =
      next_step y _ _ _ _ (slice-other A q x j p (λ h. omega arith)) (value_at n (suc j) k x y p (omega arith) (omega arith))

  dot_heads : (n j : ℕ) (x y : K) (v : List K)
      → dot_from_lem A (λ (p : ℕ). value A (heads_at_lem A q n j x p) y) 0 v ≡ value A (heads A q n j x v) y
  unfolding heads heads_at_lem value
  dot_heads zero j x y v = dot_none A 𝓕 0 v
  dot_heads (suc n) j x y v =
      dot_plus A 𝓕 (slice A q x j) (λ (p : ℕ). value A (heads_at_lem A q n (suc j) x p) y) y 0 v
      ∙ ap (λ (b : K). A.plus (dot_from_lem A (slice A q x j) 0 v) (A.times y b)) (dot_heads n (suc j) x y v)

  pub value-heads : (x y : K) (v : List K) → value A (heads A q q 0 x v) y ≡ val A q x y v
  unfolding mono
  value-heads x y v =
      sym (dot_heads q 0 x y v)
      ∙ dot_same A 𝓕 _ _ (λ p. value_at q 0 (p % q) x y p (sym (zero-add (p % q))) (mod-lt p (omega arith))) 0 v

  -- the places of one rest modulo q, one after the other
  module _ (ν : ℕ → K) (j : ℕ) (lt : j < q) (gone : (p : ℕ) → (p % q ≡ j → ⊥) → ν p ≡ A.zero) where
    between : (d i k : ℕ) → i + suc k ≡ d * q + j → suc k < q → i % q ≡ j → ⊥
    between d i k e small rest =
        let split : i / q * q + i % q ≡ i = div-add-mod' i q in
        let whole : i / q * q + suc k ≡ d * q = omega arith in
        let over : (i / q * q + suc k) % q ≡ suc k = mul-add-mod_self_right (i / q) q (suc k) ∙ mod-eq_of_lt small in
        let none : (i / q * q + suc k) % q ≡ 0 = ap (λ (n : ℕ). n % q) whole ∙ mul-mod_left d q in
        omega arith

    gone_step : (a b c : K) → b ≡ A.zero → A.plus (A.times a b) c ≡ c
    gone_step a b c e = rw e (simp ring)

    dot_every : (k d i : ℕ) (v : List K) → i + k ≡ d * q + j → k < q
        → dot_from_lem A ν i v ≡ dot_from_lem A (λ (e : ℕ). ν (e * q + j)) d (every (q - 1) k v)
    unfolding dot_from_lem every
    dot_every k d i [] e small = refl
    dot_every zero d i (a ∷ v) e small =
        let here : i ≡ d * q + j = omega arith in
        ap₂ (λ (b c : K). A.plus (A.times a b) c) (ap ν here)
        (dot_every (q - 1) (suc d) (suc i) v (omega (arith, suc-mul d q)) (omega arith))
    dot_every (suc k) d i (a ∷ v) e small =
        gone_step a (ν i) _ (gone i (between d i k e small)) ∙ dot_every k d (suc i) v (omega arith) (omega arith)

  value_step : (a x u w d : K) → d ≡ A.times (A.times x u) w → A.plus (A.times a u) d ≡ A.times u (A.plus a (A.times x w))
  value_step a x u w d e = rw e (simp ring)

  none_value : (u : K) → A.zero ≡ A.times u A.zero
  none_value u = simp ring

  -- sums by powers are values
  dot_value : (x : K) (μ : ℕ → K) (i n : ℕ) (w : List K) → ((k : ℕ) → μ (i + k) ≡ power A x (n + k))
      → dot_from_lem A μ i w ≡ A.times (power A x n) (value A w x)
  unfolding dot_from_lem value
  dot_value x μ i n [] h = none_value (power A x n)
  dot_value x μ i n (a ∷ w) h =
      let here : μ i ≡ power A x n = ap μ (sym (add-zero i)) ∙ h 0 ∙ ap (power A x) (add-zero n) in
      ap (λ (b : K). A.plus (A.times a b) (dot_from_lem A μ (suc i) w)) here
      ∙ value_step a x (power A x n) (value A w x) _ (dot_value x μ (suc i) (suc n) w later ∙ unfold power in refl)
    where
      later : (k : ℕ) → μ (suc i + k) ≡ power A x (suc n + k)
      later k = ap μ (omega arith) ∙ h (suc k) ∙ ap (power A x) (omega arith)

  at_row : (i j : ℕ) (v : List K) → j < q → at A (row A q j v) i ≡ at A v (order q i j)
  at_row i j v lt =
      let side : suc (q - 1) ≡ q = omega arith in
      get_or-drop j (every (q - 1) j v) i A.zero
      ∙ at_every A 𝓕 (q - 1) j (j + i) (order q i j) v (rw (side, add_comm j i) refl)

  pub row_in : (j : ℕ) (v : List K) → All A.In v → All A.In (row A q j v)
  row_in j v h = all_drop A.In j (every (q - 1) j v) (every_in A 𝓕 (q - 1) j v h)

  pub value_row : (x : K) (j : ℕ) (v : List K) → j < q → (functions A 𝓕 q two).has v
      → dot_from_lem A (slice A q x j) 0 v ≡ value A (row A q j v) x
  value_row x j v lt h =
      dot_every (slice A q x j) j lt (slice-other A q x j) j 0 0 v (omega arith) lt
      ∙ dot_drop A 𝓕 _ j 0 j (every (q - 1) j v) leading (omega arith)
      ∙ dot_value x _ j 0 (row A q j v) powers
      ∙ unfold power in one_times A 𝓕 (value_in A 𝓕 (row A q j v) x (row_in j v h.0))
    where
      leading : (k : ℕ) → k < j → at A (every (q - 1) j v) k ≡ A.zero
      leading k small =
          let side : suc (q - 1) ≡ q = omega arith in
          at_every A 𝓕 (q - 1) j k (k * q + j) v (rw side refl) ∙ go (h.1 (k * q + j) (k * q + j) (omega arith))
        where
          go : (at A v (k * q + j) ≡ A.zero) ⊎ Free q (k * q + j) → at A v (k * q + j) ≡ A.zero
          go (inl z) = z
          go (inr f) =
              let rest : (k * q + j) % q ≡ j = mul-add-mod_self_right k q j ∙ mod-eq_of_lt lt in
              let times : (k * q + j) / q ≡ k =
              mul-add-div_right (omega arith) k j ∙ ap (λ (n : ℕ). k + n) (div-eq_of_lt lt) ∙ add-zero k in
              absurd (omega arith)

      powers : (k : ℕ) → slice A q x j ((j + k) * q + j) ≡ power A x (0 + k)
      powers k =
          let e : (j + k) * q + j ≡ order q k j = rw (add_comm j k) refl in
          ap (slice A q x j) e ∙ slice-here A q x j (order q k j) (order_mod q two k j lt)
          ∙ ap (power A x) (omega (arith, order_mod q two k j lt, order_div q two k j lt))

-- ---- What is zero at all points is zero.

-- q points (x, y) for this x, their y being distinct symbols
pub record Points {K : Type 0} (A : Arithmetic K) (q : ℕ) (ys : List K) : Type 0 where
  pub size : length ys ≡ q
  pub symbols : All A.In ys
  pub distinct : Distinct ys

module _ {K : Type 0} (A : Arithmetic K) (𝓕 : Field A) (q : ℕ) (two : 1 < q) (xs : List K) (ys : K → List K)
    (symbols : All A.In xs) (distinct : Distinct xs) (points : All (λ (x : K). Points A q (ys x)) xs)
  where
    module _ (v : List K) (h : (functions A 𝓕 q two).has v) (j : ℕ) (lt : j < q) where
      head-zero : (x : K) → Points A q (ys x) → All (λ (y : K). val A q x y v ≡ A.zero) (ys x) → value A (row A q j v) x ≡ A.zero
      head-zero x p z =
          let hs : List K = heads A q q 0 x v in
          let vanish : Vanishes A hs (ys x) = all_weaken _ _ (λ y e. value-heads A 𝓕 q two x y v ∙ e) (ys x) z in
          let all_zero : Zero A hs = roots A 𝓕 (ys x) hs p.distinct p.symbols (heads_in A 𝓕 q two q 0 x v)
          (omega (arith, p.size, length-heads A 𝓕 q two q 0 x v)) vanish in
          let here : at A hs j ≡ dot_from_lem A (slice A q x (0 + j)) 0 v = heads_at A 𝓕 q two q 0 j x v lt in
          sym (value_row A 𝓕 q two x j v lt h) ∙ ap (λ (n : ℕ). dot_from_lem A (slice A q x n) 0 v) (sym (zero-add j))
          ∙ sym here ∙ at_zero A 𝓕 hs all_zero j

      pub alive_on : (i : ℕ) → Lead A v (order q i j) → i < length xs
          → All (λ (x : K). All (λ (y : K). val A q x y v ≡ A.zero) (ys x)) xs → ⊥
      alive_on i lead few z =
          let p : List K = cut A (suc i) (row A q j v) in
          let poly : Poly A (suc i) p = cut_poly A 𝓕 (suc i) (row A q j v) (row_in A 𝓕 q two j v h.0) in
          let vanish : Vanishes A p xs = all_weaken _ _ zero_there xs (all_both _ _ xs points z) in
          let all_zero : Zero A p = roots A 𝓕 xs p distinct symbols poly.symbols (omega (arith, poly.count)) vanish in
          lead.nonzero (sym (at_row A 𝓕 q two i j v lt) ∙ sym (at_cut A 𝓕 (suc i) (row A q j v) short i) ∙ at_zero A 𝓕 p all_zero i)
        where
          short : Below A (row A q j v) (suc i)
          short d le =
              at_row A 𝓕 q two d j v lt
              ∙ lead.below (order q d j) (omega (arith, mul-le-mul_right q le, add-mul d j q, add-mul i j q, suc-mul i q))

          zero_there : (x : K) → Points A q (ys x) × All (λ (y : K). val A q x y v ≡ A.zero) (ys x)
              → value A (cut A (suc i) (row A q j v)) x ≡ A.zero
          zero_there x (p, z) = value_cut A 𝓕 (suc i) (row A q j v) x short ∙ head-zero x p z

-- ---- The ring.

abbrev pub Top : ℕ → ℕ → Type 0
Top q p = p / q - p % q < q * q

pub ring_side : (q : ℕ) → bad_size q ≡ false → 1 < q
ring_side q size = each (λ q. 1 < q) q size (omega arith) (omega arith)

raised-power : (d x n : ℕ) → raised d x n ≡ power (gf d) x n
unfolding raised power
raised-power d x zero = refl
raised-power d x (suc n) = ap (times d x) (raised-power d x n)

-- what a test picks passes it
pub those_pass : (f : ℕ → Bool) (l : List ℕ) → All (λ (y : ℕ). f y ≡ true) (those f l)
unfolding those
those_pass f [] = tt
those_pass f (y ∷ l) = go (f y) refl (those_pass f l)
  where
    go : (b : Bool) → f y ≡ b → All (λ (y : ℕ). f y ≡ true) (those f l) → All (λ (y : ℕ). f y ≡ true) (cond b (y ∷ those f l) (those f l))
    go true e h = (e, h)
    go false e h = h

all_numbers : (P : ℕ → Type 0) (n : ℕ) → ((x : ℕ) → x < n → P x) → All P (numbers n)
unfolding numbers
all_numbers P zero h = tt
all_numbers P (suc n) h = all_append P (numbers n) (n ∷ []) (all_numbers P n (λ x k. h x (omega arith))) (h n (omega arith), tt)

flat_all : {L M : Type 0} (P : M → Type 0) (f : L → List M) (l : List L) → All P (flat_map f l) → All (λ (x : L). All P (f x)) l
unfolding flat_map
flat_all P f [] h = tt
flat_all P f (x ∷ l) h = (all_left P (f x) (flat_map f l) h, flat_all P f l (all_right P (f x) (flat_map f l) h))

module _ (q : ℕ) (size : bad_size q ≡ false) where
  abbrev pub ring_functions : Space (gf q) q
  ring_functions = functions (gf q) (ring_field q size) q (ring_side q size)

  ring_xs : All (IsSymbol q) (numbers (q * q)) × Distinct (numbers (q * q))
  ring_xs = (points_test q (numbers (q * q))).0 (tested q size).points

  -- each x has q points
  ring_ys : All (λ (x : ℕ). Points (gf q) q (sector q x)) (numbers (q * q))
  ring_ys = all_numbers (λ (x : ℕ). Points (gf q) q (sector q x)) (q * q) (λ x k.
      let s : Sector q x = sectors q size x k in
      record { size = s.size; symbols = s.points.symbols; distinct = s.points.distinct })

  on_curve_lem : (x : ℕ) → x < q * q → (y : ℕ) → IsSymbol q y × (on_curve q x y ≡ true) → Point (gf q) q x y
  unfolding on_curve
  on_curve_lem x k y (symbol, on) = record {
    x_in = subst (λ (n : ℕ). x < n) (tested q size).symbols k;
    y_in = symbol;
    equation = ap (λ (a : ℕ). plus a y) (sym (raised-power q y q))
        ∙ eqb→eq _ _ (subst T (sym on) tt) ∙ raised-power q x (suc q);
  }

  pub ring_points_lem : All (λ (P : ℕ × ℕ). Point (gf q) q P.0 P.1) (ring_points q)
  unfolding ring_points
  ring_points_lem = all_flat _ (λ x. map (λ y. (x, y)) (sector q x)) (q * q) (λ x k.
      all_map _ _ (λ y. (x, y)) (on_curve_lem x k) (sector q x)
      (all_both _ _ (sector q x) (sectors q size x k).points.symbols (unfold sector in those_pass (on_curve q x) (numbers (q * q)))))

  pub alive : (v : List ℕ) (p : ℕ) → ring_functions.has v → Lead (gf q) v p → Top q p
      → All (λ (P : ℕ × ℕ). val (gf q) q P.0 P.1 v ≡ 0) (ring_points q) → ⊥
  unfolding ring_points
  alive v p h lead top z =
      alive_on (gf q) (ring_field q size) q (ring_side q size) (numbers (q * q)) (sector q) ring_xs.0 ring_xs.1 ring_ys v h
      (p % q) (mod-lt p (omega (arith, ring_side q size))) (p / q - p % q) (rw at_p lead) (rw length-numbers top)
      (all_weaken _ _ (λ x. all_of_map _ (λ y. (x, y)) (sector q x)) (numbers (q * q)) (flat_all _ _ (numbers (q * q)) z))
    where
      at_p : order q (p / q - p % q) (p % q) ≡ p
      at_p = order-of q (ring_side q size) p (lead_free (gf q) (ring_field q size) q (ring_side q size) v p h lead)
