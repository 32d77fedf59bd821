-- Vectors as interleaved polynomials: with stride r + 1, place d·(r + 1) + k holds coefficient d of part k.
--
--   every r k v    part k of the vector v, for k ≤ r: part 0 is E, part l + 1 is N of row l
--   every_mix, every_shift   mix and shift act on each part as on a polynomial
--   at_every       where each coefficient of a part stands
--   weave t E Ns   the vector whose part 0 is E, of t + 1 coefficients, and whose other parts are Ns, of t coefficients each
--   form r c       the condition c on vectors: N of its row plus value·E, at its point
--   vectors s      the space of all vectors of symbols
--   RowMet t E row     some N of t coefficients is value·E at each point of the row
--   Locates t rows E   E has t + 1 coefficients and every row is met
--   Plain t rows       in each row, an N of t coefficients that is zero at every point is zero
--   Met r j rows v     the conditions of the rows, the first being row j, are zero on v
--   StandsFor t rows E v   v solves the conditions of the rows, with places up to size t, and E is its part 0
--   vector_of          some vector stands for each locator; locator_of, part 0 of a solution is a locator
--   plain-zero         in plain rows a vector with no E is zero
-- Assumes nothing.
use mathlib.Core.Path.{◌≡◌, refl, sym, ◌∙◌, ap}
use mathlib.Core.List.{List, [], ◌∷◌, ◌++◌, map}
use Prim.Native.Nat.{ℕ, zero, suc, ◌+◌, ◌*◌, ◌/◌, ◌%◌, ◌≤◌, ◌<◌}
use native.Mathlib.Nat.{zero-add, suc-add, zero-mul, suc-mul, le_dest, le_of_suc-le-suc, mod-lt, mul-le-mul_right, zero-lt-suc}
use native.Mathlib.Nat.{div-add-mod', suc_inj, add-zero, add-suc}
use native.Mathlib.Omega.{arith}
use lib.ListN.{length, get_or, length-append, length-map, get_or-map, get_or-eq_default}
use Rattle.field.specs.Arithmetic.{Arithmetic}
use Rattle.field.proofs.Laws.{Field}
use Rattle.poly.specs.Poly.{All, Zero, add, scale, value, Poly}
use Rattle.basis.proofs.Vector.{mix, at, Below, zero_at, shift, at_in, value_mix, value_shift, mix_in, shift_in, at_zero}
use Rattle.poly.proofs.Sums.{add-nil}
use Rattle.basis.proofs.Lines.{Part, later, Row, Condition, condition, conditions, cut, cut_poly, at_cut, value_cut, value-zero}
use Rattle.basis.proofs.Scan.{all_append, all_map, all_each, all_left, all_of_map, all_right, all_weaken}
use Rattle.poly.proofs.Ring.{ring, plus_self, times_zero, plus_cancel}
use Rattle.poly.proofs.Values.{value_in}
use Rattle.basis.proofs.Basis.{Space, Form, Lawful}

-- ---- Vectors as interleaved polynomials: with stride r + 1, place d·(r + 1) + k holds coefficient d of part k.

unfoldable pub every : {K : Type 0} → ℕ → ℕ → List K → List K
every r k [] = []
every r zero (a ∷ v) = a ∷ every r r v
every r (suc k) (a ∷ v) = every r k v

module _ {K : Type 0} (A : Arithmetic K) (𝓕 : Field A) where
  every_add : (r k : ℕ) (v w : List K) → every r k (add A v w) ≡ add A (every r k v) (every r k w)
  unfolding every add
  every_add r k [] w = refl
  every_add r zero (a ∷ v) [] = refl
  every_add r (suc k) (a ∷ v) [] = sym (add-nil A 𝓕 (every r k v))
  every_add r zero (a ∷ v) (b ∷ w) = ap (λ (p : List K). A.plus a b ∷ p) (every_add r r v w)
  every_add r (suc k) (a ∷ v) (b ∷ w) = every_add r k v w

  every_scale : (r k : ℕ) (c : K) (v : List K) → every r k (scale A c v) ≡ scale A c (every r k v)
  unfolding every scale
  every_scale r k c [] = refl
  every_scale r zero c (a ∷ v) = ap (λ (p : List K). A.times c a ∷ p) (every_scale r r c v)
  every_scale r (suc k) c (a ∷ v) = every_scale r k c v

  pub every_mix : (r k : ℕ) (c : K) (v w : List K) → every r k (mix A c v w) ≡ mix A c (every r k v) (every r k w)
  unfolding mix
  every_mix r k c v w = every_add r k v (scale A c w) ∙ ap (add A (every r k v)) (every_scale r k c w)

  pub every_in : (r k : ℕ) (v : List K) → All A.In v → All A.In (every r k v)
  unfolding every
  every_in r k [] h = tt
  every_in r zero (a ∷ v) h = (h.0, every_in r r v h.1)
  every_in r (suc k) (a ∷ v) h = every_in r k v h.1

  every_skip : (r d k : ℕ) (v : List K) → every r (d + k) (shift A d v) ≡ every r k v
  unfolding every shift
  every_skip r zero k v = rw zero-add
  every_skip r (suc d) k v = rw suc-add (every_skip r d k v)

  every_zeros : (r d k : ℕ) (v : List K) → every r k (shift A (suc (k + d)) v) ≡ A.zero ∷ every r r (shift A d v)
  unfolding every shift
  every_zeros r d zero v = rw zero-add
  every_zeros r d (suc k) v = rw suc-add (every_zeros r d k v)

  pub every_shift : (r k : ℕ) (v : List K) → k ≤ r → every r k (shift A (suc r) v) ≡ A.zero ∷ every r k v
  every_shift r k v le = at_gap (le_dest le)
    where
      at_gap : (d : ℕ) × (k + d ≡ r) → every r k (shift A (suc r) v) ≡ A.zero ∷ every r k v
      at_gap (d, e) =
          let e' : d + k ≡ r = omega arith in
          cc (every_zeros r d k v, every_skip r d k v)

  pub part_every : (r k : ℕ) → k ≤ r → Part A (suc r) (every r k)
  part_every r k le = record { part_mix = every_mix r k; part_shift = λ v. every_shift r k v le }

  pub at_every : (r k d i : ℕ) (v : List K) → i ≡ d * suc r + k → at A (every r k v) d ≡ at A v i
  unfolding every
  at_every r k d i [] e = refl
  at_every r zero zero zero (a ∷ v) e = refl
  at_every r zero zero (suc i) (a ∷ v) e = absurd (omega (arith, zero-mul (suc r)))
  at_every r zero (suc d) zero (a ∷ v) e = absurd (omega (arith, suc-mul d (suc r)))
  at_every r zero (suc d) (suc i) (a ∷ v) e = at_every r r d i v (omega (arith, suc-mul d (suc r)))
  at_every r (suc k) d zero (a ∷ v) e = absurd (omega arith)
  at_every r (suc k) d (suc i) (a ∷ v) e = at_every r k d i v (omega arith)

  pub every_zero : (r k : ℕ) (v : List K) → Zero A v → Zero A (every r k v)
  unfolding every
  every_zero r k [] z = tt
  every_zero r zero (a ∷ v) z = (z.0, every_zero r r v z.1)
  every_zero r (suc k) (a ∷ v) z = every_zero r k v z.1

  -- the parts of a vector with no nonzero place above t·(r + 1)
  pub every_first_below : (r t : ℕ) (v : List K) → Below A v (suc (t * suc r)) → Below A (every r 0 v) (suc t)
  every_first_below r t v b d le =
      at_every r 0 d (d * suc r + 0) v refl ∙ b (d * suc r + 0) (omega (arith, mul-le-mul_right (suc r) le, suc-mul t (suc r)))

  pub every_other_below : (r t k : ℕ) (v : List K) → Below A v (suc (t * suc r)) → Below A (every r (suc k) v) t
  every_other_below r t k v b d le =
      at_every r (suc k) d (d * suc r + suc k) v refl ∙ b (d * suc r + suc k) (omega (arith, mul-le-mul_right (suc r) le))

  -- a vector is zero where its parts are
  pub zero_every : (r : ℕ) (v : List K) → ((k : ℕ) → k ≤ r → (d : ℕ) → at A (every r k v) d ≡ A.zero) → Zero A v
  zero_every r v h =
      zero_at A 𝓕 v (λ i _. sym (at_every r (i % suc r) (i / suc r) i v (sym (div-add-mod' i (suc r))))
      ∙ h (i % suc r) (le_of_suc-le-suc (mod-lt i (zero-lt-suc r))) (i / suc r))

-- ---- From the parts back to the interleaved vector.

module _ {K : Type 0} (A : Arithmetic K) where
  abbrev first : List K → K
  first p = at A p 0

  unfoldable pub weave : ℕ → List K → List (List K) → List K
  weave t [] Ns = []
  weave zero (e ∷ E) Ns = e ∷ []
  weave (suc t) (e ∷ E) Ns = e ∷ (map first Ns ++ weave t E (map later Ns))

  first_later : (t : ℕ) (p : List K) → length p ≡ suc t → first p ∷ later p ≡ p
  first_later t [] e = absurd (omega arith)
  first_later t (a ∷ p) e = refl

  length-nil : (p : List K) → length p ≡ 0 → p ≡ []
  length-nil [] e = refl
  length-nil (a ∷ p) e = absurd (omega arith)

  later_in : (p : List K) → All A.In p → All A.In (later p)
  later_in [] h = tt
  later_in (a ∷ p) h = h.1

  length_later : (t : ℕ) (p : List K) → length p ≡ suc t → length (later p) ≡ t
  length_later t [] e = absurd (omega arith)
  length_later t (a ∷ p) e = suc_inj e

  weave_length : (r t : ℕ) (E : List K) (Ns : List (List K)) → length Ns ≡ r → length E ≡ suc t → length (weave t E Ns) ≡ suc (t * suc r)
  unfolding weave
  weave_length r t [] Ns n e = absurd (omega arith)
  weave_length r zero (a ∷ E) Ns n e = omega (arith, zero-mul (suc r))
  weave_length r (suc t) (a ∷ E) Ns n e =
      let ih = weave_length r t E (map later Ns) (length-map Ns later ∙ n) (suc_inj e) in
      omega (arith, length-append (map first Ns) (weave t E (map later Ns)), length-map Ns first, suc-mul t (suc r))

  pub weave_below : (r t : ℕ) (E : List K) (Ns : List (List K)) → length Ns ≡ r → length E ≡ suc t
      → Below A (weave t E Ns) (suc (t * suc r))
  weave_below r t E Ns n e i le = get_or-eq_default (weave t E Ns) A.zero (rw (weave_length r t E Ns n e) le)

  pub weave_in : Field A → (t : ℕ) (E : List K) (Ns : List (List K)) → All A.In E
      → All (λ (N : List K). All A.In N) Ns → All A.In (weave t E Ns)
  unfolding weave
  weave_in 𝓕 t [] Ns hE hN = tt
  weave_in 𝓕 zero (e ∷ E) Ns hE hN = (hE.0, tt)
  weave_in 𝓕 (suc t) (e ∷ E) Ns hE hN =
      let firsts : All A.In (map first Ns) = all_map _ _ first (λ N h. at_in A 𝓕 N h 0) Ns hN in
      (hE.0, all_append A.In (map first Ns) _ firsts (weave_in 𝓕 t E (map later Ns) hE.1 (all_map _ _ later later_in Ns hN)))

  -- parts of what is put together

  every_over : (r k : ℕ) (hs w : List K) → every r (length hs + k) (hs ++ w) ≡ every r k w
  unfolding every
  every_over r k [] w = rw zero-add
  every_over r k (h ∷ hs) w = rw suc-add (every_over r k hs w)

  every_inside : (r j k : ℕ) (hs w : List K) → j < length hs → k + length hs ≡ r + suc j
      → every r j (hs ++ w) ≡ get_or hs j A.zero ∷ every r k w
  unfolding every
  every_inside r j k [] w lt e = absurd (omega arith)
  every_inside r zero k (h ∷ hs) w lt e =
      let e' : length hs + k ≡ r = omega arith in
      ap (λ (p : List K). h ∷ p) (rw e' at (every_over r k hs w))
  every_inside r (suc j) k (h ∷ hs) w lt e = every_inside r j k hs w (omega arith) (omega arith)

  pub weave_first : (r t : ℕ) (E : List K) (Ns : List (List K)) → length Ns ≡ r → length E ≡ suc t → every r 0 (weave t E Ns) ≡ E
  unfolding weave every
  weave_first r t [] Ns n e = refl
  weave_first r zero (a ∷ []) Ns n e = refl
  weave_first r zero (a ∷ (b ∷ E)) Ns n e = absurd (omega arith)
  weave_first r (suc t) (a ∷ E) Ns n e =
      let e' : length (map first Ns) + 0 ≡ r = omega (arith, length-map Ns first) in
      let over : every r r (map first Ns ++ weave t E (map later Ns)) ≡ every r 0 (weave t E (map later Ns)) =
      rw e' at (every_over r 0 (map first Ns) (weave t E (map later Ns))) in
      ap (λ (p : List K). a ∷ p) (over ∙ weave_first r t E (map later Ns) (length-map Ns later ∙ n) (suc_inj e))

  pub weave_other : (r t : ℕ) (E : List K) (Ns : List (List K)) (i : ℕ) → length Ns ≡ r → length E ≡ suc t → i < r
      → length (get_or Ns i []) ≡ t → every r (suc i) (weave t E Ns) ≡ get_or Ns i []
  unfolding weave every
  weave_other r t [] Ns i n e lt l = absurd (omega arith)
  weave_other r zero (a ∷ E) Ns i n e lt l = sym (length-nil (get_or Ns i []) l)
  weave_other r (suc t) (a ∷ E) Ns i n e lt l =
      let hs : List K = map first Ns in
      let N : List K = get_or Ns i [] in
      let w : List K = weave t E (map later Ns) in
      let k : length (get_or (map later Ns) i []) ≡ t = ap length (get_or-map later Ns i []) ∙ length_later t N l in
      let inside = every_inside r i (suc i) hs w (omega (arith, length-map Ns first)) (omega (arith, length-map Ns first)) in
      let ih = weave_other r t E (map later Ns) i (length-map Ns later ∙ n) (suc_inj e) lt k in
      cc (inside, get_or-map first Ns i [], ih, get_or-map later Ns i [], first_later t N l)

-- ---- The conditions of the rows as linear conditions on interleaved vectors.

-- what holds of the conditions of rows holds of the first row's and of the others'
module _ {K : Type 0} (P : Condition K → Type 0) (j : ℕ) (row : Row K) (rows : List (Row K)) where
  pub conditions_cons : All (λ (c : K × K). P (condition j c)) row → All P (conditions (suc j) rows) → All P (conditions j (row ∷ rows))
  conditions_cons h t = all_append P (map (condition j) row) (conditions (suc j) rows) (all_map _ P (condition j) (λ c hc. hc) row h) t

  pub conditions_first : All P (conditions j (row ∷ rows)) → All (λ (c : K × K). P (condition j c)) row
  conditions_first h = all_of_map P (condition j) row (all_left P (map (condition j) row) (conditions (suc j) rows) h)

  pub conditions_rest : All P (conditions j (row ∷ rows)) → All P (conditions (suc j) rows)
  conditions_rest h = all_right P (map (condition j) row) (conditions (suc j) rows) h

module _ {K : Type 0} (n : ℕ) where
  pub conditions_below : (j : ℕ) (rows : List (Row K)) → j + length rows ≤ n → All (λ (c : Condition K). c.row < n) (conditions j rows)
  conditions_below j [] le = tt
  conditions_below j (row ∷ rows) le =
      conditions_cons _ j row rows (all_each (λ (c : K × K). j < n) (λ c. omega arith) row) (conditions_below (suc j) rows (omega arith))

module _ {K : Type 0} (P : K → Type 0) where
  pub conditions_values : (j : ℕ) (rows : List (Row K)) → All (λ (row : Row K). All (λ (c : K × K). P c.1) row) rows
      → All (λ (c : Condition K). P c.value) (conditions j rows)
  conditions_values j [] h = tt
  conditions_values j (row ∷ rows) h =
      conditions_cons (λ (c : Condition K). P c.value) j row rows h.0 (conditions_values (suc j) rows h.1)

module _ {K : Type 0} (A : Arithmetic K) where
  unfoldable pub form : ℕ → Condition K → Form K
  form r c =
      record {
        of = λ v. A.plus (value A (every r (suc c.row) v) c.point) (A.times c.value (value A (every r 0 v) c.point));
        factor = c.point;
      }

module _ {K : Type 0} (A : Arithmetic K) (𝓕 : Field A) where
  abbrev pub vectors : (s : ℕ) → Space A s
  vectors s =
      record { has = All A.In; symbols = λ v h. h; mixed = λ c v w hv hw. mix_in A 𝓕 c v w hv; shifted = shift_in A 𝓕 s }

  mix_step : (n e n' e' u c : K) → A.plus (A.plus n (A.times c n')) (A.times u (A.plus e (A.times c e')))
      ≡ A.plus (A.plus n (A.times u e)) (A.times c (A.plus n' (A.times u e')))
  mix_step n e n' e' u c = simp ring

  shift_step : (n e u x : K) → A.plus (A.times x n) (A.times u (A.times x e)) ≡ A.times x (A.plus n (A.times u e))
  shift_step n e u x = simp ring

  pub form_lawful : (r : ℕ) (c : Condition K) → c.row < r → Lawful (vectors (suc r)) (form A r c)
  unfolding form
  form_lawful r c lt =
      record {
        of_symbol =
            λ v h. 𝓕.plus_in _ _ (value_in A 𝓕 (every r (suc c.row) v) c.point (every_in A 𝓕 r (suc c.row) v h))
            (𝓕.times_in _ _);
        of_mix = λ a v w hv hw. simp (every_mix, value_mix) (mix_step _ _ _ _ _ _);
        of_shift =
            λ v h. simp (every_shift A 𝓕 r (suc c.row) v lt, every_shift A 𝓕 r 0 v (omega arith), value_shift)
            (shift_step _ _ _ _);
      }

-- ---- Locators of rows, and the interleaved vectors that stand for them.

module _ {K : Type 0} (A : Arithmetic K) where
  abbrev pub RowMet : ℕ → List K → Row K → Type 0
  RowMet t E row = (N : List K) × Poly A t N × All (λ (c : K × K). value A N c.0 ≡ A.times c.1 (value A E c.0)) row

  pub record Locates (t : ℕ) (rows : List (Row K)) (E : List K) : Type 0 where
    pub poly : Poly A (suc t) E
    pub met : All (RowMet t E) rows

  abbrev pub Plain : ℕ → List (Row K) → Type 0
  Plain t rows =
      All (λ (row : Row K). (N : List K) → Poly A t N → All (λ (c : K × K). value A N c.0 ≡ A.zero) row → Zero A N) rows

  -- the conditions of the rows, the first of which is row j, are zero on v
  abbrev pub Met : ℕ → ℕ → List (Row K) → List K → Type 0
  Met r j rows v = All (λ (c : Condition K). (form A r c).of v ≡ A.zero) (conditions j rows)

  pub record StandsFor (t : ℕ) (rows : List (Row K)) (E v : List K) : Type 0 where
    pub symbols : All A.In v
    pub met : Met (length rows) 0 rows v
    pub small : Below A v (suc (t * suc (length rows)))
    pub first : every (length rows) 0 v ≡ E

module _ {K : Type 0} (A : Arithmetic K) (𝓕 : Field A) where
  -- what one condition says of the parts

  to_form : (r j : ℕ) (c : K × K) (v E N : List K) → every r 0 v ≡ E → every r (suc j) v ≡ N
      → value A N c.0 ≡ A.times c.1 (value A E c.0) → (form A r (condition j c)).of v ≡ A.zero
  unfolding form
  to_form r j c v E N e n h = rw (e, n, h) (plus_self A 𝓕 (A.times c.1 (value A E c.0)))

  of_form : (r j : ℕ) (c : K × K) (v : List K) → (form A r (condition j c)).of v ≡ A.zero
      → value A (every r (suc j) v) c.0 ≡ A.times c.1 (value A (every r 0 v) c.0)
  unfolding form
  of_form r j c v h = plus_cancel A 𝓕 h

  -- from a locator to a vector

  module _ (t : ℕ) (E : List K) where
    numerators : (rows : List (Row K)) → All (RowMet A t E) rows → List (List K)
    numerators [] h = []
    numerators (row ∷ rows) h = h.0.0 ∷ numerators rows h.1

    numerators_length : (rows : List (Row K)) (h : All (RowMet A t E) rows) → length (numerators rows h) ≡ length rows
    unfolding numerators
    numerators_length [] h = refl
    numerators_length (row ∷ rows) h = ap suc (numerators_length rows h.1)

    numerators_count : (rows : List (Row K)) (h : All (RowMet A t E) rows) (i : ℕ) → i < length rows
        → length (get_or (numerators rows h) i []) ≡ t
    unfolding numerators
    numerators_count [] h i lt = absurd (omega arith)
    numerators_count (row ∷ rows) h zero lt = h.0.1.count
    numerators_count (row ∷ rows) h (suc i) lt = numerators_count rows h.1 i (omega arith)

    numerators_in : (rows : List (Row K)) (h : All (RowMet A t E) rows) → All (λ (N : List K). All A.In N) (numerators rows h)
    unfolding numerators
    numerators_in [] h = tt
    numerators_in (row ∷ rows) h = (h.0.1.symbols, numerators_in rows h.1)

    -- a vector with these parts solves the conditions
    numerators_met : (r j : ℕ) (v : List K) (rows : List (Row K)) (h : All (RowMet A t E) rows) → every r 0 v ≡ E
        → ((i : ℕ) → i < length rows → every r (suc (j + i)) v ≡ get_or (numerators rows h) i []) → Met A r j rows v
    unfolding numerators
    numerators_met r j v [] h e parts = tt
    numerators_met r j v (row ∷ rows) h e parts =
        let first : every r (suc j) v ≡ h.0.0 = rw add-zero at (parts 0 (omega arith)) in
        conditions_cons _ j row rows (all_weaken _ _ (λ c hc. to_form r j c v E h.0.0 e first hc) row h.0.2)
        (numerators_met r (suc j) v rows h.1 e (λ i lt. rw (suc-add, ← add-suc) (parts (suc i) (omega arith))))

  pub vector_of : (t : ℕ) (rows : List (Row K)) (E : List K) → Locates A t rows E → (v : List K) × StandsFor A t rows E v
  vector_of t rows E h = (
    weave A t E Ns,
    record {
      symbols = weave_in A 𝓕 t E Ns h.poly.symbols (numerators_in t E rows h.met);
      met = numerators_met t E r 0 (weave A t E Ns) rows h.met first other;
      small = weave_below A r t E Ns n h.poly.count;
      first = first;
    },
  )
    where
      r : ℕ
      r = length rows

      Ns : List (List K)
      Ns = numerators t E rows h.met

      n : length Ns ≡ r
      n = numerators_length t E rows h.met

      first : every r 0 (weave A t E Ns) ≡ E
      first = weave_first A r t E Ns n h.poly.count

      other : (i : ℕ) → i < r → every r (suc (0 + i)) (weave A t E Ns) ≡ get_or Ns i []
      other i lt = rw zero-add (weave_other A r t E Ns i n h.poly.count lt (numerators_count t E rows h.met i lt))

  -- from a vector to a locator

  module _ (r t : ℕ) (v : List K) (symbols : All A.In v) (small : Below A v (suc (t * suc r))) where
    -- E and the N of row j
    abbrev E : List K
    E = every r 0 v

    abbrev N : ℕ → List K
    N j = every r (suc j) v

    value_N : (j : ℕ) (x : K) → value A (cut A t (N j)) x ≡ value A (N j) x
    value_N j x = value_cut A 𝓕 t (N j) x (every_other_below A 𝓕 r t j v small)

    N-poly : (j : ℕ) → Poly A t (cut A t (N j))
    N-poly j = cut_poly A 𝓕 t (N j) (every_in A 𝓕 r (suc j) v symbols)

    cut_meets : (j : ℕ) (c : K × K) → (form A r (condition j c)).of v ≡ A.zero
        → value A (cut A t (N j)) c.0 ≡ A.times c.1 (value A (cut A (suc t) E) c.0)
    cut_meets j c h = cc (of_form r j c v h, value_N j c.0, value_cut A 𝓕 (suc t) E c.0 (every_first_below A 𝓕 r t v small))

    locator_met : (j : ℕ) (rows : List (Row K)) → Met A r j rows v → All (RowMet A t (cut A (suc t) E)) rows
    locator_met j [] h = tt
    locator_met j (row ∷ rows) h = (
      (cut A t (N j), N-poly j, all_weaken _ _ (cut_meets j) row (conditions_first _ j row rows h)),
      locator_met (suc j) rows (conditions_rest _ j row rows h),
    )

    pub locator_of : (rows : List (Row K)) → Met A r 0 rows v → Locates A t rows (cut A (suc t) (every r 0 v))
    locator_of rows h = record { poly = cut_poly A 𝓕 (suc t) E (every_in A 𝓕 r 0 v symbols); met = locator_met 0 rows h }

    -- in plain rows, a vector with no E is zero

    module _ (none : Zero A E) where
      cut_zero : (j : ℕ) (c : K × K) → (form A r (condition j c)).of v ≡ A.zero → value A (cut A t (N j)) c.0 ≡ A.zero
      cut_zero j c h =
          let z : value A E c.0 ≡ A.zero = value-zero A 𝓕 E c.0 (λ i _. at_zero A 𝓕 E none i) in
          cc (of_form r j c v h, value_N j c.0, z, times_zero A 𝓕 c.1)

      plain_parts : (j : ℕ) (rows : List (Row K)) → Plain A t rows → Met A r j rows v → (i : ℕ) → i < length rows
          → Zero A (cut A t (N (j + i)))
      plain_parts j [] plain h i lt = absurd (omega arith)
      plain_parts j (row ∷ rows) plain h zero lt =
          rw add-zero (plain.0 (cut A t (N j)) (N-poly j) (all_weaken _ _ (cut_zero j) row (conditions_first _ j row rows h)))
      plain_parts j (row ∷ rows) plain h (suc i) lt =
          rw (add-suc, ← suc-add) (plain_parts (suc j) rows plain.1 (conditions_rest _ j row rows h) i (omega arith))

      pub plain-zero : (rows : List (Row K)) → length rows ≡ r → Plain A t rows → Met A r 0 rows v → Zero A v
      plain-zero rows n plain h = zero_every A 𝓕 r v parts
        where
          parts : (k : ℕ) → k ≤ r → (d : ℕ) → at A (every r k v) d ≡ A.zero
          parts zero le d = at_zero A 𝓕 E none d
          parts (suc k) le d =
              let z : Zero A (cut A t (N k)) = rw zero-add at (plain_parts 0 rows plain h k (omega arith)) in
              sym (at_cut A 𝓕 t (N k) (every_other_below A 𝓕 r t k v small) d) ∙ at_zero A 𝓕 (cut A t (N k)) z d
