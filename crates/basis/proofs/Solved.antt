-- The start of the solver, and what its last lines say of the locators of the rows and of the least size of one.
--
--   places n j     unit vectors at n places from j on
--   start_basis    at r + 1 places from 0 on they are a basis of all vectors
--   start_lines    the lines of the start are theirs
--   stride rows    one more than there are rows
--   forms rows     the conditions of the rows, on vectors
--   solutions      the space of the vectors of symbols on which all of them are zero
--   Small t v      v has no nonzero place above t strides: its E has t + 1 coefficients at most, each N at most t
--   behind             the vectors behind the lines
--   AllMultiples rows t E   every locator of size t is a multiple of E
--   Alone rows t es g  g is the lowest of the lines es, and of the leads that size t allows its is the only one
--   none_below         where every lead is too high for a size, that size has no locator
--   lines_locate       each line of low lead is a locator; in plain rows, not a zero one (lines_nonzero)
--   all_multiples      where one lead alone is low, every locator is a multiple of that line's
--   not_multiples      of two lines of different low leads, neither locator is a multiple of the other
--   solve_length   there is a line more than there are rows
--   least_found    some line has the lowest lead
--   least_size     its size is the least, and its locator is one of that size
--   one_locator    where no other lead is as low as that size allows, every locator is a multiple of it
--   two_locators   where another is, that line's locator and this one are no multiples of each other
-- Assumes nothing.
use mathlib.Core.Path.{◌≡◌, refl, sym, ap, ap₂, ◌∙◌}
use mathlib.Core.List.{List, [], ◌∷◌, map}
use mathlib.Core.Logic.{◌⊎◌, inl, inr}
use mathlib.Core.Option.{Option, none, some}
use Prim.Native.Nat.{ℕ, zero, suc, ◌+◌, ◌*◌, ◌/◌, ◌%◌, ◌≤◌, ◌<◌}
use native.Mathlib.Nat.{zero-add, add-zero, eq-or-lt_of_le, mod-lt, zero-lt-suc, div-add-mod', suc-mul, mul-le-mul_right}
use native.Mathlib.Omega.{arith}
use native.Mathlib.Decide.{ℕ_discrete}
use lib.ListN.{length, length-map}
use Rattle.field.specs.Arithmetic.{Arithmetic}
use Rattle.field.proofs.Laws.{Field}
use Rattle.poly.specs.Poly.{All, value, Zero, scale}
use Rattle.basis.proofs.Lines.{Condition, Line, unit, start, start_rows_lem, line, line_path, Row, conditions, cut, solve}
use Rattle.basis.proofs.Lines.{locator_of_lem, run_lines, at_cut, multiple_cut, zero_of_cut, step_by, step, run, least, another, size}
use Rattle.poly.proofs.Ring.{ring}
use Rattle.basis.proofs.Scan.{Any, all_weaken, all_each, all_map, all_of_map, IfFound, NoBetter, lowest_passed, none_found}
use Rattle.basis.proofs.Scan.{found_lowest, found}
use Rattle.basis.proofs.Vector.{at, Lead, shift, shift_in, lead_shift, Below, mix, at_zero, zero_at, below_mix}
use Rattle.basis.proofs.Basis.{Form, Entry, Reaches, Led, Basis, Space, Lawful, kernels, to_kernels, of_kernels, run_basis}
use Rattle.basis.proofs.Basis.{no_lower, multiples, not_multiple}
use Rattle.basis.proofs.Interleaved.{every, form, vectors, every_first_below, form_lawful, conditions_below, Locates, Plain}
use Rattle.basis.proofs.Interleaved.{Met, StandsFor, locator_of, plain-zero, every_mix, every_zero, part_every}
use Rattle.basis.proofs.Interleaved.{conditions_values, vector_of}
use Rattle.basis.proofs.Basis as steps

-- ---- The start of the solver: unit vectors, and the lines of the table that stand for them.

module _ {K : Type 0} (A : Arithmetic K) where
  unfoldable pub places : ℕ → ℕ → List (Entry K)
  places zero j = []
  places (suc n) j = record { vec = shift A j (A.one ∷ []); lead = j } ∷ places n (suc j)

module _ {K : Type 0} (A : Arithmetic K) (𝓕 : Field A) where
  one_lead : Lead A (A.one ∷ []) 0
  one_lead = record { nonzero = 𝓕.one_zero; below = above }
    where
      above : (i : ℕ) → 1 ≤ i → at A (A.one ∷ []) i ≡ A.zero
      above zero le = absurd (omega arith)
      above (suc i) le = refl

  places_led : (s n j : ℕ) → All (Led (vectors A 𝓕 s)) (places A n j)
  unfolding places
  places_led s zero j = tt
  places_led s (suc n) j =
      (led, places_led s n (suc j))
    where
      led : Led (vectors A 𝓕 s) (record { vec = shift A j (A.one ∷ []); lead = j })
      led = record { within = shift_in A 𝓕 j (A.one ∷ []) (𝓕.one_in, tt); leads = rw add-zero at (lead_shift A 𝓕 j one_lead) }

  places_reach : (s n j k c m : ℕ) → j ≤ c → c < j + n → m ≡ k * s + c → Any (Reaches s m) (places A n j)
  unfolding places
  places_reach s zero j k c m lo hi e = absurd (omega arith)
  places_reach s (suc n) j k c m lo hi e = go (eq-or-lt_of_le lo) (λ lt. places_reach s n (suc j) k c m lt (omega arith) e)
    where
      go : (j ≡ c) ⊎ (j < c) → (j < c → Any (Reaches s m) (places A n (suc j))) → Any (Reaches s m) (places A (suc n) j)
      go (inl same) rest = inl (k, omega arith)
      go (inr lt) rest = inr (rest lt)

  pub start_basis : (r : ℕ) → Basis (vectors A 𝓕 (suc r)) (places A (suc r) 0)
  start_basis r =
      record {
        led = places_led (suc r) (suc r) 0;
        reached =
            λ v m _ _. places_reach (suc r) (suc r) 0 (m / suc r) (m % suc r) m (omega arith) (rw zero-add (mod-lt m (zero-lt-suc r)))
            (sym (div-add-mod' m (suc r)));
      }

  -- the lines of the start

  every_gap : (r j k : ℕ) → j < k → every r k (shift A j (A.one ∷ [])) ≡ []
  unfolding every shift
  every_gap r j zero lt = absurd (omega arith)
  every_gap r zero (suc k) lt = refl
  every_gap r (suc j) (suc k) lt = every_gap r j k (omega arith)

  value_unit : (r i j : ℕ) (x : K) → j ≤ r → value A (every r i (shift A j (A.one ∷ []))) x ≡ unit A i j
  unfolding every shift unit value
  value_unit r zero zero x le = simp ring
  value_unit r zero (suc j) x le = rw (every_gap r j r le) (simp ring)
  value_unit r (suc i) zero x le = refl
  value_unit r (suc i) (suc j) x le = value_unit r i j x (omega arith)

  values_agree : (r : ℕ) (v : List K) (f : Condition K → K) (cs : List (Condition K)) → All (λ (c : Condition K). (form A r c).of v ≡ f c) cs
      → map (λ (C : Form K). C.of v) (map (form A r) cs) ≡ map f cs
  values_agree r v f [] h = refl
  values_agree r v f (c ∷ cs) h = cc (h.0, values_agree r v f cs h.1)

  form_one : (r : ℕ) (c : Condition K) → A.In c.value → (form A r c).of (A.one ∷ []) ≡ c.value
  unfolding form every value
  form_one r c h = simp ring (𝓕.one_times c.value h)

  form_unit : (r j : ℕ) (c : Condition K) → j < r → (form A r c).of (shift A (suc j) (A.one ∷ [])) ≡ unit A c.row j
  unfolding form every value shift
  form_unit r j c lt = rw (value_unit r c.row j c.point (omega arith), every_gap r j r lt) (simp ring)

  every_unit : (r j : ℕ) → j < r → every r 0 (shift A (suc j) (A.one ∷ [])) ≡ A.zero ∷ []
  unfolding every shift
  every_unit r j lt = ap (λ (p : List K). A.zero ∷ p) (every_gap r j r lt)

  start_rows : (r n j : ℕ) (cs : List (Condition K)) → j + n ≤ r
      → map (line (every r 0) (map (form A r) cs)) (places A n (suc j)) ≡ start_rows_lem A n j cs
  unfolding places start_rows_lem
  start_rows r zero j cs le = refl
  start_rows r (suc n) j cs le =
      let values = values_agree r (shift A (suc j) (A.one ∷ [])) (λ (c : Condition K). unit A c.row j) cs
      (all_each _ (λ c. form_unit r j c (omega arith)) cs) in
      ap₂ (λ (e : Line K) (es : List (Line K)). e ∷ es) (line_path (suc j) (every_unit r j (omega arith)) values)
      (start_rows r n (suc j) cs (omega arith))

  pub start_lines : (r : ℕ) (cs : List (Condition K)) → All (λ (c : Condition K). A.In c.value) cs
      → map (line (every r 0) (map (form A r) cs)) (places A (suc r) 0) ≡ start A r cs
  unfolding places start shift every
  start_lines r cs h =
      let values = values_agree r (A.one ∷ []) (λ (c : Condition K). c.value) cs (all_weaken _ _ (form_one r) cs h) in
      ap₂ (λ (e : Line K) (es : List (Line K)). e ∷ es) (line_path 0 refl values) (start_rows r r 0 cs (omega arith))

-- ---- The solutions of the rows' conditions, as a space of vectors, and the locators that the small ones among them are.

abbrev pub stride : {K : Type 0} → List (Row K) → ℕ
stride rows = suc (length rows)

module _ {K : Type 0} (A : Arithmetic K) (rows : List (Row K)) where
  abbrev pub forms : List (Form K)
  forms = map (form A (length rows)) (conditions 0 rows)

module _ {K : Type 0} (A : Arithmetic K) (𝓕 : Field A) (rows : List (Row K)) where
  pub forms_lawful : All (Lawful (vectors A 𝓕 (stride rows))) (forms A rows)
  forms_lawful =
      all_map _ _ (form A (length rows)) (form_lawful A 𝓕 (length rows)) (conditions 0 rows)
      (conditions_below (length rows) 0 rows (omega arith))

  abbrev pub solutions : Space A (stride rows)
  solutions = kernels A 𝓕 (vectors A 𝓕 (stride rows)) (forms A rows) forms_lawful

  pub of_solution : (v : List K) → solutions.has v → All A.In v × Met A (length rows) 0 rows v
  of_solution v h =
      let (symbols, zeros) = of_kernels A 𝓕 (vectors A 𝓕 (stride rows)) (forms A rows) forms_lawful v h in
      (symbols, all_of_map _ (form A (length rows)) (conditions 0 rows) zeros)

  -- vectors of a size, as locators

  module _ (t : ℕ) where
    -- places up to the size
    abbrev pub Small : List K → Type 0
    Small v = Below A v (suc (t * stride rows))

    pub low_small : (e : Entry K) → Led solutions e → e.lead ≤ t * stride rows → Small e.vec
    low_small e led le i b = led.leads.below i (omega arith)

    pub first_below : (v : List K) → Small v → Below A (every (length rows) 0 v) (suc t)
    first_below v b = every_first_below A 𝓕 (length rows) t v b

    pub stands_within : (E v : List K) → StandsFor A t rows E v → solutions.has v
    stands_within E v h =
        to_kernels A 𝓕 (vectors A 𝓕 (stride rows)) (forms A rows) forms_lawful v h.symbols
        (all_map _ _ (form A (length rows)) (λ c z. z) (conditions 0 rows) h.met)

    pub locates : (v : List K) → solutions.has v → Small v → Locates A t rows (cut A (suc t) (every (length rows) 0 v))
    locates v h b =
        let (symbols, met) = of_solution v h in
        locator_of A 𝓕 (length rows) t v symbols b rows met

    -- in plain rows, a solution with no E is zero
    pub no_locator : Plain A t rows → (v : List K) → solutions.has v → Small v → Zero A (every (length rows) 0 v) → Zero A v
    no_locator plain v h b z =
        let (symbols, met) = of_solution v h in
        plain-zero A 𝓕 (length rows) t v symbols b z rows refl plain met

-- ---- What the solver's last lines say of the locators of the rows.

module _ {K : Type 0} (A : Arithmetic K) (rows : List (Row K)) (t : ℕ) where
  -- every locator of size t is a multiple of E
  abbrev pub AllMultiples : List K → Type 0
  AllMultiples E = (E' : List K) → Locates A t rows E' → (c : K) × A.In c × (E' ≡ scale A c E)

  -- where e and f have different leads that size t allows, the locator of e is no multiple of that of f
  abbrev pub NotMultiple : Line K → Line K → Type 0
  NotMultiple e f =
      e.lead ≤ t * stride rows → f.lead ≤ t * stride rows → (e.lead ≡ f.lead → ⊥)
      → (c : K) → locator_of_lem A t e ≡ scale A c (locator_of_lem A t f) → ⊥

pub record Alone {K : Type 0} (rows : List (Row K)) (t : ℕ) (es : List (Line K)) (g : Line K) : Type 0 where
  pub lowest : All (λ (e : Line K). g.lead ≤ e.lead) es
  pub near : t * stride rows < g.lead + stride rows
  pub alone : All (λ (e : Line K). e.lead ≤ t * stride rows → e.lead ≡ g.lead) es

module _ {K : Type 0} (A : Arithmetic K) (rows : List (Row K)) where
  abbrev behind : Discrete K → List (Entry K)
  behind same = steps.run A same (stride rows) (forms A rows) (places A (stride rows) 0)

  abbrev line_of : Entry K → Line K
  line_of e = line (every (length rows) 0) [] e

module _ {K : Type 0} (A : Arithmetic K) (𝓕 : Field A) (same : Discrete K) (rows : List (Row K)) where
  solutions_basis : Basis (solutions A 𝓕 rows) (behind A rows same)
  solutions_basis =
      run_basis A 𝓕 same (zero-lt-suc (length rows)) (vectors A 𝓕 (stride rows)) (forms A rows) (forms_lawful A 𝓕 rows)
      (places A (stride rows) 0) (start_basis A 𝓕 (length rows))

  form_points : (r : ℕ) (cs : List (Condition K))
      → map (λ (C : Form K). C.factor) (map (form A r) cs) ≡ map (λ (c : Condition K). c.point) cs
  unfolding form
  form_points r [] = refl
  form_points r (c ∷ cs) = ap (λ (l : List K). c.point ∷ l) (form_points r cs)

  module _ (symbols : All (λ (row : Row K). All (λ (c : K × K). A.In c.1) row) rows) where
    solve_lines : solve A same rows ≡ map (line_of A rows) (behind A rows same)
    unfolding solve
    solve_lines =
        let r : ℕ = length rows in
        let cs : List (Condition K) = conditions 0 rows in
        ap₂ (run A same (suc r)) (sym (form_points r cs)) (sym (start_lines A 𝓕 r cs (conditions_values A.In 0 rows symbols)))
        ∙ run_lines A 𝓕 same (every r 0) (part_every A 𝓕 r 0 (omega arith))
        (zero-lt-suc r) (vectors A 𝓕 (suc r)) (forms A rows) (forms_lawful A 𝓕 rows) (places A (suc r) 0) (start_basis A 𝓕 r)

    -- what holds of the vectors holds of the lines, and back
    to_lines : (P : Line K → Type 0) → ((e : Entry K) → Led (solutions A 𝓕 rows) e → P (line_of A rows e)) → All P (solve A same rows)
    to_lines P h = rw solve_lines (all_map _ P (line_of A rows) h (behind A rows same) solutions_basis.led)

    of_lines : (P : Line K → Type 0) → All P (solve A same rows) → All (λ (e : Entry K). P (line_of A rows e)) (behind A rows same)
    of_lines P h = all_of_map P (line_of A rows) (behind A rows same) (rw solve_lines at h)

    module _ (t : ℕ) where
      pub none_below : All (λ (e : Line K). t * stride rows < e.lead) (solve A same rows)
          → (E : List K) → Locates A t rows E → Zero A E
      none_below high E h =
          let (v, stands) = vector_of A 𝓕 t rows E h in
          rw stands.first at (every_zero A 𝓕 (length rows) 0 v (none v (stands_within A 𝓕 rows t E v stands) stands.small))
        where
          none : (v : List K) → (solutions A 𝓕 rows).has v → Small A 𝓕 rows t v → Zero A v
          none = no_lower A 𝓕 (solutions A 𝓕 rows) (behind A rows same) solutions_basis (suc (t * stride rows)) (of_lines _ high)

      pub lines_locate : All (λ (e : Line K). e.lead ≤ t * stride rows → Locates A t rows (locator_of_lem A t e)) (solve A same rows)
      lines_locate = to_lines _ (λ e led le. locates A 𝓕 rows t e.vec led.within (low_small A 𝓕 rows t e led le))

      pub lines_nonzero : Plain A t rows
          → All (λ (e : Line K). e.lead ≤ t * stride rows → Zero A (locator_of_lem A t e) → ⊥) (solve A same rows)
      lines_nonzero plain = to_lines _ nonzero
        where
          nonzero : (e : Entry K) → Led (solutions A 𝓕 rows) e → e.lead ≤ t * stride rows → Zero A (locator_of_lem A t (line_of A rows e)) → ⊥
          nonzero e led le z =
              let E : List K = every (length rows) 0 e.vec in
              let small : Small A 𝓕 rows t e.vec = low_small A 𝓕 rows t e led le in
              let same_at = at_cut A 𝓕 (suc t) E (first_below A 𝓕 rows t e.vec small) in
              let none : Zero A E = zero_at A 𝓕 E (λ i _. sym (same_at i) ∙ at_zero A 𝓕 (cut A (suc t) E) z i) in
              led.leads.nonzero (at_zero A 𝓕 e.vec (no_locator A 𝓕 rows t plain e.vec led.within small none) e.lead)

      pub all_multiples : All (λ (g : Line K). Alone rows t (solve A same rows) g → AllMultiples A rows t (locator_of_lem A t g))
          (solve A same rows)
      all_multiples = to_lines _ multiple
        where
          multiple : (g : Entry K) → Led (solutions A 𝓕 rows) g → Alone rows t (solve A same rows) (line_of A rows g)
              → AllMultiples A rows t (locator_of_lem A t (line_of A rows g))
          multiple g led only E h =
              let L : List K = every (length rows) 0 g.vec in
              let (v, stands) = vector_of A 𝓕 t rows E h in
              let (c, hc, z) = of_g v (stands_within A 𝓕 rows t E v stands) stands.small in
              let z_e : Zero A (mix A c E L) = rw (every_mix, stands.first) at (every_zero A 𝓕 (length rows) 0 (mix A c v g.vec) z) in
              (c, hc, multiple_cut A 𝓕 (suc t) c E L h.poly.count z_e)
            where
              of_g : (v : List K) → (solutions A 𝓕 rows).has v → Small A 𝓕 rows t v → (c : K) × A.In c × Zero A (mix A c v g.vec)
              of_g =
                  multiples A 𝓕 (solutions A 𝓕 rows) (behind A rows same) solutions_basis g led (of_lines _ only.lowest)
                  (t * stride rows) only.near (of_lines _ only.alone)

      pub not_multiples : Plain A t rows
          → All (λ (e : Line K). All (λ (f : Line K). NotMultiple A rows t e f) (solve A same rows)) (solve A same rows)
      not_multiples plain = to_lines _ (λ e le. to_lines _ (λ f lf. apart e f le lf))
        where
          apart : (e f : Entry K) → Led (solutions A 𝓕 rows) e → Led (solutions A 𝓕 rows) f
              → NotMultiple A rows t (line_of A rows e) (line_of A rows f)
          apart e f le lf be bf other c eq =
              let v : List K = e.vec in
              let w : List K = f.vec in
              let sv : Small A 𝓕 rows t v = low_small A 𝓕 rows t e le be in
              let sw : Small A 𝓕 rows t w = low_small A 𝓕 rows t f lf bf in
              let u : List K = mix A c v w in
              let su : (solutions A 𝓕 rows).has u = (solutions A 𝓕 rows).mixed c v w le.within lf.within in
              let none : Zero A (every (length rows) 0 u) =
              rw every_mix (zero_of_cut A 𝓕 (suc t) c _ _ (first_below A 𝓕 rows t v sv) (first_below A 𝓕 rows t w sw) eq) in
              let zero : Zero A u = no_locator A 𝓕 rows t plain u su (below_mix A 𝓕 c v w _ sv sw) none in
              not_multiple A 𝓕 v w e.lead f.lead (of_solution A 𝓕 rows w lf.within).0 le.leads lf.leads other c zero

-- ---- The least size at which the rows have a locator, read off the lines: their lowest lead, and the next.

-- sizes

pub size_high : (r m : ℕ) → m ≤ size r m * suc r
unfolding size
size_high r m = omega (arith, div-add-mod' (m + r) (suc r), mod-lt (m + r) (zero-lt-suc r))

pub size_near : (r m : ℕ) → size r m * suc r < m + suc r
unfolding size
size_near r m = omega (arith, div-add-mod' (m + r) (suc r), mod-lt (m + r) (zero-lt-suc r))

pub size_least : (r m t : ℕ) → t < size r m → t * suc r < m
size_least r m t lt = omega (arith, size_near r m, mul-le-mul_right (suc r) lt, suc-mul t (suc r))

not_above : (l m : ℕ) → (l < m → ⊥) → m ≤ l
not_above l m h = omega arith

another_passed : {K : Type 0} (m : ℕ) (es : List (Line K))
    → All (NoBetter (λ (e : Line K). e.lead) (λ (e : Line K). e.lead ≡ m) (another m es)) es
unfolding another
another_passed m es = lowest_passed _ _ (λ e. ℕ_discrete e.lead m) es none

-- the number of lines

module _ {K : Type 0} (A : Arithmetic K) where
  rows-length : (n j : ℕ) (cs : List (Condition K)) → length (start_rows_lem A n j cs) ≡ n
  unfolding start_rows_lem
  rows-length zero j cs = refl
  rows-length (suc n) j cs = ap suc (rows-length n (suc j) cs)

  module _ (same : Discrete K) (s : ℕ) where
    step_by_length : (x : K) (xs : List K) (es : List (Line K)) (o : Option (Line K)) → length (step_by A same s x xs es o) ≡ length es
    unfolding step_by
    step_by_length x xs es none = length-map es _
    step_by_length x xs es (some p) = length-map es _

    run_length : (xs : List K) (es : List (Line K)) → length (run A same s xs es) ≡ length es
    unfolding run step
    run_length [] es = refl
    run_length (x ∷ xs) es = run_length xs (step A same s x xs es) ∙ step_by_length x xs es _

  pub solve_length : (same : Discrete K) (rows : List (Row K)) → length (solve A same rows) ≡ suc (length rows)
  unfolding solve start
  solve_length same rows = run_length same _ _ _ ∙ ap suc (rows-length (length rows) 0 (conditions 0 rows))

-- the least size

-- E is a locator of size t, and no smaller size has one; in plain rows it is not zero
pub record LeastLocator {K : Type 0} (A : Arithmetic K) (rows : List (Row K)) (t : ℕ) (E : List K) : Type 0 where
  pub below : (t' : ℕ) → t' < t → (E' : List K) → Locates A t' rows E' → Zero A E'
  pub locates : Locates A t rows E
  pub nonzero : Plain A t rows → Zero A E → ⊥

-- E' is another locator of size t, and neither is a multiple of the other
pub record Several {K : Type 0} (A : Arithmetic K) (rows : List (Row K)) (t : ℕ) (E E' : List K) : Type 0 where
  pub locates : Locates A t rows E'
  pub nonzero : Zero A E' → ⊥
  pub not_of_first : (c : K) → E' ≡ scale A c E → ⊥
  pub not_of_second : (c : K) → E ≡ scale A c E' → ⊥

module _ {K : Type 0} (A : Arithmetic K) (𝓕 : Field A) (same : Discrete K) (rows : List (Row K))
    (symbols : All (λ (row : Row K). All (λ (c : K × K). A.In c.1) row) rows)
  where
    pub least_found : least (solve A same rows) ≡ none → ⊥
    unfolding least
    least_found e = go (solve A same rows) (solve_length A same rows) (none_found _ _ _ (solve A same rows) e)
      where
        go : (es : List (Line K)) → length es ≡ suc (length rows) → All (λ (e : Line K). ⊥) es → ⊥
        go [] l h = omega arith
        go (e ∷ es) l h = h.0

    module _ (g : Line K) (first : least (solve A same rows) ≡ some g) where
      of_least : (Q : Line K → Type 0) → All Q (solve A same rows) → Q g
      unfolding least
      of_least Q h = (found _ _ _ (solve A same rows) Q h g first).0

      least_lowest : All (λ (e : Line K). g.lead ≤ e.lead) (solve A same rows)
      unfolding least
      least_lowest =
          all_weaken _ _ (λ e h. not_above e.lead g.lead h) (solve A same rows) (found_lowest _ _ _ (solve A same rows) g first)

      module _ (t : ℕ) (fits : t ≡ size (length rows) g.lead) where
        low : g.lead ≤ t * stride rows
        low = rw fits (size_high (length rows) g.lead)

        pub least_size : LeastLocator A rows t (locator_of_lem A t g)
        least_size =
            record {
              below =
                  λ t' lt. none_below A 𝓕 same rows symbols t'
                  (all_weaken _ _ (λ e h. above t' lt e.lead h) (solve A same rows) least_lowest);
              locates = of_least _ (lines_locate A 𝓕 same rows symbols t) low;
              nonzero = λ plain. of_least _ (lines_nonzero A 𝓕 same rows symbols t plain) low;
            }
          where
            above : (t' : ℕ) → t' < t → (l : ℕ) → g.lead ≤ l → t' * stride rows < l
            above t' lt l h = omega (arith, size_least (length rows) g.lead t' (rw fits at lt))

        pub one_locator : IfFound (λ (q : Line K). t * stride rows < q.lead) (another g.lead (solve A same rows))
            → AllMultiples A rows t (locator_of_lem A t g)
        one_locator beyond =
            of_least _ (all_multiples A 𝓕 same rows symbols t)
            (record { lowest = least_lowest; near = rw fits (size_near (length rows) g.lead); alone = alone })
          where
            only : (o : Option (Line K)) → IfFound (λ (q : Line K). t * stride rows < q.lead) o → (e : Line K)
                → NoBetter (λ (e : Line K). e.lead) (λ (e : Line K). e.lead ≡ g.lead) o e → e.lead ≤ t * stride rows → e.lead ≡ g.lead
            only none h e p le = p
            only (some q) h e p le = p (omega arith)

            alone : All (λ (e : Line K). e.lead ≤ t * stride rows → e.lead ≡ g.lead) (solve A same rows)
            alone =
                let o : Option (Line K) = another g.lead (solve A same rows) in
                all_weaken _ _ (only o beyond) (solve A same rows) (another_passed g.lead (solve A same rows))

        module _ (q : Line K) (next : another g.lead (solve A same rows) ≡ some q) (within : q.lead ≤ t * stride rows) where
          of_another : (Q : Line K → Type 0) → All Q (solve A same rows) → Q q × (q.lead ≡ g.lead → ⊥)
          unfolding another
          of_another Q h = found _ _ _ (solve A same rows) Q h q next

          pub two_locators : Plain A t rows → Several A rows t (locator_of_lem A t g) (locator_of_lem A t q)
          two_locators plain =
              let (locates, other) = of_another _ (lines_locate A 𝓕 same rows symbols t) in
              let all = not_multiples A 𝓕 same rows symbols t plain in
              record {
                locates = locates within;
                nonzero = (of_another _ (lines_nonzero A 𝓕 same rows symbols t plain)).0 within;
                not_of_first = of_least _ (of_another _ all).0 within low other;
                not_of_second = (of_another _ (of_least _ all)).0 low within (λ e. other (sym e));
              }
