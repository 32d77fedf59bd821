-- The solver's table: for each of r + 1 lines its lead, its locator and its values at the conditions still to come.
--
--   Row                points with their values
--   Condition          of a solution (E, and N of each row): N of this row is value·E at this point
--   conditions j rows  the conditions of the rows, one row after another, the first being row j
--   Line               a solution of the conditions met so far: its lead, its E, its values at the conditions still to come
--   start r cs         the lines before the first condition
--   step x xs es       the lines after the condition at point x, where xs are the points still to come
--   run xs es          the lines after the conditions at the points xs
--   solve rows         the lines after all conditions of the rows
--   least es           the first line of lowest lead
--   another m es       the first line of lowest lead among those whose lead is not m
--   size r m           the size of the solutions whose lead is m, with r rows: m / (r + 1), rounded up
--   cut n p            the first n coefficients of p, zeros where p has no more
--   locator_of_lem t e      the locator of size t on line e: t + 1 coefficients
--   Separate s l l'   no multiples of the stride make l and l' equal: separate_below, where both are below it; separate_add, further on
--   Apart s es        the leads of the lines are pairwise separate
--   start_apart       so they are at the start
--   step_apart        and after a step, if before
--   apart_leads       lines at two places have two leads
--   cut-length, cut_at    there are n of them, and what they are
--   cut_poly       n coefficients, all of them symbols
--   at_cut, value_cut   the same places, the same values
--   multiple_cut   a polynomial of n coefficients that is a multiple of q up to trailing zeros is a multiple of q's first n
--   zero_of_cut    and back
--   Part s part     part picks out of a vector what mix and shift act on as on a polynomial
--   line part Cs e  what the table holds of the entry e, with the conditions Cs still to come
-- Assumes nothing.
use mathlib.Core.Path.{◌≡◌, refl, sym, ap, ◌∙◌, ap₂}
use mathlib.Core.List.{List, [], ◌∷◌, ◌++◌, map}
use mathlib.Core.Option
use mathlib.Core.Option.{Option, none, some}
use Prim.Native.Nat.{ℕ, zero, suc, ◌+◌, ◌/◌, ◌*◌, ◌≤◌, ◌<◌}
use native.Mathlib.Decide.{ℕ_discrete, dec_lt}
use native.Mathlib.Nat.{suc-mul, add-mul, mul-le-mul_right, suc_inj}
use native.Mathlib.Omega.{arith}
use lib.ListN.{get_or, length}
use Rattle.field.specs.Arithmetic.{Arithmetic}
use Rattle.basis.proofs.Vector.{mix, at, Below, at_mix, at_scale, zero_at, shift}
use Rattle.basis.proofs.Scan.{lowest, all_map, lower, better, IfFound, lowest_fails}
use Rattle.poly.specs.Poly.{All, Zero, Poly, value, add, scale}
use Rattle.field.proofs.Laws.{Field}
use Rattle.poly.proofs.Ring.{ring, plus_self, times_zero, plus_cancel, plus_times}
use Rattle.poly.proofs.Sums.{add-nil}
use Rattle.basis.proofs.Basis.{Space, Form, Entry, Lawful, Led, Basis, kernel, rest_lawful, step_basis}
use Rattle.basis.proofs.Basis as steps

-- ---- The solver's table: for each of r + 1 lines its lead, its locator and its values at the conditions still to come.

pub record Condition (K : Type 0) : Type 0 where
  pub row : ℕ
  pub point : K
  pub value : K

-- points, each with the value there
abbrev pub Row : Type 0 → Type 0
Row K = List (K × K)

-- what a row says at a point
abbrev pub condition : {K : Type 0} → ℕ → K × K → Condition K
condition j c = record { row = j; point = c.0; value = c.1 }

-- the conditions of rows, the first of which is row j
abbrev pub conditions : {K : Type 0} → ℕ → List (Row K) → List (Condition K)
conditions j [] = []
conditions j (row ∷ rows) = map (condition j) row ++ conditions (suc j) rows

pub record Line (K : Type 0) : Type 0 where
  pub lead : ℕ
  pub locator : List K
  pub values : List K

abbrev pub later : {K : Type 0} → List K → List K
later [] = []
later (u ∷ us) = us

-- a line on which the condition at hand is zero stays as it is
unfoldable pub keep : {K : Type 0} → Line K → Line K
keep e = record { lead = e.lead; locator = e.locator; values = later e.values }

unfoldable pub least : {K : Type 0} → List (Line K) → Option (Line K)
least es = lowest (λ e. e.lead) {P = λ e. ⊥} (λ e. no (λ h. h)) none es

unfoldable pub another : {K : Type 0} → ℕ → List (Line K) → Option (Line K)
another m es = lowest (λ e. e.lead) {P = λ e. e.lead ≡ m} (λ e. ℕ_discrete e.lead m) none es

unfoldable pub size : ℕ → ℕ → ℕ
size r m = (m + r) / suc r

module _ {K : Type 0} (A : Arithmetic K) where
  -- the value at the condition at hand
  abbrev pub now : Line K → K
  now e = get_or e.values 0 A.zero

  -- one where the two numbers are the same
  unfoldable pub unit : ℕ → ℕ → K
  unit zero zero = A.one
  unit zero (suc j) = A.zero
  unit (suc i) zero = A.zero
  unit (suc i) (suc j) = unit i j

  -- the lines of n rows from row j on: N of that row is 1, and all else is 0
  unfoldable pub start_rows_lem : ℕ → ℕ → List (Condition K) → List (Line K)
  start_rows_lem zero j cs = []
  start_rows_lem (suc n) j cs =
      record { lead = suc j; locator = A.zero ∷ []; values = map (λ (c : Condition K). unit c.row j) cs } ∷ start_rows_lem n (suc j) cs

  -- the first line: E is 1, and every N is 0
  unfoldable pub start : ℕ → List (Condition K) → List (Line K)
  start r cs =
      record { lead = 0; locator = A.one ∷ []; values = map (λ (c : Condition K). c.value) cs } ∷ start_rows_lem r 0 cs

  -- values at points to come of (x + a) times a line
  unfoldable pub lifted : K → List K → List K → List K
  lifted a [] us = []
  lifted a (x ∷ xs) [] = []
  lifted a (x ∷ xs) (u ∷ us) = A.times (A.plus x a) u ∷ lifted a xs us

  module _ (same : Discrete K) (s : ℕ) where
    module _ (x : K) (xs : List K) where
      -- what becomes of line e where p is the pivot: the pivot is multiplied; to each other line a multiple of the pivot is
      -- added, if need be
      unfoldable pub fix_by : (p e : Line K) → Dec (e.lead ≡ p.lead) → Dec (now e ≡ A.zero) → Line K
      fix_by p e (yes h) z =
          record { lead = s + e.lead; locator = mix A x (A.zero ∷ e.locator) e.locator; values = lifted x xs (later e.values) }
      fix_by p e (no h) (yes z) = keep e
      fix_by p e (no h) (no z) =
          let c : K = A.over (now e) (now p) in
          record { lead = e.lead; locator = mix A c e.locator p.locator; values = mix A c (later e.values) (later p.values) }

      unfoldable pub fix : Line K → Line K → Line K
      fix p e = fix_by p e (ℕ_discrete e.lead p.lead) (same (now e) A.zero)

      unfoldable pub step_by : List (Line K) → Option (Line K) → List (Line K)
      step_by es none = map keep es
      step_by es (some p) = map (fix p) es

      unfoldable pub step : List (Line K) → List (Line K)
      step es = step_by es (lowest (λ (e : Line K). e.lead) (λ (e : Line K). same (now e) A.zero) none es)

    unfoldable pub run : List K → List (Line K) → List (Line K)
    run [] es = es
    run (x ∷ xs) es = run xs (step x xs es)

  unfoldable pub solve : Discrete K → List (Row K) → List (Line K)
  solve same rows =
      run same (suc (length rows)) (map (λ (c : Condition K). c.point) (conditions 0 rows)) (start (length rows) (conditions 0 rows))

  unfoldable pub cut : ℕ → List K → List K
  cut zero p = []
  cut (suc n) [] = A.zero ∷ cut n []
  cut (suc n) (a ∷ p) = a ∷ cut n p

  abbrev pub locator_of_lem : ℕ → Line K → List K
  locator_of_lem t e = cut (suc t) e.locator

-- ---- The lines' leads are pairwise different, and stay so: no two differ by a multiple of the stride.

abbrev pub Separate : ℕ → ℕ → ℕ → Type 0
Separate s l l' = (i j : ℕ) → i * s + l ≡ j * s + l' → ⊥

abbrev pub Apart : {K : Type 0} → ℕ → List (Line K) → Type 0
Apart s [] = Unit {0}
Apart s (e ∷ es) = All (λ f. Separate s e.lead f.lead) es × Apart s es

pub separate_add : (s l l' r r' : ℕ) → Separate s l l' → Separate s (r * s + l) (r' * s + l')
separate_add s l l' r r' h i j e = h (i + r) (j + r') (omega (arith, add-mul i r s, add-mul j r' s))

pub separate_below : (s l l' : ℕ) → l < l' → l' < s → Separate s l l'
separate_below s l l' lt high i j e = go (dec_lt i j) (dec_lt j i)
  where
    go : Dec (i < j) → Dec (j < i) → ⊥
    go (yes h) d = omega (arith, suc-mul i s, mul-le-mul_right s h)
    go (no h) (yes k) = omega (arith, suc-mul j s, mul-le-mul_right s k)
    go (no h) (no k) =
        let same : i ≡ j = omega arith in
        let cancel : j * s + l ≡ j * s + l' = rw same at e in
        omega arith

module _ {K : Type 0} (A : Arithmetic K) where
  rows_above : (s n j l : ℕ) (cs : List (Condition K)) → l ≤ j → j + n < s
      → All (λ (f : Line K). Separate s l f.lead) (start_rows_lem A n j cs)
  unfolding start_rows_lem
  rows_above s zero j l cs le lt = tt
  rows_above s (suc n) j l cs le lt =
      (separate_below s l (suc j) (omega arith) (omega arith), rows_above s n (suc j) l cs (omega arith) (omega arith))

  rows_apart : (s n j : ℕ) (cs : List (Condition K)) → j + n < s → Apart s (start_rows_lem A n j cs)
  unfolding start_rows_lem
  rows_apart s zero j cs lt = tt
  rows_apart s (suc n) j cs lt = (rows_above s n (suc j) (suc j) cs (omega arith) (omega arith), rows_apart s n (suc j) cs (omega arith))

  pub start_apart : (r : ℕ) (cs : List (Condition K)) → Apart (suc r) (start A r cs)
  unfolding start
  start_apart r cs = (rows_above (suc r) r 0 0 cs (omega arith) (omega arith), rows_apart (suc r) r 0 cs (omega arith))

  module _ (same : Discrete K) (s : ℕ) (x : K) (xs : List K) where
    -- a lead rises by the stride, or not at all
    fix_by_lead : (p e : Line K) (d : Dec (e.lead ≡ p.lead)) (z : Dec (now A e ≡ A.zero))
        → (r : ℕ) × ((fix_by A same s x xs p e d z).lead ≡ r * s + e.lead)
    unfolding fix_by keep
    fix_by_lead p e (yes h) z = (1, omega arith)
    fix_by_lead p e (no h) (yes z) = (0, omega arith)
    fix_by_lead p e (no h) (no z) = (0, omega arith)

    fix_separate : (p e f : Line K) → Separate s e.lead f.lead
        → Separate s (fix A same s x xs p e).lead (fix A same s x xs p f).lead
    unfolding fix
    fix_separate p e f h =
        let (r, re) = fix_by_lead p e (ℕ_discrete e.lead p.lead) (same (now A e) A.zero) in
        let (r', rf) = fix_by_lead p f (ℕ_discrete f.lead p.lead) (same (now A f) A.zero) in
        rw (re, rf) (separate_add s e.lead f.lead r r' h)

    fix_apart : (p : Line K) (es : List (Line K)) → Apart s es → Apart s (map (fix A same s x xs p) es)
    fix_apart p [] h = tt
    fix_apart p (e ∷ es) h = (all_map _ _ (fix A same s x xs p) (fix_separate p e) es h.0, fix_apart p es h.1)

    keep_apart : (es : List (Line K)) → Apart s es → Apart s (map keep es)
    unfolding keep
    keep_apart [] h = tt
    keep_apart (e ∷ es) h = (all_map _ _ keep (λ f hf. hf) es h.0, keep_apart es h.1)

    step_by_apart : (es : List (Line K)) (o : Option (Line K)) → Apart s es → Apart s (step_by A same s x xs es o)
    unfolding step_by
    step_by_apart es none h = keep_apart es h
    step_by_apart es (some p) h = fix_apart p es h

    pub step_apart : (es : List (Line K)) → Apart s es → Apart s (step A same s x xs es)
    unfolding step
    step_apart es h = step_by_apart es _ h

module _ {K : Type 0} (s : ℕ) (d : Line K) where
  separate_at : (l : ℕ) (es : List (Line K)) (j : ℕ) → All (λ (f : Line K). Separate s l f.lead) es → j < length es
      → (get_or es j d).lead ≡ l → ⊥
  separate_at l [] j h lt e = omega arith
  separate_at l (f ∷ es) zero h lt e = h.0 0 0 (omega arith)
  separate_at l (f ∷ es) (suc j) h lt e = separate_at l es j h.1 (omega arith) e

  pub apart_leads : (es : List (Line K)) → Apart s es → (i j : ℕ) → i < length es → j < length es
      → (get_or es i d).lead ≡ (get_or es j d).lead → i ≡ j
  apart_leads [] h i j li lj e = absurd (omega arith)
  apart_leads (f ∷ es) h zero zero li lj e = refl
  apart_leads (f ∷ es) h zero (suc j) li lj e = absurd (separate_at f.lead es j h.0 (omega arith) (sym e))
  apart_leads (f ∷ es) h (suc i) zero li lj e = absurd (separate_at f.lead es i h.0 (omega arith) e)
  apart_leads (f ∷ es) h (suc i) (suc j) li lj e = ap suc (apart_leads es h.1 i j (omega arith) (omega arith) e)

-- ---- The first coefficients of a polynomial whose others are zero: they have its places and its values.

module _ {K : Type 0} (A : Arithmetic K) where
  pub cut-length : (n : ℕ) (p : List K) → length (cut A n p) ≡ n
  unfolding cut
  cut-length zero p = refl
  cut-length (suc n) [] = ap suc (cut-length n [])
  cut-length (suc n) (a ∷ p) = ap suc (cut-length n p)

  pub cut_at : (n : ℕ) (p : List K) (k : ℕ) → k < n → get_or (cut A n p) k A.zero ≡ get_or p k A.zero
  unfolding cut
  cut_at zero p k lt = absurd (omega arith)
  cut_at (suc n) [] zero lt = refl
  cut_at (suc n) [] (suc k) lt = cut_at n [] k (omega arith)
  cut_at (suc n) (a ∷ p) zero lt = refl
  cut_at (suc n) (a ∷ p) (suc k) lt = cut_at n p k (omega arith)

module _ {K : Type 0} (A : Arithmetic K) (𝓕 : Field A) where
  cut_in : (n : ℕ) (p : List K) → All A.In p → All A.In (cut A n p)
  unfolding cut
  cut_in zero p h = tt
  cut_in (suc n) [] h = (𝓕.zero_in, cut_in n [] tt)
  cut_in (suc n) (a ∷ p) h = (h.0, cut_in n p h.1)

  pub cut_poly : (n : ℕ) (p : List K) → All A.In p → Poly A n (cut A n p)
  cut_poly n p h = record { count = cut-length A n p; symbols = cut_in n p h }

  below_tail : (a : K) (p : List K) (n : ℕ) → Below A (a ∷ p) (suc n) → Below A p n
  below_tail a p n h i le = h (suc i) (omega arith)

  pub at_cut : (n : ℕ) (p : List K) → Below A p n → (i : ℕ) → at A (cut A n p) i ≡ at A p i
  unfolding cut
  at_cut zero p h i = sym (h i (omega arith))
  at_cut (suc n) [] h zero = refl
  at_cut (suc n) [] h (suc i) = at_cut n [] (λ _ _. refl) i
  at_cut (suc n) (a ∷ p) h zero = refl
  at_cut (suc n) (a ∷ p) h (suc i) = at_cut n p (below_tail a p n h) i

  zero_step : (a x y : K) → a ≡ A.zero → y ≡ A.zero → A.plus a (A.times x y) ≡ A.zero
  zero_step a x y h k = simp (h, k, ring)

  pub value-zero : (p : List K) (x : K) → Below A p 0 → value A p x ≡ A.zero
  unfolding value
  value-zero [] x h = refl
  value-zero (a ∷ p) x h = zero_step a x (value A p x) (h 0 (omega arith)) (value-zero p x (λ i _. h (suc i) (omega arith)))

  pub value_cut : (n : ℕ) (p : List K) (x : K) → Below A p n → value A (cut A n p) x ≡ value A p x
  unfolding cut value
  value_cut zero p x h = sym (value-zero p x h)
  value_cut (suc n) [] x h = zero_step A.zero x (value A (cut A n []) x) refl (value_cut n [] x (λ _ _. refl))
  value_cut (suc n) (a ∷ p) x h = ap (λ (y : K). A.plus a (A.times x y)) (value_cut n p x (below_tail a p n h))

  -- a polynomial of n coefficients that is a multiple up to trailing zeros is a multiple of the first n
  pub multiple_cut : (n : ℕ) (c : K) (p q : List K) → length p ≡ n → Zero A (mix A c p q) → p ≡ scale A c (cut A n q)
  unfolding cut mix add scale
  multiple_cut zero c [] q e z = refl
  multiple_cut zero c (a ∷ p) q e z = absurd (omega arith)
  multiple_cut (suc n) c [] q e z = absurd (omega arith)
  multiple_cut (suc n) c (a ∷ p) [] e z =
      ap₂ (λ (b : K) (l : List K). b ∷ l) (z.0 ∙ sym (times_zero A 𝓕 c)) (multiple_cut n c p [] (suc_inj e) (rw (add-nil A 𝓕 p) z.1))
  multiple_cut (suc n) c (a ∷ p) (b ∷ q) e z =
      ap₂ (λ (b : K) (l : List K). b ∷ l) (plus_cancel A 𝓕 z.0) (multiple_cut n c p q (suc_inj e) z.1)

  -- and back: where the first n are a multiple and the others are zero, all are
  pub zero_of_cut : (n : ℕ) (c : K) (p q : List K) → Below A p n → Below A q n → cut A n p ≡ scale A c (cut A n q) → Zero A (mix A c p q)
  zero_of_cut n c p q bp bq e = zero_at A 𝓕 (mix A c p q) (λ i _. at_mix A 𝓕 c p q i ∙ rw (meets i) (plus_self A 𝓕 (A.times c (at A q i))))
    where
      meets : (i : ℕ) → at A p i ≡ A.times c (at A q i)
      meets i =
          sym (at_cut n p bp i) ∙ ap (λ (l : List K). at A l i) e ∙ at_scale A 𝓕 c (cut A n q) i ∙ ap (A.times c) (at_cut n q bq i)

-- ---- The table is the solver's run, read through the leads, one part of each vector, and the values at the conditions still to come.

-- the scan commutes with a function under which leads and test are read
module _ {L M : Type 0} (f : L → M) (lead : M → ℕ) {P : M → Type 0} (test : (e : M) → Dec (P e)) where
  abbrev lead' : L → ℕ
  lead' e = lead (f e)

  abbrev test' : (e : L) → Dec (P (f e))
  test' e = test (f e)

  lower_map : (p e : L) (d : Dec (lead' e < lead' p)) → lower lead test (f p) (f e) d ≡ f (lower lead' test' p e d)
  unfolding lower
  lower_map p e (yes h) = refl
  lower_map p e (no h) = refl

  better_map : (best : Option L) (e : L) (d : Dec (P (f e)))
      → better lead test (Option.map f best) (f e) d ≡ Option.map f (better lead' test' best e d)
  unfolding better
  better_map best e (yes h) = refl
  better_map none e (no h) = refl
  better_map (some p) e (no h) = ap some (lower_map p e (dec_lt (lead' e) (lead' p)))

  lowest_map : (es : List L) (best : Option L) → lowest lead test (Option.map f best) (map f es) ≡ Option.map f (lowest lead' test' best es)
  unfolding lowest
  lowest_map [] best = refl
  lowest_map (e ∷ es) best =
      ap (λ (o : Option M). lowest lead test o (map f es)) (better_map best e (test' e))
      ∙ lowest_map es (better lead' test' best e (test' e))

module _ {K : Type 0} (A : Arithmetic K) (s : ℕ) where
  pub record Part (part : List K → List K) : Type 0 where
    pub part_mix : (c : K) (v w : List K) → part (mix A c v w) ≡ mix A c (part v) (part w)
    pub part_shift : (v : List K) → part (shift A s v) ≡ A.zero ∷ part v

abbrev values_of : {K : Type 0} → List (Form K) → List K → List K
values_of Cs v = map (λ C. C.of v) Cs

abbrev factors : {K : Type 0} → List (Form K) → List K
factors Cs = map (λ C. C.factor) Cs

abbrev pub line : {K : Type 0} → (List K → List K) → List (Form K) → Entry K → Line K
line part Cs e = record { lead = e.lead; locator = part e.vec; values = map (λ C. C.of e.vec) Cs }

pub line_path : {K : Type 0} (l : ℕ) {p p' u u' : List K} → p ≡ p' → u ≡ u'
    → ◌≡◌ {A = Line K} (record { lead = l; locator = p; values = u }) (record { lead = l; locator = p'; values = u' })
line_path l e f = λ i. record { lead = l; locator = e i; values = f i }

-- values at the conditions to come

module _ {K : Type 0} (A : Arithmetic K) (𝓕 : Field A) {s : ℕ} (𝓢 : Space A s) where
  values_mix : (Cs : List (Form K)) → All (Lawful 𝓢) Cs → (c : K) (v w : List K) → 𝓢.has v → 𝓢.has w
      → values_of Cs (mix A c v w) ≡ mix A c (values_of Cs v) (values_of Cs w)
  unfolding mix add scale
  values_mix [] lawful c v w hv hw = refl
  values_mix (C ∷ Cs) lawful c v w hv hw = cc (lawful.0.of_mix c v w hv hw, values_mix Cs lawful.1 c v w hv hw)

  values_lift : (Cs : List (Form K)) → All (Lawful 𝓢) Cs → (a : K) (v : List K) → 𝓢.has v
      → values_of Cs (mix A a (shift A s v) v) ≡ lifted A a (factors Cs) (values_of Cs v)
  unfolding lifted
  values_lift [] lawful a v hv = refl
  values_lift (C ∷ Cs) lawful a v hv =
      let first = lawful.0.of_mix a (shift A s v) v (𝓢.shifted v hv) hv in
      cc (first, lawful.0.of_shift v hv, plus_times A 𝓕 C.factor a (C.of v), values_lift Cs lawful.1 a v hv)

-- the steps

module _ {K : Type 0} (A : Arithmetic K) (𝓕 : Field A) (same : Discrete K) {s : ℕ} (part : List K → List K) (isPart : Part A s part) where
  module _ (𝓢 : Space A s) (C : Form K) (Cs : List (Form K)) (lawful : All (Lawful 𝓢) Cs) where
    fix_by_line : (p e : Entry K) (d : Dec (e.lead ≡ p.lead)) (z : Dec (C.of e.vec ≡ A.zero)) → 𝓢.has p.vec → 𝓢.has e.vec
        → fix_by A same s C.factor (factors Cs) (line part (C ∷ Cs) p) (line part (C ∷ Cs) e) d z
        ≡ line part Cs (steps.fix_by A same s C p e d z)
    unfolding fix_by keep steps.fix_by
    fix_by_line p e (yes h) z hp he =
        let lifts : part (mix A C.factor (shift A s e.vec) e.vec) ≡ mix A C.factor (A.zero ∷ part e.vec) (part e.vec) =
        cc (isPart.part_mix C.factor (shift A s e.vec) e.vec, isPart.part_shift e.vec) in
        sym (line_path (s + e.lead) lifts (values_lift A 𝓕 𝓢 Cs lawful C.factor e.vec he))
    fix_by_line p e (no h) (yes z) hp he = refl
    fix_by_line p e (no h) (no z) hp he =
        let c : K = A.over (C.of e.vec) (C.of p.vec) in
        sym (line_path e.lead (isPart.part_mix c e.vec p.vec) (values_mix A 𝓕 𝓢 Cs lawful c e.vec p.vec he hp))

    fix_lines : (p : Entry K) → 𝓢.has p.vec → (es : List (Entry K)) → All (Led 𝓢) es
        → map (fix A same s C.factor (factors Cs) (line part (C ∷ Cs) p)) (map (line part (C ∷ Cs)) es)
        ≡ map (line part Cs) (map (steps.fix A same s C p) es)
    unfolding fix steps.fix
    fix_lines p hp [] led = refl
    fix_lines p hp (e ∷ es) led =
        cc (
          fix_by_line p e (ℕ_discrete e.lead p.lead) (same (C.of e.vec) A.zero) hp led.0.within,
          fix_lines p hp es led.1,
        )

    keep_lines : (es : List (Entry K)) → map keep (map (line part (C ∷ Cs)) es) ≡ map (line part Cs) es
    unfolding keep
    keep_lines [] = refl
    keep_lines (e ∷ es) = ap (λ (l : List (Line K)). line part Cs e ∷ l) (keep_lines es)

    step_by_lines : (es : List (Entry K)) (o : Option (Entry K)) → All (Led 𝓢) es
        → IfFound (λ (p : Entry K). Led 𝓢 p × (C.of p.vec ≡ A.zero → ⊥)) o
        → step_by A same s C.factor (factors Cs) (map (line part (C ∷ Cs)) es) (Option.map (line part (C ∷ Cs)) o)
        ≡ map (line part Cs) (steps.step_by A same s C es o)
    unfolding step_by steps.step_by
    step_by_lines es none led hp = keep_lines es
    step_by_lines es (some p) led hp = fix_lines p hp.0.within es led

    step_lines : (es : List (Entry K)) → All (Led 𝓢) es
        → step A same s C.factor (factors Cs) (map (line part (C ∷ Cs)) es) ≡ map (line part Cs) (steps.step A same s C es)
    unfolding step steps.step
    step_lines es led =
        let scan = lowest_map (line part (C ∷ Cs)) (λ (e : Line K). e.lead) (λ (e : Line K). same (now A e) A.zero) es none in
        ap (step_by A same s C.factor (factors Cs) (map (line part (C ∷ Cs)) es)) scan
        ∙ step_by_lines es _ led (lowest_fails _ _ _ _ es none tt led)

  -- the run over the table is the run over the vectors
  pub run_lines : 0 < s → (𝓢 : Space A s) (Cs : List (Form K)) (lawful : All (Lawful 𝓢) Cs) (es : List (Entry K)) → Basis 𝓢 es
      → run A same s (map (λ (C : Form K). C.factor) Cs) (map (line part Cs) es) ≡ map (line part []) (steps.run A same s Cs es)
  unfolding run steps.run
  run_lines positive 𝓢 [] lawful es basis = refl
  run_lines positive 𝓢 (C ∷ Cs) lawful es basis =
      ap (run A same s (factors Cs)) (step_lines 𝓢 C Cs lawful.1 es basis.led)
      ∙ run_lines positive (kernel A 𝓕 𝓢 C lawful.0) Cs (rest_lawful A 𝓕 𝓢 C Cs lawful) (steps.step A same s C es)
      (step_basis A 𝓕 same positive 𝓢 C lawful.0 es basis)
