-- Spaces of vectors at a stride s, linear conditions on them, and bases by leads.
--
--   Space A s        a set of vectors of symbols, closed under mix and shift
--   Form             a condition: what it says of a vector, and the factor it takes when the vector is shifted
--   Lawful 𝓢 C       on the space the condition is linear, and its factor is what a shift multiplies it by
--   kernel 𝓢 C       the space of the vectors on which the condition is zero
--   Entry            a vector with the lead stated of it
--   Led 𝓢 e          the entry lies in the space and has its lead
--   Reaches s m e    m is the lead of e plus a multiple of the stride
--   Basis 𝓢 es       the entries lie in the space with their leads, and reach the lead of each of its nonzero vectors
--   no_lower       below the lowest lead there is only zero
--   multiples      up to a bound that one lead alone keeps, every vector is a multiple of its entry
--   not_multiple   a vector is no multiple of one with another lead
--   descend    a vector that an entry reaches, less a multiple of that entry, is lower
--   descent    so, place by place, down to the zero vector
--   fix C p e        what becomes of e where p is the pivot
--   step C es        all entries fixed by the pivot: the entry of lowest lead on which the condition is not zero
--   run Cs es        a step for each condition
--   kernels 𝓢 Cs     the space of the vectors on which all the conditions are zero
-- Assumes nothing.
use mathlib.Core.Path.{◌≡◌, sym, ◌∙◌, ap}
use mathlib.Core.List.{List, [], ◌∷◌, map}
use mathlib.Core.Logic.{◌⊎◌, inl, inr}
use mathlib.Core.Option.{Option, none, some}
use Prim.Native.Nat.{ℕ, ◌+◌, ◌*◌, zero, suc, ◌≤◌, ◌<◌}
use native.Mathlib.Nat.{zero-mul, suc-mul, le_of_suc-le-suc}
use native.Mathlib.Decide.{dec_lt, ℕ_discrete}
use native.Mathlib.Omega.{arith}
use Rattle.field.specs.Arithmetic.{Arithmetic}
use Rattle.field.proofs.Laws.{Field}
use Rattle.poly.specs.Poly.{All, Zero}
use Rattle.basis.proofs.Vector.{mix, Lead, shift, times_gone, at, Below, at_mix, at_zero, at_in, zero_at, lead_below}
use Rattle.basis.proofs.Vector.{lead_or_zero, take_off, up, mix_zero, below_pred, lead_up, lead_mix, lead_shift}
use Rattle.poly.proofs.Ring.{times_zero, plus-zero, ring, plus_cancel, plus_self, zero_plus}
use Rattle.basis.proofs.Scan.{Any, any_all, all_both, lowest, IfFound, all_map, any_map, all_weaken, NoBetter, lowest_passed}
use Rattle.basis.proofs.Scan.{lowest_fails}

-- ---- Spaces of vectors at a stride s, linear conditions on them, and bases by leads.

pub record Space {K : Type 0} (A : Arithmetic K) (s : ℕ) : Type 1 where
  pub has : List K → Type 0
  pub symbols : (v : List K) → has v → All A.In v
  pub mixed : (c : K) (v w : List K) → has v → has w → has (mix A c v w)
  pub shifted : (v : List K) → has v → has (shift A s v)

pub record Form (K : Type 0) : Type 0 where
  pub of : List K → K
  pub factor : K

pub record Entry (K : Type 0) : Type 0 where
  pub vec : List K
  pub lead : ℕ

abbrev pub Reaches : {K : Type 0} → ℕ → ℕ → Entry K → Type 0
Reaches s m e = (k : ℕ) × (m ≡ k * s + e.lead)

module _ {K : Type 0} {A : Arithmetic K} {s : ℕ} (𝓢 : Space A s) where
  pub record Lawful (C : Form K) : Type 0 where
    pub of_symbol : (v : List K) → 𝓢.has v → A.In (C.of v)
    pub of_mix : (c : K) (v w : List K) → 𝓢.has v → 𝓢.has w → C.of (mix A c v w) ≡ A.plus (C.of v) (A.times c (C.of w))
    pub of_shift : (v : List K) → 𝓢.has v → C.of (shift A s v) ≡ A.times C.factor (C.of v)

  pub record Led (e : Entry K) : Type 0 where
    pub within : 𝓢.has e.vec
    pub leads : Lead A e.vec e.lead

  pub record Basis (es : List (Entry K)) : Type 0 where
    pub led : All Led es
    pub reached : (v : List K) (m : ℕ) → 𝓢.has v → Lead A v m → Any (Reaches s m) es

module _ {K : Type 0} (A : Arithmetic K) (𝓕 : Field A) {s : ℕ} (𝓢 : Space A s) (C : Form K) (lawful : Lawful 𝓢 C) where
  pub kernel_mixed : (c : K) (v w : List K) → 𝓢.has v → 𝓢.has w → C.of v ≡ A.zero → C.of w ≡ A.zero → C.of (mix A c v w) ≡ A.zero
  kernel_mixed c v w hv hw zv zw = cc (lawful.of_mix c v w hv hw, times_zero A 𝓕 c, plus-zero A 𝓕 A.zero)

  pub kernel_shifted : (v : List K) → 𝓢.has v → C.of v ≡ A.zero → C.of (shift A s v) ≡ A.zero
  kernel_shifted v hv zv = cc (lawful.of_shift v hv, times_zero A 𝓕 C.factor)

  abbrev pub kernel : Space A s
  kernel =
      record {
        has = λ v. 𝓢.has v × (C.of v ≡ A.zero);
        symbols = λ v h. 𝓢.symbols v h.0;
        mixed = λ c v w hv hw. (𝓢.mixed c v w hv.0 hw.0, kernel_mixed c v w hv.0 hw.0 hv.1 hw.1);
        shifted = λ v h. (𝓢.shifted v h.0, kernel_shifted v h.0 h.1);
      }

  -- what is lawful on the space is lawful on the kernel
  pub kernel_lawful : (C' : Form K) → Lawful 𝓢 C' → Lawful kernel C'
  kernel_lawful C' h =
      record {
        of_symbol = λ v hv. h.of_symbol v hv.0;
        of_mix = λ c v w hv hw. h.of_mix c v w hv.0 hw.0;
        of_shift = λ v hv. h.of_shift v hv.0;
      }

-- ---- The least vectors of a space, read off the leads of its basis.

module _ {K : Type 0} (A : Arithmetic K) (𝓕 : Field A) {s : ℕ} (𝓢 : Space A s) (es : List (Entry K)) (basis : Basis 𝓢 es) where
  pub no_lower : (m : ℕ) → All (λ (e : Entry K). m ≤ e.lead) es → (v : List K) → 𝓢.has v → Below A v m → Zero A v
  no_lower m lowest v hv b = go (lead_or_zero A 𝓕 v)
    where
      go : Zero A v ⊎ ((n : ℕ) × Lead A v n) → Zero A v
      go (inl z) = z
      go (inr (n, lv)) =
          let (e, (le, (k, r))) = any_all _ _ es lowest (basis.reached v n hv lv) in
          absurd (lv.nonzero (b n (omega arith)))

  module _ (g : Entry K) (led : Led 𝓢 g) (lowest : All (λ (e : Entry K). g.lead ≤ e.lead) es)
      (B : ℕ) (near : B < g.lead + s) (alone : All (λ (e : Entry K). e.lead ≤ B → e.lead ≡ g.lead) es)
    where
      -- what is reached up to the bound has the lowest lead
      reached_lowest : (n l k : ℕ) → n ≤ B → n ≡ k * s + l → (l ≤ B → l ≡ g.lead) → n ≡ g.lead
      reached_lowest n l zero le e h =
          let same : l ≡ g.lead = h (omega (arith, zero-mul s)) in
          omega (arith, zero-mul s)
      reached_lowest n l (suc k) le e h =
          let same : l ≡ g.lead = h (omega arith) in
          omega (arith, suc-mul k s)

      pub multiples : (v : List K) → 𝓢.has v → Below A v (suc B) → (c : K) × A.In c × Zero A (mix A c v g.vec)
      multiples v hv b = go (lead_or_zero A 𝓕 v)
        where
          go : Zero A v ⊎ ((n : ℕ) × Lead A v n) → (c : K) × A.In c × Zero A (mix A c v g.vec)
          go (inl z) = (A.zero, 𝓕.zero_in, zero_at A 𝓕 (mix A A.zero v g.vec) (λ i _. rw (at_mix, at_zero A 𝓕 v z i) (simp ring)))
          go (inr (n, lv)) =
              let (e, (low, (k, r))) = any_all _ _ es alone (basis.reached v n hv lv) in
              let at_g : n ≡ g.lead = reached_lowest n e.lead k (le_of_suc-le-suc (lead_below A 𝓕 v n (suc B) lv b)) r low in
              let lg : Lead A g.vec n = rw at_g led.leads in
              let (c, hc, _, below) = take_off A 𝓕 v g.vec n (𝓢.symbols v hv) (𝓢.symbols g.vec led.within) lv lg in
              (c, hc, no_lower n (rw at_g lowest) (mix A c v g.vec) (𝓢.mixed c v g.vec hv led.within) below)

module _ {K : Type 0} (A : Arithmetic K) (𝓕 : Field A) where
  pub not_multiple : (v w : List K) (l m : ℕ) → All A.In w → Lead A v l → Lead A w m → (l ≡ m → ⊥) → (c : K) → Zero A (mix A c v w) → ⊥
  not_multiple v w l m hw lv lw other c z = go (dec_lt l m)
    where
      meets : (i : ℕ) → at A v i ≡ A.times c (at A w i)
      meets i = plus_cancel A 𝓕 (sym (at_mix A 𝓕 c v w i) ∙ at_zero A 𝓕 (mix A c v w) z i)

      -- c is zero by the place m
      all_zero : l < m → A.times c (at A w l) ≡ A.zero
      all_zero lt =
          times_gone A 𝓕 (at A w m) c (at A w l) (at_in A 𝓕 w hw m) lw.nonzero (sym (meets m) ∙ lv.below m lt) (at_in A 𝓕 w hw l)

      go : Dec (l < m) → ⊥
      go (yes lt) = lv.nonzero (meets l ∙ all_zero lt)
      go (no ge) = lv.nonzero (meets l ∙ ap (A.times c) (lw.below l (omega arith)) ∙ times_zero A 𝓕 c)

-- ---- Descent on the lead: where a condition is zero on the entries of low lead, it is zero on all vectors of low lead.

module _ {K : Type 0} (A : Arithmetic K) {s : ℕ} (𝓢 : Space A s) where
  pub up_within : (k : ℕ) (v : List K) → 𝓢.has v → 𝓢.has (up A s k v)
  unfolding up
  up_within zero v h = h
  up_within (suc k) v h = 𝓢.shifted (up A s k v) (up_within k v h)

module _ {K : Type 0} (A : Arithmetic K) (𝓕 : Field A) {s : ℕ} (𝓢 : Space A s) (C : Form K) (lawful : Lawful 𝓢 C) where
  of_zero : (v : List K) → 𝓢.has v → Zero A v → C.of v ≡ A.zero
  of_zero v h z =
      cc (
        lawful.of_mix A.one v v h h,
        mix_zero A 𝓕 A.one v z,
        𝓕.one_times (C.of v) (lawful.of_symbol v h),
        plus_self A 𝓕 (C.of v),
      )

  pub of_up : (k : ℕ) (v : List K) → 𝓢.has v → C.of v ≡ A.zero → C.of (up A s k v) ≡ A.zero
  unfolding up
  of_up zero v h z = z
  of_up (suc k) v h z = cc (lawful.of_shift (up A s k v) (up_within A 𝓢 k v h), of_up k v h z, times_zero A 𝓕 C.factor)

  module _ (es : List (Entry K)) (basis : Basis 𝓢 es) (M : ℕ) (low : All (λ (e : Entry K). e.lead < M → C.of e.vec ≡ A.zero) es) where
    descend : (v : List K) (n : ℕ) → n < M → 𝓢.has v → Lead A v n
        → ((w : List K) → 𝓢.has w → Below A w n → C.of w ≡ A.zero) → C.of v ≡ A.zero
    descend v n lt hv lv lower = go (any_all _ _ es (all_both _ _ es basis.led low) (basis.reached v n hv lv))
      where
        go : (e : Entry K) × ((Led 𝓢 e × (e.lead < M → C.of e.vec ≡ A.zero)) × Reaches s n e) → C.of v ≡ A.zero
        go (e, ((led, zero_on), (k, at_n))) =
            let u : List K = up A s k e.vec in
            let hu : 𝓢.has u = up_within A 𝓢 k e.vec led.within in
            let lu : Lead A u n = rw at_n (lead_up A 𝓕 s k led.leads) in
            let zu : C.of u ≡ A.zero = of_up k e.vec led.within (zero_on (omega arith)) in
            let (c, _, _, below) = take_off A 𝓕 v u n (𝓢.symbols v hv) (𝓢.symbols u hu) lv lu in
            let zw : C.of (mix A c v u) ≡ A.zero = lower (mix A c v u) (𝓢.mixed c v u hv hu) below in
            cc (lawful.of_mix c v u hv hu, zw, zu, times_zero A 𝓕 c, plus-zero A 𝓕 (C.of v))

    pub descent : (n : ℕ) (v : List K) → n ≤ M → 𝓢.has v → Below A v n → C.of v ≡ A.zero
    descent zero v le hv b = of_zero v hv (zero_at A 𝓕 v b)
    descent (suc n) v le hv b = go (𝓕.same (at A v n) A.zero) (λ w hw bw. descent n w (omega arith) hw bw)
      where
        go : Dec (at A v n ≡ A.zero) → ((w : List K) → 𝓢.has w → Below A w n → C.of w ≡ A.zero) → C.of v ≡ A.zero
        go (yes z) lower = lower v hv (below_pred A 𝓕 v n b z)
        go (no nz) lower = descend v n le hv (record { nonzero = nz; below = b }) lower

-- ---- The solver's lemma: a step at a condition turns a basis of a space into a basis of the condition's kernel.

-- the solver

module _ {K : Type 0} (A : Arithmetic K) (same : Discrete K) (s : ℕ) where
  module _ (C : Form K) where
    unfoldable pub fix_by : (p e : Entry K) → Dec (e.lead ≡ p.lead) → Dec (C.of e.vec ≡ A.zero) → Entry K
    fix_by p e (yes h) z = record { vec = mix A C.factor (shift A s e.vec) e.vec; lead = s + e.lead }
    fix_by p e (no h) (yes z) = e
    fix_by p e (no h) (no z) =
        record { vec = mix A (A.over (C.of e.vec) (C.of p.vec)) e.vec p.vec; lead = e.lead }

    unfoldable pub fix : Entry K → Entry K → Entry K
    fix p e = fix_by p e (ℕ_discrete e.lead p.lead) (same (C.of e.vec) A.zero)

    unfoldable pub step_by : List (Entry K) → Option (Entry K) → List (Entry K)
    step_by es none = es
    step_by es (some p) = map (fix p) es

    unfoldable pub step : List (Entry K) → List (Entry K)
    step es = step_by es (lowest (λ (e : Entry K). e.lead) (λ (e : Entry K). same (C.of e.vec) A.zero) none es)

  unfoldable pub run : List (Form K) → List (Entry K) → List (Entry K)
  run [] es = es
  run (C ∷ Cs) es = run Cs (step C es)

-- one step

module _ {K : Type 0} (A : Arithmetic K) (𝓕 : Field A) (same : Discrete K) {s : ℕ} (positive : 0 < s)
    (𝓢 : Space A s) (C : Form K) (lawful : Lawful 𝓢 C)
  where
    -- x plus the factor, times a vector
    lift_led : (v : List K) (l : ℕ) → 𝓢.has v → Lead A v l
        → Led (kernel A 𝓕 𝓢 C lawful) (record { vec = mix A C.factor (shift A s v) v; lead = s + l })
    lift_led v l hv lv = record { within = (𝓢.mixed a (shift A s v) v (𝓢.shifted v hv) hv, zero_on); leads = leads }
      where
        a : K
        a = C.factor

        zero_on : C.of (mix A a (shift A s v) v) ≡ A.zero
        zero_on = cc (lawful.of_mix a (shift A s v) v (𝓢.shifted v hv) hv, lawful.of_shift v hv, plus_self A 𝓕 (A.times a (C.of v)))

        leads : Lead A (mix A a (shift A s v) v) (s + l)
        leads = lead_mix A 𝓕 a (shift A s v) v (s + l) (lead_shift A 𝓕 s lv) (λ i le. lv.below i (omega arith))

    -- the multiple of the pivot that makes the condition zero, added to a vector of higher lead
    mix_led : (v p : List K) (l m : ℕ) → 𝓢.has v → Lead A v l → 𝓢.has p → Lead A p m → (C.of p ≡ A.zero → ⊥) → m < l
        → Led (kernel A 𝓕 𝓢 C lawful) (record { vec = mix A (A.over (C.of v) (C.of p)) v p; lead = l })
    mix_led v p l m hv lv hp lp nonzero lt = record { within = (𝓢.mixed c v p hv hp, zero_on); leads = leads }
      where
        c : K
        c = A.over (C.of v) (C.of p)

        meets : A.times c (C.of p) ≡ C.of v
        meets = 𝓕.over_times (C.of v) (C.of p) (lawful.of_symbol v hv) (lawful.of_symbol p hp) nonzero

        zero_on : C.of (mix A c v p) ≡ A.zero
        zero_on = cc (lawful.of_mix c v p hv hp, meets, plus_self A 𝓕 (C.of v))

        leads : Lead A (mix A c v p) l
        leads = lead_mix A 𝓕 c v p l lv (λ i le. lp.below i (omega arith))

    module _ (p : Entry K) (pivot : Led 𝓢 p) (nonzero : C.of p.vec ≡ A.zero → ⊥) where
      fix_led : (e : Entry K) (d : Dec (e.lead ≡ p.lead)) (z : Dec (C.of e.vec ≡ A.zero)) → Led 𝓢 e
          → (e.lead < p.lead → C.of e.vec ≡ A.zero) → Led (kernel A 𝓕 𝓢 C lawful) (fix_by A same s C p e d z)
      unfolding fix_by
      fix_led e (yes h) z led low = lift_led e.vec e.lead led.within led.leads
      fix_led e (no h) (yes z) led low = record { within = (led.within, z); leads = led.leads }
      fix_led e (no h) (no z) led low =
          let ge : ¬ (e.lead < p.lead) = λ lt. z (low lt) in
          mix_led e.vec p.vec e.lead p.lead led.within led.leads pivot.within pivot.leads nonzero (omega arith)

      module _ (es : List (Entry K)) (basis : Basis 𝓢 es) (low : All (λ (e : Entry K). e.lead < p.lead → C.of e.vec ≡ A.zero) es)
          (v : List K) (m : ℕ) (hv : (kernel A 𝓕 𝓢 C lawful).has v) (lv : Lead A v m)
        where
          -- a solution with the pivot's lead, less a multiple of the pivot, is lower, so that the condition is zero on it: and
          -- then on the pivot
          not_pivot : m ≡ p.lead → ⊥
          not_pivot at_p =
              let q : List K = p.vec in
              let hq : 𝓢.has q = pivot.within in
              let lq : Lead A q m = rw at_p pivot.leads in
              let (c, _, meets, below) = take_off A 𝓕 v q m (𝓢.symbols v hv.0) (𝓢.symbols q hq) lv lq in
              let zw : C.of (mix A c v q) ≡ A.zero = lower (mix A c v q) (𝓢.mixed c v q hv.0 hq) below in
              let zq : A.times c (C.of q) ≡ A.zero =
              cc (zw, lawful.of_mix c v q hv.0 hq, hv.1, zero_plus A 𝓕 (A.times c (C.of q))) in
              let symbol = at_in A 𝓕 q (𝓢.symbols q hq) m in
              lv.nonzero (sym meets ∙ times_gone A 𝓕 (C.of q) c (at A q m) (lawful.of_symbol q hq) nonzero zq symbol)
            where
              lower : (w : List K) → 𝓢.has w → Below A w m → C.of w ≡ A.zero
              lower w hw b = descent A 𝓕 𝓢 C lawful es basis p.lead low m w (omega arith) hw b

          fix_reaches : (e : Entry K) (d : Dec (e.lead ≡ p.lead)) (z : Dec (C.of e.vec ≡ A.zero)) (k : ℕ)
              → m ≡ k * s + e.lead → Reaches s m (fix_by A same s C p e d z)
          unfolding fix_by
          fix_reaches e (yes h) z zero r = absurd (not_pivot (omega (arith, zero-mul s)))
          fix_reaches e (yes h) z (suc k) r = (k, omega (arith, suc-mul k s))
          fix_reaches e (no h) (yes z) k r = (k, r)
          fix_reaches e (no h) (no z) k r = (k, r)

          fixed_reached : Any (Reaches s m) (map (fix A same s C p) es)
          unfolding fix
          fixed_reached = any_map _ _ (fix A same s C p) reaches es (basis.reached v m hv.0 lv)
            where
              reaches : (e : Entry K) → Reaches s m e → Reaches s m (fix A same s C p e)
              reaches e (k, r) = fix_reaches e (ℕ_discrete e.lead p.lead) (same (C.of e.vec) A.zero) k r

    step_by_basis : (es : List (Entry K)) (o : Option (Entry K)) → Basis 𝓢 es
        → All (NoBetter (λ (e : Entry K). e.lead) (λ (e : Entry K). C.of e.vec ≡ A.zero) o) es
        → IfFound (λ (p : Entry K). Led 𝓢 p × (C.of p.vec ≡ A.zero → ⊥)) o
        → Basis (kernel A 𝓕 𝓢 C lawful) (step_by A same s C es o)
    unfolding step_by fix
    step_by_basis es none basis low hp =
        record {
          led = all_weaken _ _ (λ e (h, z). record { within = (h.within, z); leads = h.leads }) es (all_both _ _ es basis.led low);
          reached = λ v m hv lv. basis.reached v m hv.0 lv;
        }
    step_by_basis es (some p) basis low (pivot, nonzero) =
        record {
          led = all_map _ _ (fix A same s C p) fixed es (all_both _ _ es basis.led low);
          reached = fixed_reached p pivot nonzero es basis low;
        }
      where
        fixed : (e : Entry K) → Led 𝓢 e × (e.lead < p.lead → C.of e.vec ≡ A.zero) → Led (kernel A 𝓕 𝓢 C lawful) (fix A same s C p e)
        fixed e (led, zero_on) =
            fix_led p pivot nonzero e (ℕ_discrete e.lead p.lead) (same (C.of e.vec) A.zero) led zero_on

    pub step_basis : (es : List (Entry K)) → Basis 𝓢 es → Basis (kernel A 𝓕 𝓢 C lawful) (step A same s C es)
    unfolding step
    step_basis es basis = step_by_basis es _ basis (lowest_passed _ _ _ es none) (lowest_fails _ _ _ _ es none tt basis.led)

-- all steps

module _ {K : Type 0} (A : Arithmetic K) (𝓕 : Field A) {s : ℕ} where
  pub rest_lawful : (𝓢 : Space A s) (C : Form K) (Cs : List (Form K)) (lawful : All (Lawful 𝓢) (C ∷ Cs))
      → All (Lawful (kernel A 𝓕 𝓢 C lawful.0)) Cs
  rest_lawful 𝓢 C Cs lawful = all_weaken _ _ (kernel_lawful A 𝓕 𝓢 C lawful.0) Cs lawful.1

  abbrev pub kernels : (𝓢 : Space A s) (Cs : List (Form K)) → All (Lawful 𝓢) Cs → Space A s
  kernels 𝓢 [] lawful = 𝓢
  kernels 𝓢 (C ∷ Cs) lawful = kernels (kernel A 𝓕 𝓢 C lawful.0) Cs (rest_lawful 𝓢 C Cs lawful)

  pub to_kernels : (𝓢 : Space A s) (Cs : List (Form K)) (lawful : All (Lawful 𝓢) Cs) (v : List K)
      → 𝓢.has v → All (λ (C : Form K). C.of v ≡ A.zero) Cs → (kernels 𝓢 Cs lawful).has v
  to_kernels 𝓢 [] lawful v h z = h
  to_kernels 𝓢 (C ∷ Cs) lawful v h z =
      to_kernels (kernel A 𝓕 𝓢 C lawful.0) Cs (rest_lawful 𝓢 C Cs lawful) v (h, z.0) z.1

  pub of_kernels : (𝓢 : Space A s) (Cs : List (Form K)) (lawful : All (Lawful 𝓢) Cs) (v : List K)
      → (kernels 𝓢 Cs lawful).has v → 𝓢.has v × All (λ (C : Form K). C.of v ≡ A.zero) Cs
  of_kernels 𝓢 [] lawful v h = (h, tt)
  of_kernels 𝓢 (C ∷ Cs) lawful v h =
      let ((hv, z), zs) = of_kernels (kernel A 𝓕 𝓢 C lawful.0) Cs (rest_lawful 𝓢 C Cs lawful) v h in
      (hv, (z, zs))

  pub run_basis : (same : Discrete K) → 0 < s → (𝓢 : Space A s) (Cs : List (Form K)) (lawful : All (Lawful 𝓢) Cs) (es : List (Entry K))
      → Basis 𝓢 es → Basis (kernels 𝓢 Cs lawful) (run A same s Cs es)
  unfolding run
  run_basis same positive 𝓢 [] lawful es basis = basis
  run_basis same positive 𝓢 (C ∷ Cs) lawful es basis =
      run_basis same positive (kernel A 𝓕 𝓢 C lawful.0) Cs (rest_lawful 𝓢 C Cs lawful) (step A same s C es)
      (step_basis A 𝓕 same positive 𝓢 C lawful.0 es basis)
