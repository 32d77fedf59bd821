-- More vectors than conditions: some vector other than zero meets them all.
--
--   Rising es     the leads rise
--   sift C es     what is left of es where a condition is met: one entry fewer at most, the other leads as they were
--   survive       fewer conditions than entries: a vector with the lead of some entry meets them all
-- Assumes nothing.
use mathlib.Core.Path.{◌≡◌}
use mathlib.Core.List.{List, [], ◌∷◌, map}
use Prim.Native.Nat.{ℕ, suc, ◌≤◌, ◌<◌}
use native.Mathlib.Omega.{arith}
use lib.ListN.{length, length-map}
use Rattle.field.specs.Arithmetic.{Arithmetic}
use Rattle.field.proofs.Laws.{Field}
use Rattle.poly.specs.Poly.{All}
use Rattle.poly.proofs.Ring.{plus_self}
use Rattle.basis.proofs.Vector.{mix, Lead, lead_mix}
use Rattle.basis.proofs.Scan.{all_map, all_both}
use Rattle.basis.proofs.Basis.{Space, Form, Entry, Lawful, Led, kernel, kernels, rest_lawful}

module _ {K : Type 0} where
  abbrev pub Rising : List (Entry K) → Type 0
  Rising [] = Unit {0}
  Rising (e ∷ es) = All (λ (f : Entry K). e.lead < f.lead) es × Rising es

module _ {K : Type 0} (A : Arithmetic K) (𝓕 : Field A) {s : ℕ} (𝓢 : Space A s) (C : Form K) (lawful : Lawful 𝓢 C) where
  abbrev clear : Entry K → Entry K → Entry K
  clear p e = record { vec = mix A (A.over (C.of e.vec) (C.of p.vec)) e.vec p.vec; lead = e.lead }

  -- what is left where the first entry is e, es follow it, and rest is what is left of es
  unfoldable sift_by : (e : Entry K) (es rest : List (Entry K)) → Dec (C.of e.vec ≡ A.zero) → List (Entry K)
  sift_by e es rest (yes z) = e ∷ rest
  sift_by e es rest (no z) = map (clear e) es

  unfoldable sift : List (Entry K) → List (Entry K)
  sift [] = []
  sift (e ∷ es) = sift_by e es (sift es) (𝓕.same (C.of e.vec) A.zero)

  clear_led : (p : Entry K) → Led 𝓢 p → (C.of p.vec ≡ A.zero → ⊥) → (e : Entry K) → Led 𝓢 e × (p.lead < e.lead)
      → Led (kernel A 𝓕 𝓢 C lawful) (clear p e)
  clear_led p led nonzero e (h, lt) = record { within = (𝓢.mixed c v w h.within led.within, zero_on); leads = leads }
    where
      v : List K
      v = e.vec

      w : List K
      w = p.vec

      c : K
      c = A.over (C.of v) (C.of w)

      meets : A.times c (C.of w) ≡ C.of v
      meets = 𝓕.over_times (C.of v) (C.of w) (lawful.of_symbol v h.within) (lawful.of_symbol w led.within) nonzero

      zero_on : C.of (mix A c v w) ≡ A.zero
      zero_on = cc (lawful.of_mix c v w h.within led.within, meets, plus_self A 𝓕 (C.of v))

      leads : Lead A (mix A c v w) e.lead
      leads = lead_mix A 𝓕 c v w e.lead h.leads (λ i le. led.leads.below i (omega arith))

  sift_led : (es : List (Entry K)) → All (Led 𝓢) es → Rising es → All (Led (kernel A 𝓕 𝓢 C lawful)) (sift es)
  unfolding sift sift_by
  sift_led [] h r = tt
  sift_led (e ∷ es) h r = go (𝓕.same (C.of e.vec) A.zero) (sift_led es h.1 r.1)
    where
      go : (d : Dec (C.of e.vec ≡ A.zero)) → All (Led (kernel A 𝓕 𝓢 C lawful)) (sift es)
          → All (Led (kernel A 𝓕 𝓢 C lawful)) (sift_by e es (sift es) d)
      go (yes z) ih = (record { within = (h.0.within, z); leads = h.0.leads }, ih)
      go (no z) ih = all_map _ _ (clear e) (clear_led e h.0 z) es (all_both _ _ es h.1 r.0)

  -- a fact of leads that holds of all of es holds of what is left
  sift_leads : (P : ℕ → Type 0) (es : List (Entry K)) → All (λ (e : Entry K). P e.lead) es → All (λ (e : Entry K). P e.lead) (sift es)
  unfolding sift sift_by
  sift_leads P [] h = tt
  sift_leads P (e ∷ es) h = go (𝓕.same (C.of e.vec) A.zero) (sift_leads P es h.1)
    where
      go : (d : Dec (C.of e.vec ≡ A.zero)) → All (λ (f : Entry K). P f.lead) (sift es)
          → All (λ (f : Entry K). P f.lead) (sift_by e es (sift es) d)
      go (yes z) ih = (h.0, ih)
      go (no z) ih = all_map _ _ (clear e) (λ f hf. hf) es h.1

  rising_clear : (p : Entry K) (es : List (Entry K)) → Rising es → Rising (map (clear p) es)
  rising_clear p [] r = tt
  rising_clear p (e ∷ es) r = (all_map _ _ (clear p) (λ f hf. hf) es r.0, rising_clear p es r.1)

  sift_rising : (es : List (Entry K)) → Rising es → Rising (sift es)
  unfolding sift sift_by
  sift_rising [] r = tt
  sift_rising (e ∷ es) r = go (𝓕.same (C.of e.vec) A.zero) (sift_leads (λ (l : ℕ). e.lead < l) es r.0) (sift_rising es r.1)
    where
      go : (d : Dec (C.of e.vec ≡ A.zero)) → All (λ (f : Entry K). e.lead < f.lead) (sift es) → Rising (sift es)
          → Rising (sift_by e es (sift es) d)
      go (yes z) above ih = (above, ih)
      go (no z) above ih = rising_clear e es r.1

  sift_length : (es : List (Entry K)) → length es ≤ suc (length (sift es))
  unfolding sift sift_by
  sift_length [] = omega arith
  sift_length (e ∷ es) = go (𝓕.same (C.of e.vec) A.zero) (sift_length es)
    where
      go : (d : Dec (C.of e.vec ≡ A.zero)) → length es ≤ suc (length (sift es))
          → suc (length es) ≤ suc (length (sift_by e es (sift es) d))
      go (yes z) ih = omega arith
      go (no z) ih = omega (arith, length-map es (clear e))

module _ {K : Type 0} (A : Arithmetic K) (𝓕 : Field A) {s : ℕ} (P : ℕ → Type 0) where
  pub survive : (𝓢 : Space A s) (Cs : List (Form K)) (lawful : All (Lawful 𝓢) Cs) (es : List (Entry K)) → All (Led 𝓢) es → Rising es
      → All (λ (e : Entry K). P e.lead) es → length Cs < length es
      → (v : List K) × (m : ℕ) × (kernels A 𝓕 𝓢 Cs lawful).has v × Lead A v m × P m
  survive 𝓢 [] lawful [] h r p lt = absurd (omega arith)
  survive 𝓢 [] lawful (e ∷ es) h r p lt = (e.vec, e.lead, h.0.within, h.0.leads, p.0)
  survive 𝓢 (C ∷ Cs) lawful es h r p lt =
      survive (kernel A 𝓕 𝓢 C lawful.0) Cs (rest_lawful A 𝓕 𝓢 C Cs lawful) (sift A 𝓕 𝓢 C lawful.0 es)
      (sift_led A 𝓕 𝓢 C lawful.0 es h r)
      (sift_rising A 𝓕 𝓢 C lawful.0 es r)
      (sift_leads A 𝓕 𝓢 C lawful.0 P es p)
      (omega (arith, sift_length A 𝓕 𝓢 C lawful.0 es))
