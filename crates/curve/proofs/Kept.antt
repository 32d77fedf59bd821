-- What a run of the solver keeps: leading symbols that are one, and where each lead can be.
--
--   Monic A e         the symbol at the entry's lead is one
--   step_monic, run_monic    where all entries are monic, so they are after a step, and after a run
--   Followed s es fs  entry by entry, the lead of fs is that of es plus a multiple of the stride
--   step_followed, run-followed    so it is with what a step, and a run, make of es
--   first-kept        the first entry has its lead still, where that is reached and no other can reach it
--   pair_monic, first_pair    the start of pairs is monic; after a run its first line, L = 1, has its lead still, if that is reached
-- Assumes nothing.
use mathlib.Core.Path.{◌≡◌, refl, ◌∙◌}
use mathlib.Core.List.{List, [], ◌∷◌, ◌++◌, map}
use mathlib.Core.Logic.{inl, inr}
use mathlib.Core.Option.{Option, none, some}
use Prim.Native.Nat.{ℕ, zero, suc, ◌+◌, ◌*◌, ◌<◌}
use native.Mathlib.Nat.{add-mul, mul_left_comm}
use native.Mathlib.Decide.{ℕ_discrete}
use native.Mathlib.Omega.{arith}
use Rattle.field.specs.Arithmetic.{Arithmetic}
use Rattle.field.proofs.Laws.{Field}
use Rattle.poly.specs.Poly.{All}
use Rattle.poly.proofs.Ring.{ring}
use Rattle.basis.proofs.Vector.{at, shift, at_mix}
use Rattle.basis.proofs.Scan.{Any, IfFound, NoBetter, all_append, all_both, all_map, lowest_passed, lowest_fails}
use Rattle.basis.proofs.Basis.{Space, Form, Entry, Lawful, Led, Basis, Reaches, kernel, rest_lawful}
use Rattle.basis.proofs.Basis.{fix_by, fix, step_by, step, run, step_basis}
use Rattle.basis.proofs.Placed.{at_shift_above}
use Rattle.curve.proofs.Orders.{start, starts, unit_here}
use Rattle.curve.proofs.Pairs.{place_l, place_n, pair_starts}

abbrev pub Monic : {K : Type 0} → Arithmetic K → Entry K → Type 0
Monic A e = at A e.vec e.lead ≡ A.one

abbrev pub Followed : {K : Type 0} → ℕ → List (Entry K) → List (Entry K) → Type 0
Followed s [] [] = Unit {0}
Followed s [] (f ∷ fs) = ⊥
Followed s (e ∷ es) [] = ⊥
Followed s (e ∷ es) (f ∷ fs) = Reaches s f.lead e × Followed s es fs

-- ---- Leading symbols.

module _ {K : Type 0} (A : Arithmetic K) (𝓕 : Field A) (same : Discrete K) {s : ℕ} (positive : 0 < s) where
  kept_step : (c u w : K) → u ≡ A.one → w ≡ A.zero → A.plus u (A.times c w) ≡ A.one
  kept_step c u w e f = rw (e, f) (simp ring)

  module _ (𝓢 : Space A s) (C : Form K) (p : Entry K) (pivot : Led 𝓢 p) where
    fix_monic : (e : Entry K) (d : Dec (e.lead ≡ p.lead)) (z : Dec (C.of e.vec ≡ A.zero)) → Led 𝓢 e
        → (e.lead < p.lead → C.of e.vec ≡ A.zero) → Monic A e → Monic A (fix_by A same s C p e d z)
    unfolding fix_by
    fix_monic e (yes h) z led low one =
        at_mix A 𝓕 C.factor (shift A s e.vec) e.vec (s + e.lead)
        ∙ kept_step C.factor _ _ (at_shift_above A 𝓕 s e.vec e.lead (s + e.lead) refl ∙ one)
        (led.leads.below (s + e.lead) (omega arith))
    fix_monic e (no h) (yes z) led low one = one
    fix_monic e (no h) (no z) led low one =
        let higher : ¬ (e.lead < p.lead) = λ lt. z (low lt) in
        at_mix A 𝓕 _ e.vec p.vec e.lead ∙ kept_step _ _ _ one (pivot.leads.below e.lead (omega arith))

  step_by_monic : (𝓢 : Space A s) (C : Form K) (es : List (Entry K)) (o : Option (Entry K)) → All (Led 𝓢) es → All (Monic A) es
      → All (NoBetter (λ (e : Entry K). e.lead) (λ (e : Entry K). C.of e.vec ≡ A.zero) o) es
      → IfFound (λ (p : Entry K). Led 𝓢 p × (C.of p.vec ≡ A.zero → ⊥)) o → All (Monic A) (step_by A same s C es o)
  unfolding step_by fix
  step_by_monic 𝓢 C es none led ones low hp = ones
  step_by_monic 𝓢 C es (some p) led ones low (pivot, nonzero) =
      all_map _ _ (fix A same s C p)
      (λ e ((h, one), lower). fix_monic 𝓢 C p pivot e (ℕ_discrete e.lead p.lead) (same (C.of e.vec) A.zero) h lower one)
      es (all_both _ _ es (all_both _ _ es led ones) low)

  pub step_monic : (𝓢 : Space A s) (C : Form K) (es : List (Entry K)) → All (Led 𝓢) es → All (Monic A) es
      → All (Monic A) (step A same s C es)
  unfolding step
  step_monic 𝓢 C es led ones = step_by_monic 𝓢 C es _ led ones (lowest_passed _ _ _ es none) (lowest_fails _ _ _ _ es none tt led)

  pub run_monic : (𝓢 : Space A s) (Cs : List (Form K)) (lawful : All (Lawful 𝓢) Cs) (es : List (Entry K)) → Basis 𝓢 es
      → All (Monic A) es → All (Monic A) (run A same s Cs es)
  unfolding run
  run_monic 𝓢 [] lawful es basis ones = ones
  run_monic 𝓢 (C ∷ Cs) lawful es basis ones =
      run_monic (kernel A 𝓕 𝓢 C lawful.0) Cs (rest_lawful A 𝓕 𝓢 C Cs lawful) (step A same s C es)
      (step_basis A 𝓕 same positive 𝓢 C lawful.0 es basis) (step_monic 𝓢 C es basis.led ones)

module _ {K : Type 0} (A : Arithmetic K) (𝓕 : Field A) where
  starts_monic : (place : ℕ → ℕ) (n j : ℕ) → All (Monic A) (starts A place n j)
  starts_monic place zero j = tt
  starts_monic place (suc n) j = (unit_here A 𝓕 (place j), starts_monic place n (suc j))

  pub pair_monic : (q m : ℕ) → All (Monic A) (pair_starts A q m)
  pair_monic q m =
      all_append _ (starts A (place_l q m) q 0) (starts A (place_n q) q 0) (starts_monic (place_l q m) q 0) (starts_monic (place_n q) q 0)

-- ---- Leads.

module _ {K : Type 0} (s : ℕ) where
  reach_on : (p l : ℕ) (e : Entry K) → Reaches s l e → (k : ℕ) × (p ≡ k * s + l) → Reaches s p e
  reach_on p l e (i, h) (k, r) = (k + i, omega (arith, add-mul k i s))

  followed_self : (es : List (Entry K)) → Followed s es es
  followed_self [] = tt
  followed_self (e ∷ es) = ((0, omega arith), followed_self es)

  followed-map : (f : Entry K → Entry K) → ((e : Entry K) → Reaches s (f e).lead e) → (es : List (Entry K)) → Followed s es (map f es)
  followed-map f h [] = tt
  followed-map f h (e ∷ es) = (h e, followed-map f h es)

  followed_on : (es fs gs : List (Entry K)) → Followed s es fs → Followed s fs gs → Followed s es gs
  followed_on [] [] [] h k = tt
  followed_on [] [] (g ∷ gs) h k = k
  followed_on [] (f ∷ fs) gs h k = absurd h
  followed_on (e ∷ es) [] gs h k = absurd h
  followed_on (e ∷ es) (f ∷ fs) [] h k = k
  followed_on (e ∷ es) (f ∷ fs) (g ∷ gs) (h, hs) (k, ks) = (reach_on g.lead f.lead e h k, followed_on es fs gs hs ks)

module _ {K : Type 0} (A : Arithmetic K) (same : Discrete K) (s : ℕ) where
  fix_follows : (C : Form K) (p e : Entry K) (d : Dec (e.lead ≡ p.lead)) (z : Dec (C.of e.vec ≡ A.zero))
      → Reaches s (fix_by A same s C p e d z).lead e
  unfolding fix_by
  fix_follows C p e (yes h) z = (1, omega arith)
  fix_follows C p e (no h) (yes z) = (0, omega arith)
  fix_follows C p e (no h) (no z) = (0, omega arith)

  step_by_followed : (C : Form K) (es : List (Entry K)) (o : Option (Entry K)) → Followed s es (step_by A same s C es o)
  unfolding step_by fix
  step_by_followed C es none = followed_self s es
  step_by_followed C es (some p) =
      followed-map s (fix A same s C p) (λ e. fix_follows C p e (ℕ_discrete e.lead p.lead) (same (C.of e.vec) A.zero)) es

  pub step_followed : (C : Form K) (es : List (Entry K)) → Followed s es (step A same s C es)
  unfolding step
  step_followed C es = step_by_followed C es _

  pub run-followed : (Cs : List (Form K)) (es : List (Entry K)) → Followed s es (run A same s Cs es)
  unfolding run
  run-followed [] es = followed_self s es
  run-followed (C ∷ Cs) es = followed_on s es (step A same s C es) _ (step_followed C es) (run-followed Cs (step A same s C es))

-- ---- Which entry keeps its lead.

module _ {K : Type 0} (s : ℕ) where
  none_reaches : (p : ℕ) (es fs : List (Entry K)) → Followed s es fs → All (λ (e : Entry K). Reaches s p e → ⊥) es
      → Any (Reaches s p) fs → ⊥
  none_reaches p [] [] h other r = r
  none_reaches p [] (f ∷ fs) h other r = h
  none_reaches p (e ∷ es) [] h other r = h
  none_reaches p (e ∷ es) (f ∷ fs) h other (inl r) = other.0 (reach_on s p f.lead e h.0 r)
  none_reaches p (e ∷ es) (f ∷ fs) h other (inr r) = none_reaches p es fs h.1 other.1 r

  -- the first keeps its lead, where that is still reached and no other can reach it
  pub first-kept : (e : Entry K) (es : List (Entry K)) (f : Entry K) (fs : List (Entry K)) → Followed s (e ∷ es) (f ∷ fs)
      → All (λ (e' : Entry K). Reaches s e.lead e' → ⊥) es → Any (Reaches s e.lead) (f ∷ fs) → f.lead ≡ e.lead
  first-kept e es f fs ((i, h), hs) other (inl (k, r)) = omega arith
  first-kept e es f fs (h, hs) other (inr r) = absurd (none_reaches e.lead es fs hs other r)

module _ {K : Type 0} (A : Arithmetic K) (q : ℕ) (two : 1 < q) (m : ℕ) where
  others_L : (n j : ℕ) → All (λ (e : Entry K). Reaches (2 * q) (place_l q m 0) e → ⊥) (starts A (place_l q m) n (suc j))
  others_L zero j = tt
  others_L (suc n) j = (λ (k, e). omega arith, others_L n (suc j))

  others_N : (n j : ℕ) → All (λ (e : Entry K). Reaches (2 * q) (place_l q m 0) e → ⊥) (starts A (place_n q) n j)
  others_N zero j = tt
  others_N (suc n) j = (λ (k, e). omega (arith, mul_left_comm k 2 q), others_N n (suc j))

  -- after a run, the line of L = 1 has its first lead still, if that is reached
  pub first_pair : (fs : List (Entry K)) → Followed (2 * q) (pair_starts A q m) fs → Any (Reaches (2 * q) (place_l q m 0)) fs
      → (f : Entry K) × (rest : List (Entry K)) × (fs ≡ f ∷ rest) × (f.lead ≡ place_l q m 0)
  first_pair fs h r = go q fs two h r
    where
      go : (n : ℕ) (fs : List (Entry K)) → 1 < n → Followed (2 * q) (starts A (place_l q m) n 0 ++ starts A (place_n q) q 0) fs
          → Any (Reaches (2 * q) (place_l q m 0)) fs
          → (f : Entry K) × (rest : List (Entry K)) × (fs ≡ f ∷ rest) × (f.lead ≡ place_l q m 0)
      go zero fs lt h r = absurd (omega arith)
      go (suc n) [] lt h r = absurd h
      go (suc n) (f ∷ rest) lt h r = (
        f,
        rest,
        refl,
        first-kept (2 * q) (start A (place_l q m 0)) (starts A (place_l q m) n 1 ++ starts A (place_n q) q 0) f rest h
            (all_append _ (starts A (place_l q m) n 1) (starts A (place_n q) q 0) (others_L n 0) (others_N q 0)) r,
      )
