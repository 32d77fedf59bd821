-- Where a spread vector has its lead, and the bound on zeros that follows from enough multiples.
--
--   spread_lead    where each Y i has its lead at k + i, with the symbol one, the lead rises by k
--   spread_below   a bound rises by k as well
--   few_zeros      where es are zero under the conditions Zs, and no vector with one of their leads is zero under Zs and Qs,
--                  es are no more than Qs
-- Assumes nothing.
use mathlib.Core.Path.{◌≡◌, refl, sym, ◌∙◌}
use mathlib.Core.List.{List, [], ◌∷◌}
use Prim.Native.Nat.{ℕ, zero, suc, ◌+◌, ◌≤◌, ◌<◌}
use native.Mathlib.Decide.{dec_lt}
use native.Mathlib.Omega.{arith}
use lib.ListN.{length}
use Rattle.field.specs.Arithmetic.{Arithmetic}
use Rattle.field.proofs.Laws.{Field}
use Rattle.poly.specs.Poly.{All}
use Rattle.poly.proofs.Ring.{ring, zero_plus, times_comm}
use Rattle.basis.proofs.Scan.{all_weaken}
use Rattle.basis.proofs.Vector.{at, Below, Lead, at_mix}
use Rattle.basis.proofs.Basis.{Space, Form, Entry, Lawful, Led, kernel, kernel_lawful, rest_lawful, kernels, of_kernels}
use Rattle.basis.proofs.Survive.{Rising, survive}
use Rattle.basis.proofs.Placed.{spread_from}

module _ {K : Type 0} (A : Arithmetic K) (𝓕 : Field A) (k : ℕ) (Y : ℕ → List K)
    (low : (i : ℕ) → Below A (Y i) (suc (k + i))) (top : (i : ℕ) → at A (Y i) (k + i) ≡ A.one)
  where
    add_none : (a b c : K) → b ≡ A.zero → c ≡ A.zero → A.plus b (A.times a c) ≡ A.zero
    add_none a b c e f = rw (e, f) (simp ring)

    none_of : (a b c : K) → b ≡ A.zero → a ≡ A.zero → A.plus b (A.times a c) ≡ A.zero
    none_of a b c e f = rw (e, f) (simp ring)

    spread_none : (i : ℕ) (v : List K) → Below A v 0 → (p : ℕ) → at A (spread_from A Y i v) p ≡ A.zero
    unfolding spread_from
    spread_none i [] b p = refl
    spread_none i (a ∷ v) b p =
        at_mix A 𝓕 a (spread_from A Y (suc i) v) (Y i) p
        ∙ none_of a _ _ (spread_none (suc i) v (λ j _. b (suc j) (omega arith)) p) (b 0 (omega arith))

    -- no place from k + i + n on, where v has none from n on
    pub spread_below : (i n : ℕ) (v : List K) → Below A v n → (p : ℕ) → k + (i + n) ≤ p → at A (spread_from A Y i v) p ≡ A.zero
    unfolding spread_from
    spread_below i n [] b p le = refl
    spread_below i zero (a ∷ v) b p le = spread_none i (a ∷ v) b p
    spread_below i (suc n) (a ∷ v) b p le =
        at_mix A 𝓕 a (spread_from A Y (suc i) v) (Y i) p
        ∙ add_none a _ _ (spread_below (suc i) n v (λ j lj. b (suc j) (omega arith)) p (omega arith)) (low i p (omega arith))

    last_step : (a b c : K) → A.In a → b ≡ A.zero → c ≡ A.one → A.plus b (A.times a c) ≡ a
    last_step a b c h e f = rw (e, f) (zero_plus A 𝓕 (A.times a A.one) ∙ times_comm A 𝓕 a A.one ∙ 𝓕.one_times a h)

    other_step : (a b c d : K) → b ≡ d → c ≡ A.zero → A.plus b (A.times a c) ≡ d
    other_step a b c d e f = rw (e, f) (simp ring)

    spread_at : (i m : ℕ) (v : List K) → All A.In v → Below A v (suc m) → (p : ℕ) → p ≡ k + (i + m)
        → at A (spread_from A Y i v) p ≡ at A v m
    unfolding spread_from
    spread_at i m [] h b p e = refl
    spread_at i zero (a ∷ v) h b p e =
        let e' : k + i ≡ p = omega arith in
        at_mix A 𝓕 a (spread_from A Y (suc i) v) (Y i) p
        ∙ last_step a _ _ h.0 (spread_none (suc i) v (λ j _. b (suc j) (omega arith)) p) (rw e' at (top i))
    spread_at i (suc m) (a ∷ v) h b p e =
        at_mix A 𝓕 a (spread_from A Y (suc i) v) (Y i) p
        ∙ other_step a _ _ _ (spread_at (suc i) m v h.1 (λ j lj. b (suc j) (omega arith)) p (omega arith)) (low i p (omega arith))

    pub spread_lead : (v : List K) (m : ℕ) → All A.In v → Lead A v m → Lead A (spread_from A Y 0 v) (k + m)
    spread_lead v m h l =
        record {
          nonzero = λ z. l.nonzero (sym (spread_at 0 m v h l.below (k + m) (omega arith)) ∙ z);
          below = λ p le. spread_below 0 (suc m) v l.below p (omega arith);
        }

module _ {K : Type 0} (A : Arithmetic K) (𝓕 : Field A) {s : ℕ} where
  -- what is lawful on the space is lawful where conditions are met
  pub kernels_lawful : (𝓢 : Space A s) (Cs : List (Form K)) (lawful : All (Lawful 𝓢) Cs) (C : Form K) → Lawful 𝓢 C
      → Lawful (kernels A 𝓕 𝓢 Cs lawful) C
  kernels_lawful 𝓢 [] lawful C h = h
  kernels_lawful 𝓢 (C' ∷ Cs) lawful C h =
      kernels_lawful (kernel A 𝓕 𝓢 C' lawful.0) Cs (rest_lawful A 𝓕 𝓢 C' Cs lawful) C (kernel_lawful A 𝓕 𝓢 C' lawful.0 C h)

module _ {K : Type 0} (A : Arithmetic K) (𝓕 : Field A) {s : ℕ} (𝓢 : Space A s) (Zs Qs : List (Form K))
    (lz : All (Lawful 𝓢) Zs) (lawful : All (Lawful 𝓢) Qs)
  where
    lq : All (Lawful (kernels A 𝓕 𝓢 Zs lz)) Qs
    lq = all_weaken _ _ (kernels_lawful A 𝓕 𝓢 Zs lz) Qs lawful

    pub few_zeros : (P : ℕ → Type 0) (es : List (Entry K)) → All (Led (kernels A 𝓕 𝓢 Zs lz)) es → Rising es
        → All (λ (e : Entry K). P e.lead) es
        → ((w : List K) (m : ℕ) → 𝓢.has w → Lead A w m → P m → All (λ (C : Form K). C.of w ≡ A.zero) Zs
        → All (λ (C : Form K). C.of w ≡ A.zero) Qs → ⊥)
        → length es ≤ length Qs
    few_zeros P es led rising top none = go (dec_lt (length Qs) (length es))
      where
        go : Dec (length Qs < length es) → length es ≤ length Qs
        go (no ge) = omega arith
        go (yes lt) =
            let (w, m, hw, lw, pm) = survive A 𝓕 P (kernels A 𝓕 𝓢 Zs lz) Qs lq es led rising top lt in
            let (hk, zq) = of_kernels A 𝓕 (kernels A 𝓕 𝓢 Zs lz) Qs lq w hw in
            let (hs, zz) = of_kernels A 𝓕 𝓢 Zs lz w hk in
            absurd (none w m hs lw pm zz zq)
