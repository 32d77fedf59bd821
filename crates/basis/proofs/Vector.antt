-- Vectors of symbols as lists, read by place, and the highest nonzero place of each.
--
--   mix c p q    p plus c times q, as long as the longer of the two
--   times_gone                where c·b = 0 and b ≠ 0, c·y = 0 for every symbol y
--   value_mix, value_shift    values of p + c·q and of x·p
--   at v i         the symbol at place i, zero beyond the end
--   Below v n      no place from n on is nonzero
--   Lead v p       place p is the highest nonzero one
--   shift s v      v moved s places up: v times x, at stride s
--   up s k v       v times x^k, at stride s
--   take_off       some multiple of a vector takes the lead off another with that lead
--   Two vectors are equal up to trailing zeros where their sum is Zero.
-- Assumes nothing.
use mathlib.Core.List.{List, ◌∷◌, []}
use mathlib.Core.Path.{◌≡◌, ◌∙◌, ap, refl, sym, ap₂}
use mathlib.Core.Logic.{◌⊎◌, inl, inr}
use Prim.Native.Nat.{ℕ, zero, suc, ◌+◌, ◌*◌, ◌≤◌, ◌<◌}
use native.Mathlib.Nat.{zero-add, suc-add, zero-mul, suc-mul, eq-or-lt_of_le}
use native.Mathlib.Decide.{dec_lt}
use native.Mathlib.Omega.{arith}
use lib.ListN.{get_or}
use Rattle.field.specs.Arithmetic.{Arithmetic}
use Rattle.poly.specs.Poly.{add, scale, value, All, Zero}
use Rattle.field.proofs.Laws.{Field}
use Rattle.poly.proofs.Ring.{zero_plus, times_zero, times-left_comm, ring}
use Rattle.poly.proofs.Values.{value-add, value-scale}

-- ---- The one operation on lists of symbols that the solver needs.

module _ {K : Type 0} (A : Arithmetic K) where
  unfoldable pub mix : K → List K → List K → List K
  mix c p q = add A p (scale A c q)

-- ---- What follows of p + c·q: its values, and what a product that is zero makes of c.

module _ {K : Type 0} (A : Arithmetic K) (𝓕 : Field A) where
  pub times_gone : (b c y : K) → A.In b → (b ≡ A.zero → ⊥) → A.times c b ≡ A.zero → A.In y → A.times c y ≡ A.zero
  times_gone b c y hb b≠0 h hy =
      cc (𝓕.over_times y b hy hb b≠0, times-left_comm A 𝓕 c (A.over y b) b, h, times_zero A 𝓕 (A.over y b))

  pub value_mix : (c : K) (p q : List K) (x : K) → value A (mix A c p q) x ≡ A.plus (value A p x) (A.times c (value A q x))
  unfolding mix
  value_mix c p q x = value-add A 𝓕 p (scale A c q) x ∙ ap (A.plus (value A p x)) (value-scale A 𝓕 c q x)

  pub value_shift : (p : List K) (x : K) → value A (A.zero ∷ p) x ≡ A.times x (value A p x)
  unfolding value
  value_shift p x = zero_plus A 𝓕 (A.times x (value A p x))

-- ---- Vectors of symbols as lists, read by place, and the highest nonzero place of each.

module _ {K : Type 0} (A : Arithmetic K) where
  abbrev pub at : List K → ℕ → K
  at v i = get_or v i A.zero

  abbrev pub Below : List K → ℕ → Type 0
  Below v n = (i : ℕ) → n ≤ i → at v i ≡ A.zero

  pub record Lead (v : List K) (p : ℕ) : Type 0 where
    pub nonzero : at v p ≡ A.zero → ⊥
    pub below : Below v (suc p)

  unfoldable pub shift : ℕ → List K → List K
  shift zero v = v
  shift (suc s) v = A.zero ∷ shift s v

  unfoldable pub up : ℕ → ℕ → List K → List K
  up s zero v = v
  up s (suc k) v = shift s (up s k v)

module _ {K : Type 0} (A : Arithmetic K) (𝓕 : Field A) where
  at_add : (v w : List K) (i : ℕ) → at A (add A v w) i ≡ A.plus (at A v i) (at A w i)
  unfolding add
  at_add [] w i = simp ring
  at_add (a ∷ v) [] i = simp ring
  at_add (a ∷ v) (b ∷ w) zero = refl
  at_add (a ∷ v) (b ∷ w) (suc i) = at_add v w i

  pub at_scale : (c : K) (v : List K) (i : ℕ) → at A (scale A c v) i ≡ A.times c (at A v i)
  unfolding scale
  at_scale c [] i = simp ring
  at_scale c (a ∷ v) zero = refl
  at_scale c (a ∷ v) (suc i) = at_scale c v i

  pub at_mix : (c : K) (v w : List K) (i : ℕ) → at A (mix A c v w) i ≡ A.plus (at A v i) (A.times c (at A w i))
  unfolding mix
  at_mix c v w i = at_add v (scale A c w) i ∙ ap (A.plus (at A v i)) (at_scale c w i)

  -- zero vectors

  pub at_zero : (v : List K) → Zero A v → (i : ℕ) → at A v i ≡ A.zero
  at_zero [] z i = refl
  at_zero (a ∷ v) z zero = z.0
  at_zero (a ∷ v) z (suc i) = at_zero v z.1 i

  pub zero_at : (v : List K) → Below A v 0 → Zero A v
  zero_at [] h = tt
  zero_at (a ∷ v) h = (h 0 (omega arith), zero_at v (λ i _. h (suc i) (omega arith)))

  zero_step : (c a : K) → a ≡ A.zero → A.plus a (A.times c a) ≡ a
  zero_step c a h = simp (h, ring)

  pub mix_zero : (c : K) (v : List K) → Zero A v → mix A c v v ≡ v
  unfolding mix add scale
  mix_zero c [] z = refl
  mix_zero c (a ∷ v) z = ap₂ (λ (b : K) (w : List K). b ∷ w) (zero_step c a z.0) (mix_zero c v z.1)

  -- vectors of symbols

  pub at_in : (v : List K) → All A.In v → (i : ℕ) → A.In (at A v i)
  at_in [] h i = 𝓕.zero_in
  at_in (a ∷ v) h zero = h.0
  at_in (a ∷ v) h (suc i) = at_in v h.1 i

  pub mix_in : (c : K) (v w : List K) → All A.In v → All A.In (mix A c v w)
  unfolding mix add scale
  mix_in c [] [] h = tt
  mix_in c [] (b ∷ w) h = (𝓕.times_in c b, mix_in c [] w tt)
  mix_in c (a ∷ v) [] h = h
  mix_in c (a ∷ v) (b ∷ w) h = (𝓕.plus_in a (A.times c b) h.0 (𝓕.times_in c b), mix_in c v w h.1)

  pub shift_in : (s : ℕ) (v : List K) → All A.In v → All A.In (shift A s v)
  unfolding shift
  shift_in zero v h = h
  shift_in (suc s) v h = (𝓕.zero_in, shift_in s v h)

  -- leads

  pub below_mix : (c : K) (v w : List K) (n : ℕ) → Below A v n → Below A w n → Below A (mix A c v w) n
  below_mix c v w n hv hw i le = at_mix c v w i ∙ rw (hv i le, hw i le) (simp ring)

  -- where the place below is zero too, it is one less
  pub below_pred : (v : List K) (n : ℕ) → Below A v (suc n) → at A v n ≡ A.zero → Below A v n
  below_pred v n h z i le = go (eq-or-lt_of_le le)
    where
      go : (n ≡ i) ⊎ (n < i) → at A v i ≡ A.zero
      go (inl e) = rw e at z
      go (inr lt) = h i lt

  pub lead_or_zero : (v : List K) → Zero A v ⊎ ((m : ℕ) × Lead A v m)
  lead_or_zero [] = inl tt
  lead_or_zero (a ∷ v) = go (lead_or_zero v) (𝓕.same a A.zero)
    where
      above : {p : ℕ} → Lead A v p → (i : ℕ) → suc (suc p) ≤ i → at A (a ∷ v) i ≡ A.zero
      above h zero le = absurd (omega arith)
      above h (suc i) le = h.below i (omega arith)

      alone : Zero A v → (i : ℕ) → 1 ≤ i → at A (a ∷ v) i ≡ A.zero
      alone z zero le = absurd (omega arith)
      alone z (suc i) le = at_zero v z i

      go : Zero A v ⊎ ((m : ℕ) × Lead A v m) → Dec (a ≡ A.zero) → Zero A (a ∷ v) ⊎ ((m : ℕ) × Lead A (a ∷ v) m)
      go (inl z) (yes e) = inl (e, z)
      go (inl z) (no ne) = inr (0, record { nonzero = ne; below = alone z })
      go (inr h) d = inr (suc h.0, record { nonzero = h.1.nonzero; below = above h.1 })

  -- a lead lies below every bound
  pub lead_below : (v : List K) (p n : ℕ) → Lead A v p → Below A v n → p < n
  lead_below v p n h b = go (dec_lt p n)
    where
      go : Dec (p < n) → p < n
      go (yes lt) = lt
      go (no ge) = absurd (h.nonzero (b p (omega arith)))

  lead_cons : {v : List K} {p : ℕ} → Lead A v p → Lead A (A.zero ∷ v) (suc p)
  lead_cons {v} {p} h = record { nonzero = h.nonzero; below = above }
    where
      above : (i : ℕ) → suc (suc p) ≤ i → at A (A.zero ∷ v) i ≡ A.zero
      above zero le = refl
      above (suc i) le = h.below i (omega arith)

  pub lead_shift : (s : ℕ) {v : List K} {p : ℕ} → Lead A v p → Lead A (shift A s v) (s + p)
  unfolding shift
  lead_shift zero h = rw zero-add h
  lead_shift (suc s) h = rw suc-add (lead_cons (lead_shift s h))

  pub lead_up : (s k : ℕ) {v : List K} {p : ℕ} → Lead A v p → Lead A (up A s k v) (k * s + p)
  unfolding up
  lead_up s zero h = rw (zero-mul, zero-add) h
  lead_up s (suc k) {v} {p} h =
      let e : s + (k * s + p) ≡ suc k * s + p = omega (arith, suc-mul k s) in
      rw e at (lead_shift s (lead_up s k h))

  -- a lead stays where something lower is added
  pub lead_mix : (c : K) (v w : List K) (p : ℕ) → Lead A v p → Below A w p → Lead A (mix A c v w) p
  lead_mix c v w p h lower =
      record {
        nonzero = λ z. h.nonzero (sym stays ∙ z);
        below = below_mix c v w (suc p) h.below (λ i le. lower i (omega arith));
      }
    where
      stays : at A (mix A c v w) p ≡ at A v p
      stays = at_mix c v w p ∙ rw (lower p (omega arith)) (simp ring)

  -- some multiple of w takes the lead off v
  pub take_off : (v w : List K) (m : ℕ) → All A.In v → All A.In w → Lead A v m → Lead A w m
      → (c : K) × A.In c × (A.times c (at A w m) ≡ at A v m) × Below A (mix A c v w) m
  take_off v w m hv hw lv lw = (c, 𝓕.over_in (at A v m) (at A w m), meets, below_pred (mix A c v w) m lower gone)
    where
      c : K
      c = A.over (at A v m) (at A w m)

      meets : A.times c (at A w m) ≡ at A v m
      meets = 𝓕.over_times (at A v m) (at A w m) (at_in v hv m) (at_in w hw m) lw.nonzero

      lower : Below A (mix A c v w) (suc m)
      lower = below_mix c v w (suc m) lv.below lw.below

      gone : at A (mix A c v w) m ≡ A.zero
      gone = at_mix c v w m ∙ rw meets (𝓕.plus_self (at A v m))
