-- Vectors that are zero at the places that are not free, and conditions given by a value for each place.
--
--   dot_from_lem μ i v    the sum of v's symbols times μ at their places, the first of which is i
--   PlacedFrom i v   each of these places is free, or v is zero there
--   placed           the space of such vectors at stride s
--   weighed μ x      the condition that sums v by μ; lawful where μ at place s + i is x times μ at the free place i
--   spread_from Y i v the sum of v's symbols times the vectors Y of their places; placed_spread, it is in the space too
--   dot_mix, dot_shift, dot_spread    sums by μ of p + c·q, of a shifted vector, of a spread one
--   dot_plus, dot_scale, dot_none     sums by μ + y·ν, by c·μ, by zeros
--   dot_drop, dot_from, dot_at        without leading zeros; from another place on; only the symbols at the places count
-- Assumes nothing.
use mathlib.Core.Path.{◌≡◌, refl, sym, ◌∙◌, ap, ap₂, fun_ext}
use mathlib.Core.List.{List, [], ◌∷◌}
use mathlib.Core.Logic.{◌⊎◌, inl, inr}
use Prim.Native.Nat.{ℕ, zero, suc, ◌+◌, ◌-◌, ◌≤◌, ◌<◌}
use native.Mathlib.Nat.{zero-add}
use native.Mathlib.Omega.{arith}
use native.Mathlib.Decide.{dec_lt}
use lib.ListN.{drop}
use Rattle.field.specs.Arithmetic.{Arithmetic}
use Rattle.field.proofs.Laws.{Field}
use Rattle.poly.specs.Poly.{All, add, scale}
use Rattle.poly.proofs.Ring.{ring, times_zero, zero-times, zero_plus}
use Rattle.basis.proofs.Vector.{mix, at, shift, at_mix, mix_in, shift_in}
use Rattle.basis.proofs.Basis.{Space, Form, Lawful}

module _ {K : Type 0} (A : Arithmetic K) where
  unfoldable pub dot_from_lem : (ℕ → K) → ℕ → List K → K
  dot_from_lem μ i [] = A.zero
  dot_from_lem μ i (a ∷ v) = A.plus (A.times a (μ i)) (dot_from_lem μ (suc i) v)

  abbrev pub weighed : (ℕ → K) → K → Form K
  weighed μ x = record { of = λ v. dot_from_lem μ 0 v; factor = x }

  abbrev pub PlacedFrom : (ℕ → Type 0) → ℕ → List K → Type 0
  PlacedFrom Free i v = (k j : ℕ) → j ≡ i + k → (at A v k ≡ A.zero) ⊎ Free j

  unfoldable pub spread_from : (ℕ → List K) → ℕ → List K → List K
  spread_from Y i [] = []
  spread_from Y i (a ∷ v) = mix A a (spread_from Y (suc i) v) (Y i)

module _ {K : Type 0} (A : Arithmetic K) (𝓕 : Field A) where
  mix_step : (a b c m d e : K) → A.plus (A.times (A.plus a (A.times c b)) m) (A.plus d (A.times c e))
      ≡ A.plus (A.plus (A.times a m) d) (A.times c (A.plus (A.times b m) e))
  mix_step a b c m d e = simp ring

  left_step : (b c m e : K) → A.plus (A.times (A.times c b) m) (A.plus A.zero (A.times c e))
      ≡ A.plus A.zero (A.times c (A.plus (A.times b m) e))
  left_step b c m e = simp ring

  pub dot_in : (μ : ℕ → K) (i : ℕ) (v : List K) → A.In (dot_from_lem A μ i v)
  unfolding dot_from_lem
  dot_in μ i [] = 𝓕.zero_in
  dot_in μ i (a ∷ v) = 𝓕.plus_in _ _ (𝓕.times_in a (μ i)) (dot_in μ (suc i) v)

  pub dot_mix : (μ : ℕ → K) (i : ℕ) (c : K) (v w : List K)
      → dot_from_lem A μ i (mix A c v w) ≡ A.plus (dot_from_lem A μ i v) (A.times c (dot_from_lem A μ i w))
  unfolding dot_from_lem mix add scale
  dot_mix μ i c [] [] = simp ring
  dot_mix μ i c [] (b ∷ w) = rw (dot_mix μ (suc i) c [] w) (left_step b c (μ i) (dot_from_lem A μ (suc i) w))
  dot_mix μ i c (a ∷ v) [] = simp ring
  dot_mix μ i c (a ∷ v) (b ∷ w) = rw (dot_mix μ (suc i) c v w) (mix_step a b c (μ i) (dot_from_lem A μ (suc i) v) (dot_from_lem A μ (suc i) w))

  pub dot_shift : (μ : ℕ → K) (s i j : ℕ) (v : List K) → j ≡ s + i → dot_from_lem A μ i (shift A s v) ≡ dot_from_lem A μ j v
  unfolding dot_from_lem shift
  dot_shift μ zero i j v e = rw (e, zero-add i) refl
  dot_shift μ (suc s) i j v e = rw (dot_shift μ s (suc i) j v (omega arith), zero-times A 𝓕 (μ i)) (zero_plus A 𝓕 (dot_from_lem A μ j v))

  pub dot_same : (μ ν : ℕ → K) → ((i : ℕ) → μ i ≡ ν i) → (i : ℕ) (v : List K) → dot_from_lem A μ i v ≡ dot_from_lem A ν i v
  dot_same μ ν h i v = ap (λ (f : ℕ → K). dot_from_lem A f i v) (fun_ext h)

  plus_step : (a m n y d e w : K) → w ≡ A.plus d (A.times y e)
      → A.plus (A.times a (A.plus m (A.times y n))) w ≡ A.plus (A.plus (A.times a m) d) (A.times y (A.plus (A.times a n) e))
  plus_step a m n y d e w h = rw h (simp ring)

  -- from s places further on
  pub dot_from : (μ : ℕ → K) (s i j : ℕ) (v : List K) → j ≡ s + i → dot_from_lem A μ j v ≡ dot_from_lem A (λ (k : ℕ). μ (s + k)) i v
  unfolding dot_from_lem
  dot_from μ s i j [] e = refl
  dot_from μ s i j (a ∷ v) e = cc (dot_from μ s (suc i) (suc j) v (omega arith), e)

  pub dot_plus : (μ ν : ℕ → K) (y : K) (i : ℕ) (v : List K)
      → dot_from_lem A (λ (p : ℕ). A.plus (μ p) (A.times y (ν p))) i v ≡ A.plus (dot_from_lem A μ i v) (A.times y (dot_from_lem A ν i v))
  unfolding dot_from_lem
  dot_plus μ ν y i [] = simp ring
  dot_plus μ ν y i (a ∷ v) = plus_step a (μ i) (ν i) y (dot_from_lem A μ (suc i) v) (dot_from_lem A ν (suc i) v) _ (dot_plus μ ν y (suc i) v)

  none_step : (a d : K) → d ≡ A.zero → A.plus (A.times a A.zero) d ≡ A.zero
  none_step a d e = rw e (simp ring)

  pub dot_none : (i : ℕ) (v : List K) → dot_from_lem A (λ (p : ℕ). A.zero) i v ≡ A.zero
  unfolding dot_from_lem
  dot_none i [] = refl
  dot_none i (a ∷ v) = none_step a _ (dot_none (suc i) v)

  skip_step : (a m d : K) → a ≡ A.zero → A.plus (A.times a m) d ≡ d
  skip_step a m d e = rw e (simp ring)

  -- leading zeros add nothing
  pub dot_drop : (μ : ℕ → K) (n i j : ℕ) (v : List K) → ((k : ℕ) → k < n → at A v k ≡ A.zero) → j ≡ i + n
      → dot_from_lem A μ i v ≡ dot_from_lem A μ j (drop n v)
  unfolding dot_from_lem
  dot_drop μ zero i j v z e = let same : i ≡ j = omega arith in rw same refl
  dot_drop μ (suc n) i j [] z e = refl
  dot_drop μ (suc n) i j (a ∷ v) z e =
      skip_step a (μ i) _ (z 0 (omega arith)) ∙ dot_drop μ n (suc i) j v (λ k lt. z (suc k) (omega arith)) (omega arith)

  gone_both : (a m d : K) → a ≡ A.zero → d ≡ A.zero → A.plus (A.times a m) d ≡ A.zero
  gone_both a m d e f = rw (e, f) (simp ring)

  -- only the symbols at the places count
  pub dot_at : (μ : ℕ → K) (i : ℕ) (v w : List K) → ((k : ℕ) → at A v k ≡ at A w k) → dot_from_lem A μ i v ≡ dot_from_lem A μ i w
  unfolding dot_from_lem
  dot_at μ i [] [] h = refl
  dot_at μ i [] (b ∷ w) h = sym (gone_both b (μ i) _ (sym (h 0)) (sym (dot_at μ (suc i) [] w (λ k. h (suc k)))))
  dot_at μ i (a ∷ v) [] h = gone_both a (μ i) _ (h 0) (dot_at μ (suc i) v [] (λ k. h (suc k)))
  dot_at μ i (a ∷ v) (b ∷ w) h =
      ap₂ (λ (c d : K). A.plus (A.times c (μ i)) d) (h 0) (dot_at μ (suc i) v w (λ k. h (suc k)))

  factor_step : (a m m' x d d' : K) → m' ≡ A.times x m → d' ≡ A.times x d
      → A.plus (A.times a m') d' ≡ A.times x (A.plus (A.times a m) d)
  factor_step a m m' x d d' e f = rw (e, f) (simp ring)

  gone_step : (a m m' x d d' : K) → a ≡ A.zero → d' ≡ A.times x d
      → A.plus (A.times a m') d' ≡ A.times x (A.plus (A.times a m) d)
  gone_step a m m' x d d' e f = rw (e, f) (simp ring)

  module _ (Free : ℕ → Type 0) where
    later_placed : (i : ℕ) (a : K) (v : List K) → PlacedFrom A Free i (a ∷ v) → PlacedFrom A Free (suc i) v
    later_placed i a v h k j e = h (suc k) j (omega arith)

    pub dot_factor : (μ μ' : ℕ → K) (x : K) → ((i : ℕ) → Free i → μ' i ≡ A.times x (μ i)) → (i : ℕ) (v : List K) → PlacedFrom A Free i v
        → dot_from_lem A μ' i v ≡ A.times x (dot_from_lem A μ i v)
    unfolding dot_from_lem
    dot_factor μ μ' x law i [] h = sym (times_zero A 𝓕 x)
    dot_factor μ μ' x law i (a ∷ v) h = go (h 0 i (omega arith)) (dot_factor μ μ' x law (suc i) v (later_placed i a v h))
      where
        go : (a ≡ A.zero) ⊎ Free i → dot_from_lem A μ' (suc i) v ≡ A.times x (dot_from_lem A μ (suc i) v)
            → A.plus (A.times a (μ' i)) (dot_from_lem A μ' (suc i) v) ≡ A.times x (A.plus (A.times a (μ i)) (dot_from_lem A μ (suc i) v))
        go (inl z) ih = gone_step a (μ i) (μ' i) x _ _ z ih
        go (inr f) ih = factor_step a (μ i) (μ' i) x _ _ (law i f) ih

    -- the sum of a spread vector
    spread_step : (a m d y m' : K) → m' ≡ A.times y m → A.plus (A.times y d) (A.times a m') ≡ A.times y (A.plus (A.times a m) d)
    spread_step a m d y m' e = rw e (simp ring)

    spread_gone : (a m d y m' : K) → a ≡ A.zero → A.plus (A.times y d) (A.times a m') ≡ A.times y (A.plus (A.times a m) d)
    spread_gone a m d y m' e = rw e (simp ring)

    pub dot_spread : (μ : ℕ → K) (y : K) (Y : ℕ → List K) → ((i : ℕ) → Free i → dot_from_lem A μ 0 (Y i) ≡ A.times y (μ i))
        → (i : ℕ) (v : List K) → PlacedFrom A Free i v → dot_from_lem A μ 0 (spread_from A Y i v) ≡ A.times y (dot_from_lem A μ i v)
    unfolding spread_from dot_from_lem
    dot_spread μ y Y law i [] h = sym (times_zero A 𝓕 y)
    dot_spread μ y Y law i (a ∷ v) h =
        dot_mix μ 0 a (spread_from A Y (suc i) v) (Y i)
        ∙ rw (dot_spread μ y Y law (suc i) v (later_placed i a v h)) (go (h 0 i (omega arith)))
      where
        go : (a ≡ A.zero) ⊎ Free i → A.plus (A.times y (dot_from_lem A μ (suc i) v)) (A.times a (dot_from_lem A μ 0 (Y i)))
            ≡ A.times y (A.plus (A.times a (μ i)) (dot_from_lem A μ (suc i) v))
        go (inl z) = spread_gone a (μ i) _ y _ z
        go (inr f) = spread_step a (μ i) _ y _ (law i f)

  pub dot_scale : (μ : ℕ → K) (c : K) (i : ℕ) (v : List K) → dot_from_lem A (λ (p : ℕ). A.times c (μ p)) i v ≡ A.times c (dot_from_lem A μ i v)
  dot_scale μ c i v = dot_factor (λ (p : ℕ). Unit {0}) μ (λ (p : ℕ). A.times c (μ p)) c (λ p _. refl) i v (λ k j e. inr tt)

  none_added : (b c : K) → A.plus b (A.times A.zero c) ≡ b
  none_added b c = simp ring

  -- the space
  pub at_shift_below : (s : ℕ) (v : List K) (i : ℕ) → i < s → at A (shift A s v) i ≡ A.zero
  unfolding shift
  at_shift_below zero v i lt = absurd (omega arith)
  at_shift_below (suc s) v zero lt = refl
  at_shift_below (suc s) v (suc i) lt = at_shift_below s v i (omega arith)

  pub at_shift_above : (s : ℕ) (v : List K) (i j : ℕ) → j ≡ s + i → at A (shift A s v) j ≡ at A v i
  unfolding shift
  at_shift_above zero v i j e = rw (e, zero-add i) refl
  at_shift_above (suc s) v i zero e = absurd (omega arith)
  at_shift_above (suc s) v i (suc j) e = at_shift_above s v i j (omega arith)

  module _ (Free : ℕ → Type 0) (s : ℕ) (closed : (i : ℕ) → Free i → Free (s + i)) where
    pub placed_mix : (c : K) (v w : List K) → PlacedFrom A Free 0 v → PlacedFrom A Free 0 w → PlacedFrom A Free 0 (mix A c v w)
    placed_mix c v w hv hw k j e = go (hv k j e) (hw k j e)
      where
        go : (at A v k ≡ A.zero) ⊎ Free j → (at A w k ≡ A.zero) ⊎ Free j → (at A (mix A c v w) k ≡ A.zero) ⊎ Free j
        go (inl a) (inl b) = inl (at_mix A 𝓕 c v w k ∙ rw (a, b) (simp ring))
        go (inl a) (inr f) = inr f
        go (inr f) h = inr f

    pub placed_shift : (v : List K) → PlacedFrom A Free 0 v → PlacedFrom A Free 0 (shift A s v)
    placed_shift v h k j e = go (dec_lt k s)
      where
        go : Dec (k < s) → (at A (shift A s v) k ≡ A.zero) ⊎ Free j
        go (yes lt) = inl (at_shift_below s v k lt)
        go (no ge) = above (le_part (omega arith))
          where
            le_part : s ≤ k → (i : ℕ) × (k ≡ s + i)
            le_part le = (k - s, omega arith)

            above : (i : ℕ) × (k ≡ s + i) → (at A (shift A s v) k ≡ A.zero) ⊎ Free j
            above (i, e') = up (h i i (omega arith))
              where
                up : (at A v i ≡ A.zero) ⊎ Free i → (at A (shift A s v) k ≡ A.zero) ⊎ Free j
                up (inl z) = inl (at_shift_above s v i k e' ∙ z)
                up (inr f) = let eq : s + i ≡ j = omega arith in inr (rw eq at (closed i f))

    abbrev pub placed : Space A s
    placed =
        record {
          has = λ v. All A.In v × PlacedFrom A Free 0 v;
          symbols = λ v h. h.0;
          mixed = λ c v w hv hw. (mix_in A 𝓕 c v w hv.0, placed_mix c v w hv.1 hw.1);
          shifted = λ v h. (shift_in A 𝓕 s v h.0, placed_shift v h.1);
        }

    pub weighed_lawful : (μ : ℕ → K) (x : K) → ((i : ℕ) → Free i → μ (s + i) ≡ A.times x (μ i)) → Lawful placed (weighed A μ x)
    weighed_lawful μ x law =
        record {
          of_symbol = λ v h. dot_in μ 0 v;
          of_mix = λ c v w hv hw. dot_mix μ 0 c v w;
          of_shift = λ v h. dot_shift μ s 0 s v (omega arith) ∙ dot_from μ s 0 s v (omega arith)
              ∙ dot_factor Free μ (λ (k : ℕ). μ (s + k)) x law 0 v h.1;
        }

    -- a spread vector is in the space where the vectors of the free places are
    pub placed_spread : (Y : ℕ → List K) → ((i : ℕ) → Free i → placed.has (Y i)) → (i : ℕ) (v : List K) → PlacedFrom A Free i v
        → placed.has (spread_from A Y i v)
    unfolding spread_from
    placed_spread Y free i [] h = (tt, λ k j e. inl refl)
    placed_spread Y free i (a ∷ v) h = go (h 0 i (omega arith)) (placed_spread Y free (suc i) v (later_placed Free i a v h))
      where
        go : (a ≡ A.zero) ⊎ Free i → placed.has (spread_from A Y (suc i) v) → placed.has (mix A a (spread_from A Y (suc i) v) (Y i))
        go (inr f) ih = placed.mixed a (spread_from A Y (suc i) v) (Y i) ih (free i f)
        go (inl z) ih = (
          mix_in A 𝓕 a (spread_from A Y (suc i) v) (Y i) ih.0,
          λ k j e. rw (at_mix A 𝓕 a (spread_from A Y (suc i) v) (Y i) k, z, none_added (at A (spread_from A Y (suc i) v) k) (at A (Y i) k))
              (ih.1 k j e),
        )
