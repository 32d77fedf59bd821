-- Pairs of functions (N, L) as vectors: the symbols of N at the even places, those of L at the odd ones, m places further on.
--
--   braid A N L         the symbols of N and L in turn, zeros where one of them has no more
--   pair A m N L        the vector of the pair
--   evens v, odds m v   N and L of a vector; at_evens, at_odds, their symbols
--   evens_pair, odds_pair    those of a pair are its own, up to trailing zeros
--   FreePair q m p      the places of a pair of functions; pairs, the space of such vectors, at stride 2·q
--   pair_within         a pair of functions is in it; evens_within, odds_within, and its vectors are pairs of functions
--   alternate μ ν p     μ and ν in turn; dot_alternate, the sum by both is the sum over the even places plus that over the odd ones
--   pair_form a b x y    the condition a·N(x, y) + b·L(x, y): pair_lawful, it is lawful; pair_value, what it is of a vector, and
--                       of_pair, of a pair
--   form_d r x y, form_l x y    those of N + r·L and of L; form_d_value, form_l_value, what they are of a vector; form_d_pair, of a pair
--   pair_below          with L up to t and N up to t + m, the pair has no place above 2·(t + m) + 1; evens_below, odds_below, and back
--   pair_lead           where N is no higher than L, m places further on, the lead of L decides
--   zero_pair           a vector with no N and no L is zero
--   place_n q j          the place of N = y^j; place_l q m j, that of L = y^j; pair_starts, their units; pair_basis, these are a basis
--   start_N, start_L    what a condition is of those units
-- Assumes nothing.
use mathlib.Core.Path.{◌≡◌, refl, sym, ◌∙◌, ap, ap₂, subst}
use mathlib.Core.Logic.{◌⊎◌, inl, inr}
use mathlib.Core.Bool.{cond}
use mathlib.Core.List.{List, [], ◌∷◌, ◌++◌}
use Prim.Native.Nat.{ℕ, zero, suc, ◌+◌, ◌-◌, ◌*◌, ◌/◌, ◌%◌, ◌≤◌, ◌<◌}
use native.Mathlib.Nat.{add-sub_cancel_left, zero-add, mul_left_comm}
use native.Mathlib.Decide.{dec_lt, ℕ_discrete}
use native.Mathlib.Omega.{arith}
use lib.Dec.{eqb}
use lib.ListN.{drop}
use lib.Seq.{get_or-drop}
use Rattle.field.specs.Arithmetic.{Arithmetic}
use Rattle.field.proofs.Laws.{Field}
use Rattle.poly.specs.Poly.{All, Zero}
use Rattle.poly.proofs.Ring.{ring, times-left_comm, one_times}
use Rattle.codes.proofs.Parts.{all_drop}
use Rattle.basis.proofs.Vector.{at, Below, Lead, shift, shift_in, at_zero}
use Rattle.basis.proofs.Scan.{Any, all_append}
use Rattle.basis.proofs.Basis.{Space, Form, Entry, Lawful, Basis, Reaches}
use Rattle.basis.proofs.Interleaved.{every, every_in, at_every, zero_every}
use Rattle.basis.proofs.Placed.{dot_from_lem, dot_in, dot_same, dot_scale, dot_drop, dot_from, dot_at, placed, weighed, weighed_lawful}
use Rattle.basis.proofs.Placed.{at_shift_below, at_shift_above}
use Rattle.curve.proofs.Orders.{Free, order, order_start, free_order, free_up, of_free, mono, mono_order}
use Rattle.curve.proofs.Orders.{x_law, power, power_in, val, lead_placed, unit, unit_in, unit_placed}
use Rattle.curve.proofs.Orders.{dot_unit, starts, starts_led, starts_reach, functions}

module _ {K : Type 0} (A : Arithmetic K) where
  unfoldable pub braid : List K → List K → List K
  braid [] [] = []
  braid [] (b ∷ L) = A.zero ∷ (b ∷ braid [] L)
  braid (a ∷ N) [] = a ∷ (A.zero ∷ braid N [])
  braid (a ∷ N) (b ∷ L) = a ∷ (b ∷ braid N L)

  unfoldable pub pair : ℕ → List K → List K → List K
  pair m N L = braid N (shift A m L)

abbrev pub evens : {K : Type 0} → List K → List K
evens v = every 1 0 v

abbrev pub odds : {K : Type 0} → ℕ → List K → List K
odds m v = drop m (every 1 1 v)

abbrev pub FreePair : ℕ → ℕ → ℕ → Type 0
FreePair q m p = ((d : ℕ) × (p ≡ 2 * d) × Free q d) ⊎ ((d : ℕ) × (p ≡ suc (2 * (m + d))) × Free q d)

unfoldable pub alternate : {K : Type 0} → (ℕ → K) → (ℕ → K) → ℕ → K
alternate μ ν p = cond (eqb (p % 2) 0) (μ (p / 2)) (ν (p / 2))

module _ {K : Type 0} (μ ν : ℕ → K) where
  pub alternate_even : (d p : ℕ) → p ≡ 2 * d → alternate μ ν p ≡ μ d
  unfolding alternate
  alternate_even d p e =
      let rest : p % 2 ≡ 0 = omega arith in
      let half : p / 2 ≡ d = omega arith in
      rw (rest, half) refl

  pub alternate_odd : (d p : ℕ) → p ≡ suc (2 * d) → alternate μ ν p ≡ ν d
  unfolding alternate
  alternate_odd d p e =
      let rest : p % 2 ≡ 1 = omega arith in
      let half : p / 2 ≡ d = omega arith in
      rw (rest, half) refl

module _ {K : Type 0} (A : Arithmetic K) where
  unfoldable pub pair_mono : ℕ → ℕ → K → K → K → K → ℕ → K
  pair_mono q m a b x y = alternate (λ (d : ℕ). A.times a (mono A q x y d)) (λ (d : ℕ). A.times b (mono A q x y (d - m)))

  abbrev pub pair_form : ℕ → ℕ → K → K → K → K → Form K
  pair_form q m a b x y = weighed A (pair_mono q m a b x y) x

  -- N + r·L at the point, and L there
  abbrev pub form_d : ℕ → ℕ → K → K → K → Form K
  form_d q m r x y = pair_form q m A.one r x y

  abbrev pub form_l : ℕ → ℕ → K → K → Form K
  form_l q m x y = pair_form q m A.zero A.one x y

-- N = y^j, and L = y^j
abbrev pub place_n : ℕ → ℕ → ℕ
place_n q j = 2 * order q 0 j

abbrev pub place_l : ℕ → ℕ → ℕ → ℕ
place_l q m j = suc (2 * (m + order q 0 j))

-- the lines of L, and then those of N
abbrev pub pair_starts : {K : Type 0} → Arithmetic K → ℕ → ℕ → List (Entry K)
pair_starts A q m = starts A (place_l q m) q 0 ++ starts A (place_n q) q 0

-- ---- The symbols of a pair.

any_left : {T : Type 0} (P : T → Type 0) (es fs : List T) → Any P es → Any P (es ++ fs)
any_left P [] fs h = absurd h
any_left P (e ∷ es) fs (inl h) = inl h
any_left P (e ∷ es) fs (inr h) = inr (any_left P es fs h)

any_right : {T : Type 0} (P : T → Type 0) (es fs : List T) → Any P fs → Any P (es ++ fs)
any_right P [] fs h = h
any_right P (e ∷ es) fs h = inr (any_right P es fs h)

parity : (p : ℕ) → ((d : ℕ) × (p ≡ 2 * d)) ⊎ ((d : ℕ) × (p ≡ suc (2 * d)))
parity p = go (ℕ_discrete (p % 2) 0)
  where
    go : Dec (p % 2 ≡ 0) → ((d : ℕ) × (p ≡ 2 * d)) ⊎ ((d : ℕ) × (p ≡ suc (2 * d)))
    go (yes e) = inl (p / 2, omega arith)
    go (no e) = inr (p / 2, omega arith)

module _ {K : Type 0} (A : Arithmetic K) (𝓕 : Field A) where
  pub at_evens : (v : List K) (d p : ℕ) → p ≡ 2 * d → at A (evens v) d ≡ at A v p
  at_evens v d p e = at_every A 𝓕 1 0 d p v (omega arith)

  at_other : (v : List K) (d p : ℕ) → p ≡ suc (2 * d) → at A (every 1 1 v) d ≡ at A v p
  at_other v d p e = at_every A 𝓕 1 1 d p v (omega arith)

  pub at_odds : (m : ℕ) (v : List K) (d p : ℕ) → p ≡ suc (2 * (m + d)) → at A (odds m v) d ≡ at A v p
  at_odds m v d p e = get_or-drop m (every 1 1 v) d A.zero ∙ at_other v (m + d) p e

  evens_braid : (N L : List K) (d : ℕ) → at A (evens (braid A N L)) d ≡ at A N d
  unfolding braid every
  evens_braid [] [] d = refl
  evens_braid [] (b ∷ L) zero = refl
  evens_braid [] (b ∷ L) (suc d) = evens_braid [] L d
  evens_braid (a ∷ N) [] zero = refl
  evens_braid (a ∷ N) [] (suc d) = evens_braid N [] d
  evens_braid (a ∷ N) (b ∷ L) zero = refl
  evens_braid (a ∷ N) (b ∷ L) (suc d) = evens_braid N L d

  other_braid : (N L : List K) (d : ℕ) → at A (every 1 1 (braid A N L)) d ≡ at A L d
  unfolding braid every
  other_braid [] [] d = refl
  other_braid [] (b ∷ L) zero = refl
  other_braid [] (b ∷ L) (suc d) = other_braid [] L d
  other_braid (a ∷ N) [] zero = refl
  other_braid (a ∷ N) [] (suc d) = other_braid N [] d
  other_braid (a ∷ N) (b ∷ L) zero = refl
  other_braid (a ∷ N) (b ∷ L) (suc d) = other_braid N L d

  braid_in : (N L : List K) → All A.In N → All A.In L → All A.In (braid A N L)
  unfolding braid
  braid_in [] [] n l = tt
  braid_in [] (b ∷ L) n l = (𝓕.zero_in, (l.0, braid_in [] L n l.1))
  braid_in (a ∷ N) [] n l = (n.0, (𝓕.zero_in, braid_in N [] n.1 l))
  braid_in (a ∷ N) (b ∷ L) n l = (n.0, (l.0, braid_in N L n.1 l.1))

  module _ (m : ℕ) (N L : List K) where
    pub pair_even : (d p : ℕ) → p ≡ 2 * d → at A (pair A m N L) p ≡ at A N d
    unfolding pair
    pair_even d p e = sym (at_evens (braid A N (shift A m L)) d p e) ∙ evens_braid N (shift A m L) d

    pub pair_odd : (d p : ℕ) → p ≡ suc (2 * (m + d)) → at A (pair A m N L) p ≡ at A L d
    unfolding pair
    pair_odd d p e =
        sym (at_other (braid A N (shift A m L)) (m + d) p e) ∙ other_braid N (shift A m L) (m + d)
        ∙ at_shift_above A 𝓕 m L d (m + d) refl

    pair_gap : (d p : ℕ) → p ≡ suc (2 * d) → d < m → at A (pair A m N L) p ≡ A.zero
    unfolding pair
    pair_gap d p e lt =
        sym (at_other (braid A N (shift A m L)) d p e) ∙ other_braid N (shift A m L) d ∙ at_shift_below A 𝓕 m L d lt

    pub evens_pair : (d : ℕ) → at A (evens (pair A m N L)) d ≡ at A N d
    evens_pair d = at_evens (pair A m N L) d (2 * d) refl ∙ pair_even d (2 * d) refl

    pub odds_pair : (d : ℕ) → at A (odds m (pair A m N L)) d ≡ at A L d
    odds_pair d = at_odds m (pair A m N L) d _ refl ∙ pair_odd d _ refl

    -- bounds and leads

    pub pair_below : (t : ℕ) → Below A N (suc (t + m)) → Below A L (suc t) → Below A (pair A m N L) (suc (suc (2 * (t + m))))
    pair_below t n l p le = go (parity p)
      where
        go : ((d : ℕ) × (p ≡ 2 * d)) ⊎ ((d : ℕ) × (p ≡ suc (2 * d))) → at A (pair A m N L) p ≡ A.zero
        go (inl (d, e)) = pair_even d p e ∙ n d (omega arith)
        go (inr (d, e)) = pair_odd (d - m) p (omega arith) ∙ l (d - m) (omega arith)

    pub pair_lead : (t : ℕ) → Below A N (suc (t + m)) → Lead A L t → Lead A (pair A m N L) (suc (2 * (m + t)))
    pair_lead t n l = record {
      nonzero = λ z. l.nonzero (sym (pair_odd t _ refl) ∙ z);
      below = λ p le. pair_below t n l.below p (omega arith);
    }

  pub evens_below : (v : List K) (n : ℕ) → Below A v (suc (suc (2 * n))) → Below A (evens v) (suc n)
  evens_below v n b d le = at_evens v d (2 * d) refl ∙ b (2 * d) (omega arith)

  pub odds_below : (m : ℕ) (v : List K) (t : ℕ) → Below A v (suc (suc (2 * (t + m)))) → Below A (odds m v) (suc t)
  odds_below m v t b d le = at_odds m v d _ refl ∙ b _ (omega arith)

  -- ---- The space of pairs.

  module _ (q : ℕ) (two : 1 < q) (m : ℕ) where
    pub pair_up : (p : ℕ) → FreePair q m p → FreePair q m (2 * q + p)
    pair_up p (inl (d, e, f)) = inl (q + d, omega arith, free_up q two d f)
    pair_up p (inr (d, e, f)) = inr (q + d, omega arith, free_up q two d f)

    abbrev pub pairs : Space A (2 * q)
    pairs = placed A 𝓕 (FreePair q m) (2 * q) pair_up

    pub pair_within : (N L : List K) → (functions A 𝓕 q two).has N → (functions A 𝓕 q two).has L → pairs.has (pair A m N L)
    pair_within N L n l = (unfold pair in braid_in N (shift A m L) n.0 (shift_in A 𝓕 m L l.0), λ k p e. go k p e (parity k))
      where
        even : (k p d : ℕ) → p ≡ 0 + k → k ≡ 2 * d → (at A N d ≡ A.zero) ⊎ Free q d → (at A (pair A m N L) k ≡ A.zero) ⊎ FreePair q m p
        even k p d e at-k (inl z) = inl (pair_even m N L d k at-k ∙ z)
        even k p d e at-k (inr f) = inr (inl (d, omega arith, f))

        odd : (k p d : ℕ) → p ≡ 0 + k → k ≡ suc (2 * (m + d)) → (at A L d ≡ A.zero) ⊎ Free q d
            → (at A (pair A m N L) k ≡ A.zero) ⊎ FreePair q m p
        odd k p d e at-k (inl z) = inl (pair_odd m N L d k at-k ∙ z)
        odd k p d e at-k (inr f) = inr (inr (d, omega arith, f))

        after : (k p d : ℕ) → p ≡ 0 + k → k ≡ suc (2 * d) → Dec (d < m) → (at A (pair A m N L) k ≡ A.zero) ⊎ FreePair q m p
        after k p d e at-k (yes lt) = inl (pair_gap m N L d k at-k lt)
        after k p d e at-k (no ge) = odd k p (d - m) e (omega arith) (l.1 (d - m) (d - m) (omega arith))

        go : (k p : ℕ) → p ≡ 0 + k → ((d : ℕ) × (k ≡ 2 * d)) ⊎ ((d : ℕ) × (k ≡ suc (2 * d)))
            → (at A (pair A m N L) k ≡ A.zero) ⊎ FreePair q m p
        go k p e (inl (d, at-k)) = even k p d e at-k (n.1 d d (omega arith))
        go k p e (inr (d, at-k)) = after k p d e at-k (dec_lt d m)

    module _ (v : List K) (h : pairs.has v) where
      pub evens_within : (functions A 𝓕 q two).has (evens v)
      evens_within = (every_in A 𝓕 1 0 v h.0, λ k p e. go k p e (h.1 (2 * k) (2 * k) (omega arith)))
        where
          go : (k p : ℕ) → p ≡ 0 + k → (at A v (2 * k) ≡ A.zero) ⊎ FreePair q m (2 * k) → (at A (evens v) k ≡ A.zero) ⊎ Free q p
          go k p e (inl z) = inl (at_evens v k (2 * k) refl ∙ z)
          go k p e (inr (inl (d, at-k, f))) = let same : d ≡ p = omega arith in inr (rw same at f)
          go k p e (inr (inr (d, at-k, f))) = absurd (omega arith)

      pub odds_within : (functions A 𝓕 q two).has (odds m v)
      odds_within = (
        all_drop A.In m (every 1 1 v) (every_in A 𝓕 1 1 v h.0),
        λ k p e. go k p e (h.1 (suc (2 * (m + k))) (suc (2 * (m + k))) (omega arith)),
      )
        where
          go : (k p : ℕ) → p ≡ 0 + k → (at A v (suc (2 * (m + k))) ≡ A.zero) ⊎ FreePair q m (suc (2 * (m + k)))
              → (at A (odds m v) k ≡ A.zero) ⊎ Free q p
          go k p e (inl z) = inl (at_odds m v k _ refl ∙ z)
          go k p e (inr (inl (d, at-k, f))) = absurd (omega arith)
          go k p e (inr (inr (d, at-k, f))) = let same : d ≡ p = omega arith in inr (rw same at f)

      -- the odd places before the first of L
      gap_zero : (d : ℕ) → d < m → at A (every 1 1 v) d ≡ A.zero
      gap_zero d lt = at_other v d (suc (2 * d)) refl ∙ go (h.1 (suc (2 * d)) (suc (2 * d)) (omega arith))
        where
          go : (at A v (suc (2 * d)) ≡ A.zero) ⊎ FreePair q m (suc (2 * d)) → at A v (suc (2 * d)) ≡ A.zero
          go (inl z) = z
          go (inr (inl (e, at-e, f))) = absurd (omega arith)
          go (inr (inr (e, at-e, f))) = absurd (omega arith)

      pub zero_pair : Zero A (evens v) → Zero A (odds m v) → Zero A v
      zero_pair n l = zero_every A 𝓕 1 v parts
        where
          other : (d : ℕ) → Dec (d < m) → at A (every 1 1 v) d ≡ A.zero
          other d (yes lt) = gap_zero d lt
          other d (no ge) =
              let e : m + (d - m) ≡ d = omega arith in
              rw e at (sym (get_or-drop m (every 1 1 v) (d - m) A.zero) ∙ at_zero A 𝓕 (odds m v) l (d - m))

          parts : (k : ℕ) → k ≤ 1 → (d : ℕ) → at A (every 1 k v) d ≡ A.zero
          parts zero le d = at_zero A 𝓕 (evens v) n d
          parts (suc zero) le d = other d (dec_lt d m)
          parts (suc (suc k)) le d = absurd (omega arith)

  -- ---- Conditions on pairs.

  last_step : (a u u' : K) → u' ≡ u → A.plus (A.times a u') A.zero ≡ A.plus (A.plus (A.times a u) A.zero) A.zero
  last_step a u u' e = rw e (simp ring)

  two_step : (a u u' b w w' d e t : K) → u' ≡ u → w' ≡ w → t ≡ A.plus d e
      → A.plus (A.times a u') (A.plus (A.times b w') t) ≡ A.plus (A.plus (A.times a u) d) (A.plus (A.times b w) e)
  two_step a u u' b w w' d e t p r h = rw (p, r, h) (simp ring)

  pub dot_alternate : (μ ν : ℕ → K) (i j : ℕ) (v : List K) → j ≡ 2 * i
      → dot_from_lem A (alternate μ ν) j v ≡ A.plus (dot_from_lem A μ i (evens v)) (dot_from_lem A ν i (every 1 1 v))
  unfolding dot_from_lem every
  dot_alternate μ ν i j [] e = simp ring
  dot_alternate μ ν i j (a ∷ []) e = last_step a (μ i) (alternate μ ν j) (alternate_even μ ν i j e)
  dot_alternate μ ν i j (a ∷ (b ∷ v)) e =
      two_step a (μ i) _ b (ν i) _ _ _ _ (alternate_even μ ν i j e) (alternate_odd μ ν i (suc j) (omega arith))
      (dot_alternate μ ν (suc i) (suc (suc j)) v (omega arith))

  module _ (q : ℕ) (two : 1 < q) (m : ℕ) (a b x y : K) where
    pair_law : (p : ℕ) → FreePair q m p → pair_mono A q m a b x y (2 * q + p) ≡ A.times x (pair_mono A q m a b x y p)
    unfolding pair_mono
    pair_law p (inl (d, e, f)) =
        alternate_even _ _ (q + d) (2 * q + p) (omega arith)
        ∙ ap (A.times a) (x_law A 𝓕 q two x y d f) ∙ times-left_comm A 𝓕 a x (mono A q x y d)
        ∙ ap (A.times x) (sym (alternate_even _ _ d p e))
    pair_law p (inr (d, e, f)) =
        alternate_odd _ _ (m + (q + d)) (2 * q + p) (omega arith)
        ∙ ap (λ (n : ℕ). A.times b (mono A q x y n)) (add-sub_cancel_left m (q + d))
        ∙ ap (A.times b) (x_law A 𝓕 q two x y d f) ∙ times-left_comm A 𝓕 b x (mono A q x y d)
        ∙ ap (λ (n : ℕ). A.times x (A.times b (mono A q x y n))) (sym (add-sub_cancel_left m d))
        ∙ ap (A.times x) (sym (alternate_odd _ _ (m + d) p e))

    pub pair_lawful : Lawful (pairs q two m) (pair_form A q m a b x y)
    pair_lawful = weighed_lawful A 𝓕 (FreePair q m) (2 * q) (pair_up q two m) (pair_mono A q m a b x y) x pair_law

    pub pair_value : (v : List K) → (pairs q two m).has v
        → (pair_form A q m a b x y).of v ≡ A.plus (A.times a (val A q x y (evens v))) (A.times b (val A q x y (odds m v)))
    unfolding pair_mono
    pair_value v h =
        dot_alternate _ _ 0 0 v (omega arith)
        ∙ ap₂ A.plus (dot_scale A 𝓕 (mono A q x y) a 0 (evens v)) further
      where
        ν : ℕ → K
        ν d = A.times b (mono A q x y (d - m))

        further : dot_from_lem A ν 0 (every 1 1 v) ≡ A.times b (val A q x y (odds m v))
        further =
            dot_drop A 𝓕 ν m 0 m (every 1 1 v) (gap_zero q two m v h) (omega arith)
            ∙ dot_from A 𝓕 ν m 0 m (odds m v) (omega arith)
            ∙ dot_same A 𝓕 _ _ (λ k. ap (λ (n : ℕ). A.times b (mono A q x y n)) (add-sub_cancel_left m k)) 0 (odds m v)
            ∙ dot_scale A 𝓕 (mono A q x y) b 0 (odds m v)

    pub of_pair : (N L : List K) → (functions A 𝓕 q two).has N → (functions A 𝓕 q two).has L
        → (pair_form A q m a b x y).of (pair A m N L) ≡ A.plus (A.times a (val A q x y N)) (A.times b (val A q x y L))
    of_pair N L n l =
        pair_value (pair A m N L) (pair_within q two m N L n l)
        ∙ ap₂ (λ (u w : K). A.plus (A.times a u) (A.times b w)) (dot_at A 𝓕 _ 0 _ N (evens_pair m N L))
        (dot_at A 𝓕 _ 0 _ L (odds_pair m N L))

    -- at the start

    power_at : (j : ℕ) → j < q → mono A q x y (order q 0 j) ≡ power A y j
    power_at j lt = mono_order A 𝓕 q two x y 0 j lt ∙ unfold power in one_times A 𝓕 (power_in A 𝓕 y j)

    pair_mono_in : (p : ℕ) → A.In (pair_mono A q m a b x y p)
    unfolding pair_mono
    pair_mono_in p = go (parity p)
      where
        go : ((d : ℕ) × (p ≡ 2 * d)) ⊎ ((d : ℕ) × (p ≡ suc (2 * d))) → A.In (pair_mono A q m a b x y p)
        go (inl (d, e)) = subst A.In (sym (alternate_even _ _ d p e)) (𝓕.times_in _ _)
        go (inr (d, e)) = subst A.In (sym (alternate_odd _ _ d p e)) (𝓕.times_in _ _)

    pub start_N : (j : ℕ) → j < q → (pair_form A q m a b x y).of (unit A (place_n q j)) ≡ A.times a (power A y j)
    start_N j lt =
        dot_unit A 𝓕 (pair_mono A q m a b x y) (place_n q j) (pair_mono_in (place_n q j))
        ∙ unfold pair_mono in alternate_even _ _ (order q 0 j) (place_n q j) refl ∙ ap (A.times a) (power_at j lt)

    pub start_L : (j : ℕ) → j < q → (pair_form A q m a b x y).of (unit A (place_l q m j)) ≡ A.times b (power A y j)
    start_L j lt =
        dot_unit A 𝓕 (pair_mono A q m a b x y) (place_l q m j) (pair_mono_in (place_l q m j))
        ∙ unfold pair_mono in alternate_odd _ _ (m + order q 0 j) (place_l q m j) refl
        ∙ ap (λ (n : ℕ). A.times b (mono A q x y n)) (add-sub_cancel_left m (order q 0 j)) ∙ ap (A.times b) (power_at j lt)

  module _ (q : ℕ) (two : 1 < q) (m : ℕ) (x y : K) (v : List K) (h : (pairs q two m).has v) where
    pub form_d_value : (r : K) → (form_d A q m r x y).of v ≡ A.plus (val A q x y (evens v)) (A.times r (val A q x y (odds m v)))
    form_d_value r =
        pair_value q two m A.one r x y v h
        ∙ ap (λ (u : K). A.plus u (A.times r (val A q x y (odds m v)))) (one_times A 𝓕 (dot_in A 𝓕 (mono A q x y) 0 (evens v)))

    pub form_l_value : (form_l A q m x y).of v ≡ val A q x y (odds m v)
    form_l_value =
        pair_value q two m A.zero A.one x y v h
        ∙ none_step (val A q x y (evens v)) _ ∙ one_times A 𝓕 (dot_in A 𝓕 (mono A q x y) 0 (odds m v))
      where
        none_step : (u w : K) → A.plus (A.times A.zero u) w ≡ w
        none_step u w = simp ring

  pub form_d_pair : (q : ℕ) (two : 1 < q) (m : ℕ) (r x y : K) (N L : List K) → (functions A 𝓕 q two).has N → (functions A 𝓕 q two).has L
      → (form_d A q m r x y).of (pair A m N L) ≡ A.plus (val A q x y N) (A.times r (val A q x y L))
  form_d_pair q two m r x y N L n l =
      of_pair q two m A.one r x y N L n l
      ∙ ap (λ (u : K). A.plus u (A.times r (val A q x y L))) (one_times A 𝓕 (dot_in A 𝓕 (mono A q x y) 0 N))

  -- ---- The start basis.

  module _ (q : ℕ) (two : 1 < q) (m : ℕ) where
    reach_L : (p d : ℕ) → p ≡ suc (2 * (m + d)) → Free q d → Any (Reaches (2 * q) p) (starts A (place_l q m) q 0)
    reach_L p d e f =
        let (i, j, lt, at-d) = of_free q two d f in
        starts_reach A 𝓕 (2 * q) (place_l q m) q 0 p i j
        (rw (zero-add j) (omega (arith, order_start q two i j, mul_left_comm i 2 q))) lt

    reach_N : (p d : ℕ) → p ≡ 2 * d → Free q d → Any (Reaches (2 * q) p) (starts A (place_n q) q 0)
    reach_N p d e f =
        let (i, j, lt, at-d) = of_free q two d f in
        starts_reach A 𝓕 (2 * q) (place_n q) q 0 p i j
        (rw (zero-add j) (omega (arith, order_start q two i j, mul_left_comm i 2 q))) lt

    pub pair_basis : Basis (pairs q two m) (pair_starts A q m)
    pair_basis = record {
      led = all_append _ (starts A (place_l q m) q 0) (starts A (place_n q) q 0)
          (starts_led A 𝓕 (pairs q two m) (place_l q m) q 0 (λ k lt. within _ (inr (order q 0 k, refl, free_order q two 0 k (omega arith)))))
          (starts_led A 𝓕 (pairs q two m) (place_n q) q 0 (λ k lt. within _ (inl (order q 0 k, refl, free_order q two 0 k (omega arith)))));
      reached = λ v p h l. go p (lead_placed A (FreePair q m) v p h.1 l);
    }
      where
        within : (p : ℕ) → FreePair q m p → (pairs q two m).has (unit A p)
        within p f = (unit_in A 𝓕 p, unit_placed A 𝓕 (FreePair q m) p f)

        go : (p : ℕ) → FreePair q m p → Any (Reaches (2 * q) p) (pair_starts A q m)
        go p (inl (d, e, f)) = any_right (Reaches (2 * q) p) (starts A (place_l q m) q 0) (starts A (place_n q) q 0) (reach_N p d e f)
        go p (inr (d, e, f)) = any_left (Reaches (2 * q) p) (starts A (place_l q m) q 0) (starts A (place_n q) q 0) (reach_L p d e f)
