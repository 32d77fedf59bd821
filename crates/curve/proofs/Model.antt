-- The model of the decoding of scattered symbols: two runs over the points of a ring, on lists.
--
--   condition_d q m r i     N + r·L at the i-th point, r being the received symbol there; condition_l q m i, L there
--   turns q m r f i n es   what the steps at those of n points, the first being point i, at which f holds make of the lines es
--   ran q m r f            what they make of the start of pairs, over the whole ring
--   least_of es             the first line of lowest lead; least_found, least_has, least_lowest, what it is
--   used_by q m o i         the L of that line is not zero at the i-th point
--   used q m r             so it is with the line of lowest lead of a run over all points; second_run q m r, the run over those points
--   answer_by q m r es      the received symbols plus N + r·L of the first line, point by point
--   answer q m r           that of the second run
--   all_those, of_those    what holds at the points that a test picks
--   D-of-L, D-of-N, L-of-L, L-of-N    both conditions at the start, of the lines of L and of N
--   ring_pairs q size m     the pairs of functions on the ring; D-lawful, L-lawful, both conditions are lawful
--   solutions r f          the pairs with N = r·L wherever f holds: solution_pair, and Solution v, solution_values, back
--   ran_basis              the lines of a run are a basis of these
--   ran_monic, ran_first   they are monic, and the first keeps its lead where that is reached
-- Assumes nothing.
use mathlib.Core.Path.{◌≡◌, refl, sym, ◌∙◌, ap}
use mathlib.Core.Bool.{Bool, true, false, not, cond, true≢false}
use mathlib.Core.List.{List, [], ◌∷◌, map}
use mathlib.Core.Logic.{◌⊎◌, inl, inr}
use mathlib.Core.Option.{Option, none, some}
use Prim.Native.Nat.{ℕ, zero, suc, ◌+◌, ◌*◌, ◌≤◌, ◌<◌}
use native.Mathlib.Nat.{eq-or-lt_of_le}
use native.Mathlib.Decide.{ℕ_discrete}
use native.Mathlib.Omega.{arith}
use lib.Dec.{eqb}
use lib.ListN.{get_or}
use Rattle.field.specs.Arithmetic.{gf}
use Rattle.field.specs.Symbols.{plus, times}
use Rattle.field.proofs.Laws.{Field}
use Rattle.poly.specs.Poly.{All}
use Rattle.poly.proofs.Ring.{plus_cancel, plus_self, one_times, zero-times}
use Rattle.codes.specs.Code.{up_from}
use Rattle.basis.proofs.Scan.{Any, lowest, all_map, all_of_map, all_weaken, any_all, none_found, found_lowest, found}
use Rattle.basis.proofs.Basis.{Space, Form, Entry, Lawful, Basis, Reaches, run, run_basis, kernels, to_kernels, of_kernels}
use Rattle.hermitian.specs.Ring.{numbers, those}
use Rattle.hermitian.specs.Checks.{bad_size}
use Rattle.hermitian.proofs.Rings.{ring_field}
use Rattle.curve.proofs.Orders.{unit, power, power_in}
use Rattle.curve.proofs.Alive.{ring_side, ring_functions}
use Rattle.curve.proofs.Zeros.{point, val_at}
use Rattle.curve.proofs.Pairs.{pair, evens, odds, pairs, pair_within, pair_basis, pair_starts, pair_lawful, place_l, place_n}
use Rattle.curve.proofs.Pairs.{form_d, form_l, form_d_value, form_d_pair, start_N, start_L}
use Rattle.curve.proofs.Kept.{Monic, run_monic, pair_monic, run-followed, first_pair}

abbrev pub condition_d : ℕ → ℕ → List ℕ → ℕ → Form ℕ
condition_d q m r i = form_d (gf q) q m (get_or r i 0) (point q i).0 (point q i).1

abbrev pub condition_l : ℕ → ℕ → ℕ → Form ℕ
condition_l q m i = form_l (gf q) q m (point q i).0 (point q i).1

unfoldable pub turns : ℕ → ℕ → List ℕ → (ℕ → Bool) → ℕ → ℕ → List (Entry ℕ) → List (Entry ℕ)
turns q m r f i n es = run (gf q) ℕ_discrete (2 * q) (map (condition_d q m r) (those f (up_from i n))) es

unfoldable pub ran : ℕ → ℕ → List ℕ → (ℕ → Bool) → List (Entry ℕ)
ran q m r f = turns q m r f 0 (q * q * q) (pair_starts (gf q) q m)

unfoldable pub least_of : {K : Type 0} → List (Entry K) → Option (Entry K)
least_of es = lowest (λ e. e.lead) {P = λ e. ⊥} (λ e. no (λ h. h)) none es

unfoldable pub used_by : ℕ → ℕ → Option (Entry ℕ) → ℕ → Bool
used_by q m none i = false
used_by q m (some e) i = not (eqb ((condition_l q m i).of e.vec) 0)

unfoldable pub used : ℕ → ℕ → List ℕ → ℕ → Bool
used q m r = used_by q m (least_of (ran q m r (λ i. true)))

unfoldable pub second_run : ℕ → ℕ → List ℕ → List (Entry ℕ)
second_run q m r = ran q m r (used q m r)

unfoldable pub answer_by : ℕ → ℕ → List ℕ → List (Entry ℕ) → List ℕ
answer_by q m r [] = r
answer_by q m r (e ∷ es) = map (λ i. plus (get_or r i 0) ((condition_d q m r i).of e.vec)) (numbers (q * q * q))

unfoldable pub answer : ℕ → ℕ → List ℕ → List ℕ
answer q m r = answer_by q m r (second_run q m r)

-- ---- The line of lowest lead.

module _ {K : Type 0} (es : List (Entry K)) where
  pub least_found : (P : Entry K → Type 0) → Any P es → least_of es ≡ none → ⊥
  unfolding least_of
  least_found P h e = (any_all _ _ es (none_found _ _ _ es e) h).1.0

  module _ (g : Entry K) (first : least_of es ≡ some g) where
    pub least_has : (Q : Entry K → Type 0) → All Q es → Q g
    unfolding least_of
    least_has Q h = (found _ _ _ es Q h g first).0

    pub least_lowest : All (λ (e : Entry K). g.lead ≤ e.lead) es
    unfolding least_of
    least_lowest = all_weaken _ _ (λ e h. omega (arith, h)) es (found_lowest (λ e. e.lead) (λ e. ⊥) _ es g first)

-- ---- What holds at the points where a test does.

module _ (P : ℕ → Type 0) (f : ℕ → Bool) where
  pub all_those : (i n : ℕ) → ((k : ℕ) → k < i + n → f k ≡ true → P k) → All P (those f (up_from i n))
  unfolding those up_from
  all_those i zero h = tt
  all_those i (suc n) h = go (f i) refl (all_those (suc i) n (λ k lt e. h k (omega arith) e))
    where
      go : (b : Bool) → f i ≡ b → All P (those f (up_from (suc i) n))
          → All P (cond b (i ∷ those f (up_from (suc i) n)) (those f (up_from (suc i) n)))
      go true e rest = (h i (omega arith) e, rest)
      go false e rest = rest

  pub of_those : (i n k : ℕ) → i ≤ k → k < i + n → f k ≡ true → All P (those f (up_from i n)) → P k
  unfolding those up_from
  of_those i zero k le lt e h = absurd (omega arith)
  of_those i (suc n) k le lt e h = go (f i) refl h (eq-or-lt_of_le le) (λ above. of_those (suc i) n k above (omega arith) e)
    where
      go : (b : Bool) → f i ≡ b → All P (cond b (i ∷ those f (up_from (suc i) n)) (those f (up_from (suc i) n)))
          → (i ≡ k) ⊎ (i < k) → (i < k → All P (those f (up_from (suc i) n)) → P k) → P k
      go true d h (inl same) later = rw same at h.0
      go true d h (inr above) later = later above h.1
      go false d h (inl same) later = absurd (true≢false (sym e ∙ ap f (sym same) ∙ d))
      go false d h (inr above) later = later above h

-- ---- The runs.

module _ (q : ℕ) (size : bad_size q ≡ false) (m : ℕ) where
  abbrev 𝓕 : Field (gf q)
  𝓕 = ring_field q size

  abbrev two : 1 < q
  two = ring_side q size

  wide : 0 < 2 * q
  wide = omega (arith, two)

  abbrev pub ring_pairs : Space (gf q) (2 * q)
  ring_pairs = pairs (gf q) 𝓕 q two m

  pub D-lawful : (r : List ℕ) (i : ℕ) → Lawful ring_pairs (condition_d q m r i)
  D-lawful r i = pair_lawful (gf q) 𝓕 q two m 1 (get_or r i 0) (point q i).0 (point q i).1

  pub L-lawful : (i : ℕ) → Lawful ring_pairs (condition_l q m i)
  L-lawful i = pair_lawful (gf q) 𝓕 q two m 0 1 (point q i).0 (point q i).1

  -- at the start

  module _ (i j : ℕ) (lt : j < q) where
    abbrev y^j : ℕ
    y^j = power (gf q) (point q i).1 j

    pub D-of-L : (r : List ℕ) → (condition_d q m r i).of (unit (gf q) (place_l q m j)) ≡ times q (get_or r i 0) y^j
    D-of-L r = start_L (gf q) 𝓕 q two m 1 (get_or r i 0) (point q i).0 (point q i).1 j lt

    pub D-of-N : (r : List ℕ) → (condition_d q m r i).of (unit (gf q) (place_n q j)) ≡ y^j
    D-of-N r =
        start_N (gf q) 𝓕 q two m 1 (get_or r i 0) (point q i).0 (point q i).1 j lt
        ∙ one_times (gf q) 𝓕 (power_in (gf q) 𝓕 (point q i).1 j)

    pub L-of-L : (condition_l q m i).of (unit (gf q) (place_l q m j)) ≡ y^j
    L-of-L =
        start_L (gf q) 𝓕 q two m 0 1 (point q i).0 (point q i).1 j lt
        ∙ one_times (gf q) 𝓕 (power_in (gf q) 𝓕 (point q i).1 j)

    pub L-of-N : (condition_l q m i).of (unit (gf q) (place_n q j)) ≡ 0
    L-of-N = start_N (gf q) 𝓕 q two m 0 1 (point q i).0 (point q i).1 j lt ∙ zero-times (gf q) 𝓕 y^j

  module _ (r : List ℕ) where
    pub all_lawful : (ps : List ℕ) → All (Lawful ring_pairs) (map (condition_d q m r) ps)
    all_lawful [] = tt
    all_lawful (i ∷ ps) = (D-lawful r i, all_lawful ps)

    module _ (f : ℕ → Bool) where
      abbrev places : List ℕ
      places = those f (up_from 0 (q * q * q))

      abbrev conditions : List (Form ℕ)
      conditions = map (condition_d q m r) places

      abbrev pub solutions : Space (gf q) (2 * q)
      solutions = kernels (gf q) 𝓕 ring_pairs conditions (all_lawful places)

      pub solution_pair : (N L : List ℕ) → (ring_functions q size).has N → (ring_functions q size).has L
          → ((i : ℕ) → i < q * q * q → f i ≡ true → val_at q i N ≡ times q (get_or r i 0) (val_at q i L))
          → solutions.has (pair (gf q) m N L)
      solution_pair N L n l h =
          to_kernels (gf q) 𝓕 ring_pairs conditions (all_lawful places) (pair (gf q) m N L) (pair_within (gf q) 𝓕 q two m N L n l)
          (all_map (λ (i : ℕ). (condition_d q m r i).of (pair (gf q) m N L) ≡ 0) _ (condition_d q m r) (λ i z. z) places
          (all_those _ f 0 (q * q * q) (λ i lt e. met i (h i (omega arith) e))))
        where
          met : (i : ℕ) → val_at q i N ≡ times q (get_or r i 0) (val_at q i L) → (condition_d q m r i).of (pair (gf q) m N L) ≡ 0
          met i e =
              form_d_pair (gf q) 𝓕 q two m (get_or r i 0) (point q i).0 (point q i).1 N L n l
              ∙ ap (λ (a : ℕ). plus a (times q (get_or r i 0) (val_at q i L))) e ∙ plus_self (gf q) 𝓕 _

      -- N = r·L at the points of the run
      pub record Solution (v : List ℕ) : Type 0 where
        pub within : ring_pairs.has v
        pub meets : (i : ℕ) → i < q * q * q → f i ≡ true → val_at q i (evens v) ≡ times q (get_or r i 0) (val_at q i (odds m v))

      pub solution_values : (v : List ℕ) → solutions.has v → Solution v
      solution_values v h = go (of_kernels (gf q) 𝓕 ring_pairs conditions (all_lawful places) v h)
        where
          go : ring_pairs.has v × All (λ (C : Form ℕ). C.of v ≡ 0) conditions → Solution v
          go (within, zeros) = record {
            within = within;
            meets = λ i lt e. plus_cancel (gf q) 𝓕 (
                sym (form_d_value (gf q) 𝓕 q two m (point q i).0 (point q i).1 v within (get_or r i 0))
                ∙ of_those (λ (i : ℕ). (condition_d q m r i).of v ≡ 0) f 0 (q * q * q) i (omega arith) (omega arith) e
                (all_of_map _ (condition_d q m r) places zeros));
          }

      pub ran_basis : Basis solutions (ran q m r f)
      unfolding ran turns
      ran_basis = run_basis (gf q) 𝓕 ℕ_discrete wide ring_pairs conditions (all_lawful places) _ (pair_basis (gf q) 𝓕 q two m)

      pub ran_monic : All (Monic (gf q)) (ran q m r f)
      unfolding ran turns
      ran_monic =
          run_monic (gf q) 𝓕 ℕ_discrete wide ring_pairs conditions (all_lawful places) _ (pair_basis (gf q) 𝓕 q two m)
          (pair_monic (gf q) 𝓕 q m)

      pub ran_first : Any (Reaches (2 * q) (place_l q m 0)) (ran q m r f)
          → (g : Entry ℕ) × (rest : List (Entry ℕ)) × (ran q m r f ≡ g ∷ rest) × (g.lead ≡ place_l q m 0)
      unfolding ran turns
      ran_first h =
          first_pair (gf q) q two m (ran q m r f) (run-followed (gf q) ℕ_discrete (2 * q) conditions (pair_starts (gf q) q m)) h
