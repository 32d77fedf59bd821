-- The model finds the word of H(m) that differs from the received ring in few symbols, and there is only one.
--
--   planted                f·L and L, L being zero at the wrong points, are a pair of low lead that the first run's lines reach
--   N-product              so of the line of lowest lead N is f·L, and L is not zero
--   used_usable            where its L is not zero the received symbols are right, and that is at all points but τ + genus q
--   complete               so the model's answer is the word of f, if that differs from the received ring in τ symbols at most
--   near_answer            the same of a word; unique_near, no two words are that near
--   answer_ring            whatever is received, the answer is a ring
-- Assumes nothing.
use mathlib.Core.Path.{◌≡◌, refl, sym, ◌∙◌, ap}
use mathlib.Core.Logic.{◌⊎◌, inl, inr}
use mathlib.Core.Bool.{Bool, true, false, not, true≢false}
use mathlib.Core.List.{List, [], ◌∷◌, map}
use mathlib.Core.Option.{Option, none, some}
use Prim.Native.Nat.{ℕ, suc, ◌+◌, ◌*◌, ◌≤◌, ◌<◌}
use native.Mathlib.Omega.{arith}
use lib.Dec.{eqb}
use lib.ListN.{get_or, length-map}
use borrow.Author.Tests.{eqb-true, eq-eqb, not-false}
use Rattle.field.specs.Arithmetic.{gf}
use Rattle.field.specs.Symbols.{IsSymbol, times}
use Rattle.field.proofs.Laws.{Field}
use Rattle.poly.specs.Poly.{All, Zero}
use Rattle.poly.proofs.Ring.{times_zero, times_comm, times_cancel}
use Rattle.codes.specs.Code.{total, flags_from, IsMessage}
use Rattle.codes.proofs.Flags.{flags_same}
use Rattle.basis.proofs.Vector.{Below, Lead, at_zero, at_in, lead_or_zero, lead_below}
use Rattle.basis.proofs.Scan.{Any, any_all}
use Rattle.basis.proofs.Basis.{Entry, Led, Reaches}
use Rattle.basis.proofs.Placed.{dot_in}
use Rattle.hermitian.specs.Ring.{numbers, ring_lengths, ring_code, ring_word, RingWord, IsRing}
use Rattle.hermitian.specs.Checks.{bad_size, bad_order}
use Rattle.hermitian.specs.Pits.{wrong_at, wrong_symbols, genus}
use Rattle.hermitian.proofs.Numbers.{length-numbers}
use Rattle.hermitian.proofs.Rings.{ring_field}
use Rattle.hermitian.proofs.Words.{word_ring}
use Rattle.curve.proofs.Alive.{ring_side, ring_functions}
use Rattle.curve.proofs.Zeros.{point, val_at, zero_at, zero_function, zeros-flagged, val_in, val-zero, same_function}
use Rattle.curve.proofs.Products.{mul_rows, mul_rows_within, ring_below, word-times}
use Rattle.curve.proofs.Pairs.{pair, pair_lead, evens, odds, evens_within, odds_within, evens_below, odds_below}
use Rattle.curve.proofs.Pairs.{zero_pair, form_l_value}
use Rattle.curve.proofs.Model.{condition_l, ran, least_of, least_found, least_has, least_lowest}
use Rattle.curve.proofs.Model.{used_by, used, second_run, answer_by, answer}
use Rattle.curve.proofs.Model.{solutions, solution_pair, Solution, solution_values, ran_basis}
use Rattle.curve.proofs.Vanishing.{vanishing}
use Rattle.curve.proofs.Found.{Usable, answer_word}

module _ (q : ℕ) (size : bad_size q ≡ false) (m : ℕ) (order : bad_order q m ≡ false) (r : List ℕ) (received : IsRing q r)
    (τ : ℕ) (room : ¬ (q * q * q < m + 1 + genus q + 2 * τ)) (f : List ℕ) (message : IsMessage (ring_code q m) f)
    (near : wrong_symbols q r (ring_word q m f) ≤ τ)
  where
    abbrev 𝓕 : Field (gf q)
    𝓕 = ring_field q size

    abbrev two : 1 < q
    two = ring_side q size

    abbrev w : List ℕ
    w = ring_word q m f

    abbrev bound : ℕ
    bound = τ + genus q

    abbrev all : ℕ → Bool
    all i = true

    abbrev lines : List (Entry ℕ)
    lines = ran q m r all

    abbrev times_f : List ℕ → List ℕ
    times_f L = mul_rows (gf q) q (ring_lengths q m) f L

    agree : (i : ℕ) → wrong_at r w i ≡ false → get_or r i 0 ≡ get_or w i 0
    agree i e = eqb-true _ _ (not-false (eqb (get_or r i 0) (get_or w i 0)) e)

    times_f_within : (L : List ℕ) → (ring_functions q size).has L → (ring_functions q size).has (times_f L)
    times_f_within L h = mul_rows_within (gf q) 𝓕 q two (ring_lengths q m) f L h

    times_f_at : (L : List ℕ) → (ring_functions q size).has L → (i : ℕ) → i < q * q * q
        → val_at q i (times_f L) ≡ times q (get_or w i 0) (val_at q i L)
    times_f_at L h i lt = word-times q size m f L i message.symbols h lt

    planted : (t : ℕ) × (t ≤ bound) × Any (Reaches (2 * q) (suc (2 * (m + t)))) lines
    planted =
        let (L, t, h, lead, le, zeros) = vanishing q size τ (omega arith) (wrong_at r w) near in
        let solves = solution_pair q size m r all (times_f L) L (times_f_within L h) h
        (λ i lt _. times_f_at L h i lt ∙ meets L i (zeros i lt) (wrong_at r w i) refl) in
        let leads = pair_lead (gf q) 𝓕 m (times_f L) L t (ring_below q size m order f L t lead.below) lead in
        (t, le, (ran_basis q size m r all).reached (pair (gf q) m (times_f L) L) _ solves leads)
      where
        gone : (i a : ℕ) (L : List ℕ) → val_at q i L ≡ 0 → times q a (val_at q i L) ≡ 0
        gone i a L z = ap (times q a) z ∙ times_zero (gf q) 𝓕 a

        meets : (L : List ℕ) (i : ℕ) → (wrong_at r w i ≡ true → val_at q i L ≡ 0) → (b : Bool) → wrong_at r w i ≡ b
            → times q (get_or w i 0) (val_at q i L) ≡ times q (get_or r i 0) (val_at q i L)
        meets L i z true e = gone i (get_or w i 0) L (z e) ∙ sym (gone i (get_or r i 0) L (z e))
        meets L i z false e = ap (λ (a : ℕ). times q a (val_at q i L)) (sym (agree i e))

    module _ (e : Entry ℕ) (first : least_of lines ≡ some e) where
      abbrev v : List ℕ
      v = e.vec

      abbrev N : List ℕ
      N = evens v

      abbrev L : List ℕ
      L = odds m v

      led : Led (solutions q size m r all) e
      led = least_has lines e first (Led (solutions q size m r all)) (ran_basis q size m r all).led

      low : e.lead ≤ suc (2 * (m + bound))
      low =
          let (t, le, reached) = planted in
          let (x, (lower, (k, at_x))) = any_all _ _ lines (least_lowest lines e first) reached in
          omega arith

      below : Below (gf q) v (suc (suc (2 * (bound + m))))
      below p le = led.leads.below p (omega (arith, low))

      solves : Solution q size m r all v
      solves = solution_values q size m r all v led.within

      N-within : (ring_functions q size).has N
      N-within = evens_within (gf q) 𝓕 q two m v solves.within

      N-below : Below (gf q) N (suc (bound + m))
      N-below = evens_below (gf q) 𝓕 v (bound + m) below

      L-within : (ring_functions q size).has L
      L-within = odds_within (gf q) 𝓕 q two m v solves.within

      L-below : Below (gf q) L (suc bound)
      L-below = odds_below (gf q) 𝓕 m v bound below

      L-at : (i : ℕ) → (condition_l q m i).of v ≡ val_at q i L
      L-at i = form_l_value (gf q) 𝓕 q two m (point q i).0 (point q i).1 v solves.within

      N-product : (i : ℕ) → i < q * q * q → val_at q i N ≡ times q (get_or w i 0) (val_at q i L)
      N-product i lt =
          same_function q size N (times_f L) (bound + m) N-within (times_f_within L L-within) N-below
          (ring_below q size m order f L bound L-below) (wrong_at r w) there (omega arith) i ∙ times_f_at L L-within i lt
        where
          there : (k : ℕ) → k < q * q * q → wrong_at r w k ≡ false → val_at q k N ≡ val_at q k (times_f L)
          there k lk right =
              solves.meets k lk refl ∙ ap (λ (a : ℕ). times q a (val_at q k L)) (agree k right) ∙ sym (times_f_at L L-within k lk)

      some_L : Zero (gf q) L → ⊥
      some_L z =
          let none-N = zero_function q size N (bound + m) N-within N-below (wrong_at r w) (λ k lk _. gone k lk) (omega arith) in
          led.leads.nonzero (at_zero (gf q) 𝓕 v (zero_pair (gf q) 𝓕 q two m v solves.within none-N z) e.lead)
        where
          gone : (k : ℕ) → k < q * q * q → val_at q k N ≡ 0
          gone k lk = N-product k lk ∙ ap (times q (get_or w k 0)) (val-zero q size L k z) ∙ times_zero (gf q) 𝓕 (get_or w k 0)

      few : total (flags_from (zero_at q L) 0 (q * q * q)) ≤ bound
      few = go (lead_or_zero (gf q) 𝓕 L)
        where
          go : Zero (gf q) L ⊎ ((t : ℕ) × Lead (gf q) L t) → total (flags_from (zero_at q L) 0 (q * q * q)) ≤ bound
          go (inl z) = absurd (some_L z)
          go (inr (t, lead)) =
              omega (arith, zeros-flagged q size L t L-within lead, lead_below (gf q) 𝓕 L t (suc bound) lead L-below)

      right : (i : ℕ) → i < q * q * q → (val_at q i L ≡ 0 → ⊥) → get_or r i 0 ≡ get_or w i 0
      right i lt nonzero =
          times_cancel (gf q) 𝓕 (val_in q size L i) (at_in (gf q) 𝓕 r received.symbols i)
          (at_in (gf q) 𝓕 w (word_ring q m size order message).symbols i) nonzero
          (times_comm (gf q) 𝓕 (val_at q i L) (get_or r i 0) ∙ sym (solves.meets i lt refl) ∙ N-product i lt
          ∙ times_comm (gf q) 𝓕 (get_or w i 0) (val_at q i L))

      line_usable : Usable q m r w (used_by q m (some e))
      unfolding used_by
      line_usable = record {
        right = λ i lt u. right i lt (λ z. true≢false (sym u ∙ ap not (eq-eqb _ 0 (L-at i ∙ z))));
        many = omega (arith, few, ap total (flags_same _ (zero_at q L) (q * q * q) unused));
      }
        where
          not-not : (b : Bool) → not (not b) ≡ b
          not-not true = refl
          not-not false = refl

          unused : (i : ℕ) → i < q * q * q → not (not (eqb ((condition_l q m i).of v) 0)) ≡ zero_at q L i
          unused i lt = not-not (eqb ((condition_l q m i).of v) 0) ∙ ap (λ (a : ℕ). eqb a 0) (L-at i)

    pub used_usable : Usable q m r w (used q m r)
    unfolding used
    used_usable = go (least_of lines) refl
      where
        go : (o : Option (Entry ℕ)) → least_of lines ≡ o → Usable q m r w (used_by q m o)
        go none e = absurd (least_found lines _ planted.2 e)
        go (some x) e = line_usable x e

    pub complete : answer q m r ≡ w
    unfolding answer second_run
    complete = answer_word q size m order r received f message (used q m r) used_usable

module _ (q : ℕ) (size : bad_size q ≡ false) (m : ℕ) (order : bad_order q m ≡ false) (r : List ℕ) (received : IsRing q r)
    (τ : ℕ) (room : ¬ (q * q * q < m + 1 + genus q + 2 * τ))
  where
    pub near_answer : {w : List ℕ} → RingWord q m w → wrong_symbols q r w ≤ τ → answer q m r ≡ w
    near_answer (f, message, e) near = complete q size m order r received τ room f message (rw e near) ∙ e

    -- whatever is received, the answer is a ring
    pub answer_ring : IsRing q (answer q m r)
    unfolding answer answer_by
    answer_ring = lines (second_run q m r)
      where
        𝓕 : Field (gf q)
        𝓕 = ring_field q size

        mapped : (f : ℕ → ℕ) → ((i : ℕ) → IsSymbol q (f i)) → (xs : List ℕ) → All (IsSymbol q) (map f xs)
        mapped f h [] = tt
        mapped f h (x ∷ xs) = (h x, mapped f h xs)

        lines : (es : List (Entry ℕ)) → IsRing q (answer_by q m r es)
        lines [] = received
        lines (e ∷ es) = record {
          count = length-map (numbers (q * q * q)) _ ∙ length-numbers (q * q * q);
          symbols = mapped _ (λ i. 𝓕.plus_in _ _ (at_in (gf q) 𝓕 r received.symbols i) (dot_in (gf q) 𝓕 _ 0 e.vec))
              (numbers (q * q * q));
        }

    pub unique_near : {v w : List ℕ} → RingWord q m v → RingWord q m w → wrong_symbols q r v ≤ τ → wrong_symbols q r w ≤ τ → v ≡ w
    unique_near hv hw nv nw = sym (near_answer hv nv) ∙ near_answer hw nw
