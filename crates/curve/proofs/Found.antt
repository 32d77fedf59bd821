-- A run over points at which the received symbols are right, all but few of the ring, finds the word.
--
--   Usable q m r w g    r and w have the same symbols wherever g holds, which is at all points but fewer than q³ − m
--   word_reached        the lines of a run over usable points reach the pair of the message's function and one
--   L-one, N-word       a line with the lead of that pair has L = 1, and for N the function of the message
--   answer_word         so the run's answer is the word
-- Assumes nothing.
use mathlib.Core.Path.{◌≡◌, refl, sym, ◌∙◌, ap, ap₂}
use mathlib.Core.Bool.{Bool, true, false, not}
use mathlib.Core.List.{List, ◌∷◌, map}
use Prim.Native.Nat.{ℕ, zero, suc, ◌+◌, ◌*◌, ◌<◌}
use native.Mathlib.Omega.{arith}
use lib.ListN.{length, get_or, length-map}
use lib.Seq.{ext_get_or}
use borrow.Author.Tests.{not-false}
use Rattle.field.specs.Arithmetic.{gf}
use Rattle.field.specs.Symbols.{plus, times}
use Rattle.field.proofs.Laws.{Field}
use Rattle.poly.proofs.Ring.{plus_comm, plus-plus, times_one}
use Rattle.codes.specs.Code.{total, flags_from, IsMessage}
use Rattle.basis.proofs.Vector.{at, Below, at_in}
use Rattle.basis.proofs.Scan.{Any}
use Rattle.basis.proofs.Basis.{Entry, Led, Reaches}
use Rattle.basis.proofs.Placed.{dot_at}
use Rattle.hermitian.specs.Ring.{numbers, ring_code, ring_word, IsRing}
use Rattle.hermitian.specs.Checks.{bad_size, bad_order}
use Rattle.hermitian.proofs.Numbers.{length-numbers, mapped_at}
use Rattle.hermitian.proofs.Rings.{ring_field}
use Rattle.hermitian.proofs.Words.{word_ring}
use Rattle.curve.proofs.Orders.{unit, unit_lead, unit_here, one_within, val-one}
use Rattle.curve.proofs.Alive.{ring_side}
use Rattle.curve.proofs.Zeros.{point, val_at, same_function}
use Rattle.curve.proofs.Products.{function_of, function_within, function_below, word_at}
use Rattle.curve.proofs.Pairs.{pair, pair_lead, evens, odds, evens_within, evens_below, odds_below, at_odds, place_l, form_d_value}
use Rattle.curve.proofs.Kept.{Monic}
use Rattle.curve.proofs.Model.{condition_d, ran, answer_by, solutions, solution_pair, Solution, solution_values}
use Rattle.curve.proofs.Model.{ran_basis, ran_monic, ran_first}

pub record Usable (q m : ℕ) (r w : List ℕ) (g : ℕ → Bool) : Type 0 where
  pub right : (i : ℕ) → i < q * q * q → g i ≡ true → get_or r i 0 ≡ get_or w i 0
  pub many : m + total (flags_from (λ i. not (g i)) 0 (q * q * q)) < q * q * q

module _ (q : ℕ) (size : bad_size q ≡ false) (m : ℕ) (order : bad_order q m ≡ false) (r : List ℕ) (received : IsRing q r)
    (f : List ℕ) (message : IsMessage (ring_code q m) f) (g : ℕ → Bool) (usable : Usable q m r (ring_word q m f) g)
  where
    abbrev 𝓕 : Field (gf q)
    𝓕 = ring_field q size

    abbrev two : 1 < q
    two = ring_side q size

    abbrev w : List ℕ
    w = ring_word q m f

    abbrev F : List ℕ
    F = function_of q m f

    word_value : (i : ℕ) → i < q * q * q → get_or w i 0 ≡ val_at q i F
    word_value i lt = word_at q size m f i message.symbols lt

    one_at : (i : ℕ) → val_at q i (unit (gf q) 0) ≡ 1
    one_at i = val-one (gf q) 𝓕 q two (point q i).0 (point q i).1

    received_times : (i : ℕ) (v : List ℕ) → val_at q i v ≡ 1 → times q (get_or r i 0) (val_at q i v) ≡ get_or r i 0
    received_times i v e = ap (times q (get_or r i 0)) e ∙ times_one (gf q) 𝓕 (at_in (gf q) 𝓕 r received.symbols i)

    word_solves : (solutions q size m r g).has (pair (gf q) m F (unit (gf q) 0))
    word_solves =
        solution_pair q size m r g F (unit (gf q) 0) (function_within q size m f) (one_within (gf q) 𝓕 q two)
        (λ i lt e. sym (word_value i lt) ∙ sym (usable.right i lt e) ∙ sym (received_times i (unit (gf q) 0) (one_at i)))

    word_reached : Any (Reaches (2 * q) (place_l q m 0)) (ran q m r g)
    word_reached =
        let e : suc (2 * (m + 0)) ≡ place_l q m 0 = omega arith in
        let low : Below (gf q) F (suc (0 + m)) = λ p le. function_below q size m order f p (omega arith) in
        let lead = pair_lead (gf q) 𝓕 m F (unit (gf q) 0) 0 low (unit_lead (gf q) 𝓕 0) in
        (ran_basis q size m r g).reached _ (place_l q m 0) word_solves (rw e at lead)

    module _ (e : Entry ℕ) (led : Led (solutions q size m r g) e) (monic : Monic (gf q) e) (lead : e.lead ≡ place_l q m 0) where
      abbrev v : List ℕ
      v = e.vec

      solves : Solution q size m r g v
      solves = solution_values q size m r g v led.within

      low : Below (gf q) v (suc (suc (2 * (0 + m))))
      low p le = led.leads.below p (omega arith)

      L-one : (i : ℕ) → val_at q i (odds m v) ≡ 1
      L-one i = dot_at (gf q) 𝓕 _ 0 (odds m v) (unit (gf q) 0) same ∙ one_at i
        where
          same : (k : ℕ) → at (gf q) (odds m v) k ≡ at (gf q) (unit (gf q) 0) k
          same zero =
              let here : e.lead ≡ suc (2 * (m + 0)) = omega arith in
              at_odds (gf q) 𝓕 m v 0 _ refl ∙ rw here at monic ∙ sym (unit_here (gf q) 𝓕 0)
          same (suc k) =
              odds_below (gf q) 𝓕 m v 0 low (suc k) (omega arith) ∙ sym ((unit_lead (gf q) 𝓕 0).below (suc k) (omega arith))

      N-word : (i : ℕ) → val_at q i (evens v) ≡ val_at q i F
      N-word =
          same_function q size (evens v) F m (evens_within (gf q) 𝓕 q two m v solves.within) (function_within q size m f)
          (evens_below (gf q) 𝓕 v m (λ p le. low p (omega arith))) (function_below q size m order f) (λ i. not (g i))
          (λ i lt e. there i lt (not-false (g i) e)) usable.many
        where
          there : (i : ℕ) → i < q * q * q → g i ≡ true → val_at q i (evens v) ≡ val_at q i F
          there i lt here =
              solves.meets i lt here ∙ received_times i (odds m v) (L-one i) ∙ usable.right i lt here ∙ word_value i lt

      line_word : (i : ℕ) → i < q * q * q → plus (get_or r i 0) ((condition_d q m r i).of v) ≡ get_or w i 0
      line_word i lt =
          ap (plus (get_or r i 0)) (form_d_value (gf q) 𝓕 q two m (point q i).0 (point q i).1 v solves.within (get_or r i 0)
          ∙ ap₂ plus (N-word i ∙ sym (word_value i lt)) (received_times i (odds m v) (L-one i))
          ∙ plus_comm (gf q) 𝓕 (get_or w i 0) (get_or r i 0))
          ∙ plus-plus (gf q) 𝓕 (get_or r i 0) (get_or w i 0)

    pub answer_word : answer_by q m r (ran q m r g) ≡ w
    answer_word = go (ran_first q size m r g word_reached)
      where
        go : (e : Entry ℕ) × (rest : List (Entry ℕ)) × (ran q m r g ≡ e ∷ rest) × (e.lead ≡ place_l q m 0)
            → answer_by q m r (ran q m r g) ≡ w
        go (e, rest, first, lead) =
            ap (answer_by q m r) first ∙ unfold answer_by in
            ext_get_or 0 _ w (count ∙ sym (word_ring q m size order message).count)
            (λ i lt.
            let inside : i < q * q * q = omega (arith, count) in
            mapped_at symbol_at (q * q * q) i inside ∙ line_word e led monic lead i inside)
          where
            symbol_at : ℕ → ℕ
            symbol_at i = plus (get_or r i 0) ((condition_d q m r i).of e.vec)

            count : length (map symbol_at (numbers (q * q * q))) ≡ q * q * q
            count = length-map (numbers (q * q * q)) symbol_at ∙ length-numbers (q * q * q)

            led : Led (solutions q size m r g) e
            led = (rw first at (ran_basis q size m r g).led).0

            monic : Monic (gf q) e
            monic = (rw first at (ran_monic q size m r g)).0
