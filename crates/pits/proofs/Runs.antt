-- The runs over the points that are flagged, and the answer, as the table has them.
--
--   ran_same         tests that agree at the points make the same run
--   ran_holds        after a run the table holds the model's
--   least_entry      a line of least lead holds the entry that the model takes
--   weights_used     its L is not zero at the points that the model uses
--   answer_over_lem      the received symbols plus the first line are the answer
--   answer_is        which is the model's, if the flags are those of the points that it uses
-- Assumes nothing.
use mathlib.Core.Path.{◌≡◌, refl, sym, ap, ap₂, ◌∙◌}
use mathlib.Core.Bool.{Bool, true, false, not, cond}
use mathlib.Core.List.{List, [], ◌∷◌, ◌++◌, map, map-append}
use mathlib.Core.Logic.{inl}
use mathlib.Core.Option.{Option, none, some}
use Prim.Native.Nat.{ℕ, zero, suc, ◌+◌, ◌*◌, ◌≤◌, ◌<◌}
use native.Mathlib.Nat.{zero-add}
use native.Mathlib.Decide.{ℕ_discrete}
use native.Mathlib.Omega.{arith}
use lib.Dec.{eqb}
use borrow.Author.Tests.{ne_eqb}
use lib.ListN.{length, get_or, length-map}
use lib.Seq.{ext_get_or}
use Rattle.patch.proofs.Laws.{length-patch, get_or-patch}
use Rattle.field.specs.Symbols.{plus}
use Rattle.field.specs.Arithmetic.{gf}
use Rattle.poly.specs.Poly.{All}
use Rattle.lists.specs.Working.Lists.{summed, summed_at}
use Rattle.codes.specs.Code.{up_from}
use Rattle.basis.proofs.Scan.{Any}
use Rattle.basis.proofs.Basis.{Form, Entry, run}
use Rattle.solver.proofs.Pivoted.{all_get}
use Rattle.hermitian.specs.Ring.{numbers, those, IsRing}
use Rattle.hermitian.specs.Checks.{bad_size}
use Rattle.hermitian.proofs.Numbers.{length-numbers, mapped_at}
use Rattle.hermitian.proofs.Sizes.{sides, tested}
use Rattle.curve.proofs.Pairs.{pair_starts}
use Rattle.curve.proofs.Model.{condition_d, condition_l, ring_pairs, turns, ran, least_of, least_found, least_has, least_lowest}
use Rattle.curve.proofs.Model.{used_by, used, second_run, answer_by, answer}
use Rattle.pits.specs.Working.Table.{Least}
use Rattle.pits.specs.Working.Table as Table
use Rattle.pits.specs.Working.Holds.{blank, Valued, Holds, chosen_by, chosen}
use Rattle.pits.specs.Working.Rings.{forms, flagged, Weighs, answer_over}
use Rattle.pits.proofs.Held.{run_holds, least_held, all_by}
use Rattle.pits.proofs.Forms.{forms-count, form_D, form_L}

-- ---- The points at which a test holds.

those-append : (f : ℕ → Bool) (u w : List ℕ) → those f (u ++ w) ≡ those f u ++ those f w
unfolding those
those-append f [] w = refl
those-append f (i ∷ u) w = go (f i) (those-append f u w)
  where
    go : (b : Bool) → those f (u ++ w) ≡ those f u ++ those f w
        → cond b (i ∷ those f (u ++ w)) (those f (u ++ w)) ≡ cond b (i ∷ those f u) (those f u) ++ those f w
    go true e = ap (◌∷◌ i) e
    go false e = e

those_same : (f g : ℕ → Bool) (i n : ℕ) → ((k : ℕ) → k < i + n → f k ≡ g k) → those f (up_from i n) ≡ those g (up_from i n)
unfolding those up_from
those_same f g i zero h = refl
those_same f g i (suc n) h =
    ap₂ (λ (b : Bool) (l : List ℕ). cond b (i ∷ l) l) (h i (omega arith)) (those_same f g (suc i) n (λ k lt. h k (omega arith)))

up_from_more : (i n k : ℕ) → k ≡ i + n → up_from i (suc n) ≡ up_from i n ++ (k ∷ [])
unfolding up_from
up_from_more i zero k e = let same : k ≡ i = omega arith in rw same refl
up_from_more i (suc n) k e = ap (◌∷◌ i) (up_from_more (suc i) n k (omega arith))

pub ran_same : (q m : ℕ) (r : List ℕ) (f g : ℕ → Bool) → ((i : ℕ) → i < q * q * q → f i ≡ g i) → ran q m r f ≡ ran q m r g
unfolding ran turns
ran_same q m r f g h =
    ap (λ (l : List ℕ). run (gf q) ℕ_discrete (2 * q) (map (condition_d q m r) l) (pair_starts (gf q) q m))
    (those_same f g 0 (q * q * q) (λ k lt. h k (omega arith)))

module _ (q m : ℕ) (r us : List ℕ) where
  chosen_one : (i : ℕ) (t : Dec (get_or us i 0 ≡ 0)) → i < q * q * q
      → chosen_by (forms q m r) us i t ≡ map (condition_d q m r) (those (flagged us) (i ∷ []))
  unfolding chosen_by those flagged
  chosen_one i (yes z) lt = rw z refl
  chosen_one i (no z) lt = rw (ne_eqb (get_or us i 0) 0 z) (ap (λ (C : Form ℕ). C ∷ []) (form_D q m r i lt))

  chosen-those : (n : ℕ) → n ≤ q * q * q → chosen (forms q m r) us n ≡ map (condition_d q m r) (those (flagged us) (up_from 0 n))
  unfolding chosen
  chosen-those zero le = unfold those up_from in refl
  chosen-those (suc n) le =
      ap₂ ◌++◌ (chosen-those n (omega arith)) (chosen_one n (ℕ_discrete (get_or us n 0) 0) (omega arith))
      ∙ sym (map-append (condition_d q m r) (those (flagged us) (up_from 0 n)) (those (flagged us) (n ∷ [])))
      ∙ ap (map (condition_d q m r)) (sym (those-append (flagged us) (up_from 0 n) (n ∷ []))
      ∙ ap (those (flagged us)) (sym (up_from_more 0 n n (omega arith))))

  pub ran_holds : (size : bad_size q ≡ false) (xs leads l : List ℕ) → Valued q (ring_pairs q size m) (forms q m r) xs → length us ≡ q * q * q
      → Holds q (ring_pairs q size m) (forms q m r) (pair_starts (gf q) q m) leads l → {σ : List ℕ × List ℕ}
      → σ ≡ Table.ran q xs (2 * q) us (length us) (leads, l)
      → Holds q (ring_pairs q size m) (forms q m r) (ran q m r (flagged us)) σ.0 σ.1
  unfolding ran turns
  ran_holds size xs leads l valued count h e =
      rw (← (chosen-those (q * q * q) (omega arith)))
      (run_holds q (tested q size).degree (omega (arith, (sides q q size refl).side)) (ring_pairs q size m) (forms q m r) xs valued us
      (pair_starts (gf q) q m) (leads, l) h (q * q * q) (omega (arith, forms-count q m r))
      (e ∙ ap (λ (k : ℕ). Table.ran q xs (2 * q) us k (leads, l)) count))

-- ---- The line of least lead, and the answer.

module _ (q m : ℕ) (r : List ℕ) (size : bad_size q ≡ false) (es : List (Entry ℕ)) (leads l : List ℕ)
    (h : Holds q (ring_pairs q size m) (forms q m r) es leads l)
  where
    abbrev n : ℕ
    n = q * q * q

    slot_D : (j i : ℕ) → j < 2 * q → i < n → get_or l ((n + n) * j + i) 0 ≡ (condition_d q m r i).of (get_or es j blank).vec
    slot_D j i lj li = rw (forms-count q m r, form_D q m r i li) at ((h.each j lj).values i (omega (arith, forms-count q m r)))

    slot_L : (j i : ℕ) → j < 2 * q → i < n → get_or l ((n + n) * j + (n + i)) 0 ≡ (condition_l q m i).of (get_or es j blank).vec
    slot_L j i lj li = rw (forms-count q m r, form_L q m r i li) at ((h.each j lj).values (n + i) (omega (arith, forms-count q m r)))

    some_line : 0 < 2 * q
    some_line = omega (arith, (sides q q size refl).some)

    some_entry : Any (λ (e : Entry ℕ). Unit {0}) es
    some_entry = go es h.count
      where
        go : (es : List (Entry ℕ)) → length es ≡ 2 * q → Any (λ (e : Entry ℕ). Unit {0}) es
        go [] e = absurd (omega (arith, some_line, e))
        go (e ∷ es) c = inl tt

    least_entry : (p : ℕ) → Least leads (2 * q) p → least_of es ≡ some (get_or es p blank)
    least_entry p least = go (least_of es) refl
      where
        Numbered : Entry ℕ → Type 0
        Numbered g = (k : ℕ) × ((k < 2 * q) × (g ≡ get_or es k blank))

        same : (g : Entry ℕ) (k : ℕ) → k < 2 * q → g ≡ get_or es k blank → g.lead ≤ (get_or es p blank).lead
            → (get_or es p blank).lead ≤ g.lead → Dec (k ≡ p) → g ≡ get_or es p blank
        same g k lk e le ge (yes s) = e ∙ ap (λ (j : ℕ). get_or es j blank) s
        same g k lk e le ge (no other) =
            let here : get_or leads k 0 ≡ g.lead = (h.each k lk).leading ∙ ap (λ (f : Entry ℕ). f.lead) (sym e) in
            let there = (h.each p least.below).leading in
            absurd (h.apart k p lk least.below other 0 0 (omega (arith, here, there)))

        all-at : (P : Entry ℕ → Type 0) → All P es → (k : ℕ) → k < 2 * q → P (get_or es k blank)
        all-at P a k lk = all_get P es blank k (omega (arith, h.count)) a

        go : (o : Option (Entry ℕ)) → least_of es ≡ o → o ≡ some (get_or es p blank)
        go none e = absurd (least_found es (λ (e : Entry ℕ). Unit {0}) some_entry e)
        go (some g) e =
            let (k, (lk, at-k)) = least_has es g e Numbered (all_by Numbered es blank (λ j lj. (j, (omega (arith, h.count), refl)))) in
            ap some (same g k lk at-k (all-at (λ (f : Entry ℕ). g.lead ≤ f.lead) (least_lowest es g e) p least.below)
            (rw (← at-k) at (all-at (λ (f : Entry ℕ). (get_or es p blank).lead ≤ f.lead)
            (least_held q (ring_pairs q size m) (forms q m r) es leads l p h least) k lk)) (ℕ_discrete k p))

    pub weights_used : (p : ℕ) → Least leads (2 * q) p → (w : List ℕ)
        → ((i : ℕ) → i < q * q * q → get_or w i 0 ≡ get_or l ((q * q * q + q * q * q) * p + (q * q * q + i)) 0)
        → (i : ℕ) → i < q * q * q → flagged w i ≡ used_by q m (least_of es) i
    unfolding flagged used_by
    weights_used p least w at i lt =
        rw (least_entry p least) (ap (λ (a : ℕ). not (eqb a 0)) (at i lt ∙ slot_L p i least.below lt))

    -- what is left in the end
    pub answer_over_lem : IsRing q r → (w : List ℕ) {s : List ℕ} → length w ≡ q * q * q
        → ((i : ℕ) → i < q * q * q → get_or w i 0 ≡ get_or l i 0) → s ≡ summed_at w r 0 → s ≡ answer_by q m r es
    unfolding answer_by
    answer_over_lem ring w {s} count front e = go es h.count refl
      where
        long : length s ≡ n
        long = ap length e ∙ length-patch 0 _ r (length w) ∙ ring.count

        at : (i : ℕ) → i < n → get_or s i 0 ≡ plus (get_or r i 0) ((condition_d q m r i).of (get_or es 0 blank).vec)
        at i lt =
            ap (λ (u : List ℕ). get_or u i 0) e
            ∙ rw zero-add at (get_or-patch 0 (summed w r 0) r (length w) i 0 (omega (arith, count)) (omega (arith, count, ring.count)))
            ∙ unfold summed in ap₂ plus (ap (λ (k : ℕ). get_or r k 0) (zero-add i))
            (front i lt ∙ ap (λ (k : ℕ). get_or l k 0) (omega arith) ∙ slot_D 0 i some_line lt)

        go : (fs : List (Entry ℕ)) → length fs ≡ 2 * q → es ≡ fs → s ≡ answer_by q m r fs
        go [] c same = absurd (omega (arith, some_line, c))
        go (f ∷ fs) c same =
            ext_get_or 0 s _ (long ∙ sym (length-map (numbers n) _ ∙ length-numbers n))
            (λ i lt. at i (omega (arith, long))
            ∙ ap (λ (gs : List (Entry ℕ)). plus (get_or r i 0) ((condition_d q m r i).of (get_or gs 0 blank).vec)) same
            ∙ sym (mapped_at _ n i (omega (arith, long))))

pub answer_is : (q m : ℕ) (r us : List ℕ) → Weighs q m r us → answer_over q m r us ≡ answer q m r
unfolding answer_over answer second_run
answer_is q m r us h = ap (answer_by q m r) (ran_same q m r (flagged us) (used q m r) h)
