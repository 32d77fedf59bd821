-- The table at the start holds the start of pairs.
--
--   line_L_in, line_N_in    the first line of L, and that of N, have symbols
--   lines_room       there is room for all lines
--   leads_made, start_made  what the functions make of the leads and of the slots
--   length_start, start_long    the table is as long as before
--   leads_long, leads_low   so are the leads, and they are low
--   start_holds      it holds the start
-- Assumes nothing.
use mathlib.Core.Path.{◌≡◌, refl, sym, ap, ap₂, ◌∙◌}
use mathlib.Core.Bool.{false}
use mathlib.Core.List.{List}
use Prim.Native.Nat.{ℕ, zero, suc, ◌+◌, ◌*◌, ◌^◌, ◌≤◌, ◌<◌}
use native.Mathlib.Nat.{zero-add, mul_left_comm, mul-suc, mul-le-mul_right}
use native.Mathlib.Omega.{arith}
use lib.ListN.{length, get_or, replicate, get_or-replicate}
use Rattle.patch.specs.Patch.{patch}
use Rattle.patch.proofs.Laws.{length-patch, get_or-patch, get_or-patch_below}
use Rattle.patch.proofs.Parts.{length-lay, get_or-lay, get_or-lay_above}
use Rattle.field.specs.Symbols.{times}
use Rattle.field.specs.Arithmetic.{gf}
use Rattle.field.proofs.Laws.{Field}
use Rattle.poly.proofs.Ring.{times_comm, times-left_comm, one_times, zero-times}
use Rattle.rows.proofs.Symbols.{symbol_at}
use Rattle.basis.proofs.Basis.{Led}
use Rattle.solver.proofs.Pivoted.{all_get}
use Rattle.hermitian.specs.Ring.{IsRing}
use Rattle.hermitian.specs.Checks.{bad_size, bad_order}
use Rattle.hermitian.proofs.Sizes.{sides, tested, each, room}
use Rattle.hermitian.proofs.Rings.{ring_field}
use Rattle.curve.proofs.Orders.{power, power_in}
use Rattle.curve.proofs.Alive.{ring_side}
use Rattle.curve.proofs.Zeros.{point}
use Rattle.curve.proofs.Pairs.{place_l, place_n, pair_starts, pair_basis}
use Rattle.curve.proofs.Model.{ring_pairs, D-of-L, D-of-N, L-of-L, L-of-N}
use Rattle.pits.specs.Working.Table.{Symbols, Low}
use Rattle.pits.specs.Working.Holds.{blank, nothing, Holds}
use Rattle.pits.specs.Working.Rings.{forms, Twice, grown, lines_laid, line_l, line_n, start_laid, leads_laid}
use Rattle.pits.proofs.Lines.{grown_next, length-lines, laid_other, laid_at}
use Rattle.pits.proofs.Forms.{by_half, forms-count, form_D, form_L, starts_count, start_at_L, start_at_N, places_apart}

-- ---- What the functions make.

pub leads_made : (q m : ℕ) (leads : List ℕ) {a b : List ℕ} → a ≡ patch 0 q (λ j. 2 * m + 1 + j * (2 * (q + 1))) leads
    → b ≡ patch q q (λ j. 0 + j * (2 * (q + 1))) a → b ≡ leads_laid q m leads
unfolding leads_laid
leads_made q m leads is e = e ∙ ap (λ (l : List ℕ). patch q q (λ j. 0 + j * (2 * (q + 1))) l) is

pub start_made : (q : ℕ) (ys r l : List ℕ) {w v l₁ l₂ : List ℕ} → w ≡ line_l r → l₁ ≡ lines_laid q ys w 0 q l → v ≡ line_n (length r)
    → l₂ ≡ lines_laid q ys v q q l₁ → l₂ ≡ start_laid q ys r l
unfolding start_laid
start_made q ys r l first lines-L second lines-N =
    lines-N
    ∙ ap₂ (λ (v l : List ℕ). lines_laid q ys v q q l) second (lines-L ∙ ap (λ (w : List ℕ). lines_laid q ys w 0 q l) first)

pub length_start : (q : ℕ) (ys r l : List ℕ) → length (start_laid q ys r l) ≡ length l
unfolding start_laid
length_start q ys r l = length-lines q ys _ q q _ ∙ length-lines q ys _ 0 q l

-- ---- The leads.

module _ (q m : ℕ) (leads : List ℕ) (long : length leads ≡ 8) (size : bad_size q ≡ false) (order : bad_order q m ≡ false) where
  few : q ≤ 4
  few = (sides q q size refl).side

  pub leads_long : length (leads_laid q m leads) ≡ 8
  unfolding leads_laid
  leads_long = length-patch q _ _ q ∙ length-patch 0 _ leads q ∙ long

  product : (j : ℕ) → j * (2 * (q + 1)) ≡ 2 * (j * q + j)
  product j = mul_left_comm j 2 (q + 1) ∙ ap (λ (k : ℕ). 2 * k) (omega (arith, mul-suc j q))

  lead_L : (j : ℕ) → j < q → get_or (leads_laid q m leads) j 0 ≡ place_l q m j
  unfolding leads_laid
  lead_L j lt =
      get_or-patch_below q _ _ q j 0 lt
      ∙ ap (λ (k : ℕ). get_or (patch 0 q (λ j. 2 * m + 1 + j * (2 * (q + 1))) leads) k 0) (sym (zero-add j))
      ∙ get_or-patch 0 _ leads q j 0 lt (omega (arith, few, long)) ∙ rw zero-add (omega (arith, product j))

  lead_N : (j : ℕ) → j < q → get_or (leads_laid q m leads) (q + j) 0 ≡ place_n q j
  unfolding leads_laid
  lead_N j lt =
      get_or-patch q _ _ q j 0 lt (omega (arith, few, long, length-patch 0 (λ j. 2 * m + 1 + j * (2 * (q + 1))) leads q))
      ∙ rw zero-add (omega (arith, product j))

  pub leads_low : Low (2 * q) 4096 (leads_laid q m leads)
  leads_low j lt = by_half (λ j. get_or (leads_laid q m leads) j 0 ≤ 4096) q
      (λ j lj. rw (lead_L j lj, zero-add) (omega (arith, small j lj, low)))
      (λ j lj. rw (lead_N j lj, zero-add) (omega (arith, small j lj)))
      j (omega arith)
    where
      low : m ≤ 63
      low = (room q m 0 size order (sides q q size refl).some).most

      small : (j : ℕ) → j < q → j * q + j ≤ 20
      small j lj = let le : j ≤ 4 = omega (arith, few) in omega (arith, mul-le-mul_right q le, few)

-- ---- The lines.

module _ (q : ℕ) (size : bad_size q ≡ false) (r : List ℕ) (ring : IsRing q r) where
  abbrev 𝓕 : Field (gf q)
  𝓕 = ring_field q size

  most : q * q * q ≤ 64
  most = (sides q q size refl).most

  pub lines_room : (q * q * q + q * q * q) * (q + q) ≤ 1024
  lines_room = each (λ q. (q * q * q + q * q * q) * (q + q) ≤ 1024) q size (omega arith) (omega arith)

  module _ (i : ℕ) (lt : i < q * q * q) where
    L-front : get_or (line_l r) i 0 ≡ get_or r i 0
    L-front = rw zero-add at (get_or-lay 0 r (replicate 128 1) i (omega (arith, ring.count)) (omega (arith, ring.count, most)))

    L-back : get_or (line_l r) (q * q * q + i) 0 ≡ 1
    L-back =
        get_or-lay_above 0 r (replicate 128 1) (q * q * q + i) (omega (arith, ring.count))
        ∙ get_or-replicate 128 (q * q * q + i) 1 0 (omega (arith, most))

    N-front : get_or (line_n (length r)) i 0 ≡ 1
    N-front =
        get_or-patch_below (length r) _ (replicate 128 1) (length r) i 0 (omega (arith, ring.count))
        ∙ get_or-replicate 128 i 1 0 (omega (arith, most))

    N-back : get_or (line_n (length r)) (q * q * q + i) 0 ≡ 0
    N-back = rw (← ring.count)
        (get_or-patch (length r) _ (replicate 128 1) (length r) i 0 (omega (arith, ring.count)) (omega (arith, ring.count, most)))

  L-long : length (line_l r) ≡ 128
  L-long = length-lay 0 r (replicate 128 1)

  N-long : length (line_n (length r)) ≡ 128
  N-long = length-patch (length r) _ (replicate 128 1) (length r)

  module _ (ys : List ℕ) (wide : length ys ≡ q * q * q + q * q * q) where
    pub line_L_in : Symbols q (length ys) (line_l r)
    line_L_in i lt = by_half (λ i. get_or (line_l r) i 0 < 2 ^ q) (q * q * q)
        (λ i lt. rw (L-front i lt) (symbol_at q r i ring.symbols (omega (arith, ring.count))))
        (λ i lt. rw (L-back i lt) 𝓕.one_in) i (omega (arith, wide))

    pub line_N_in : Symbols q (length ys) (line_n (length r))
    line_N_in i lt = by_half (λ i. get_or (line_n (length r)) i 0 < 2 ^ q) (q * q * q)
        (λ i lt. rw (N-front i lt) 𝓕.one_in)
        (λ i lt. rw (N-back i lt) 𝓕.zero_in) i (omega (arith, wide))

    -- the symbols of a line are multiplied by powers
    grown-power : (w : List ℕ) → length ys ≤ length w → (i : ℕ) → i < length ys → get_or w i 0 < 2 ^ q → (j : ℕ)
        → get_or (grown q ys w j) i 0 ≡ times q (get_or w i 0) (power (gf q) (get_or ys i 0) j)
    unfolding power
    grown-power w enough i lt small zero =
        unfold grown in sym (times_comm (gf q) 𝓕 (get_or w i 0) 1 ∙ one_times (gf q) 𝓕 small)
    grown-power w enough i lt small (suc j) =
        grown_next q ys w (tested q size).degree enough j i lt
        ∙ ap (times q (get_or ys i 0)) (grown-power w enough i lt small j)
        ∙ times-left_comm (gf q) 𝓕 (get_or ys i 0) (get_or w i 0) (power (gf q) (get_or ys i 0) j)

    module _ (l : List ℕ) (long : length l ≡ 1024) where
      abbrev begun : List ℕ
      begun = start_laid q ys r l

      pub start_long : length (start_laid q ys r l) ≡ 1024
      start_long = length_start q ys r l ∙ long

      wide_L : length ys ≤ length (line_l r)
      wide_L = omega (arith, wide, most, L-long)

      wide_N : length ys ≤ length (line_n (length r))
      wide_N = omega (arith, wide, most, N-long)

      room_all : length ys * (q + q) ≤ 1024
      room_all = rw wide lines_room

      slot_L : (j i : ℕ) → j < q → i < length ys → get_or begun (length ys * j + i) 0
          ≡ times q (get_or (line_l r) i 0) (power (gf q) (get_or ys i 0) j)
      unfolding start_laid
      slot_L j i lj li =
          laid_other q ys (line_n (length r)) q wide_N q _ j i (λ k lk e. omega arith) li
          ∙ ap (λ (k : ℕ). get_or (lines_laid q ys (line_l r) 0 q l) (length ys * k + i) 0) (sym (zero-add j))
          ∙ laid_at q ys (line_l r) 0 wide_L q l j i lj li
          (omega (arith, room_all, long, mul-le-mul_right (length ys) (less), zero-add q))
          ∙ grown-power (line_l r) wide_L i li (line_L_in i li) j
        where
          less : q ≤ q + q
          less = omega arith

      slot_N : (j i : ℕ) → j < q → i < length ys → get_or begun (length ys * (q + j) + i) 0
          ≡ times q (get_or (line_n (length r)) i 0) (power (gf q) (get_or ys i 0) j)
      unfolding start_laid
      slot_N j i lj li =
          laid_at q ys (line_n (length r)) q wide_N q _ j i lj li (omega (arith, room_all, long, length-lines q ys (line_l r) 0 q l))
          ∙ grown-power (line_n (length r)) wide_N i li (line_N_in i li) j

      module _ (up : Twice (q * q * q) (λ i. (point q i).1) ys) (m : ℕ) where
        abbrev n : ℕ
        n = q * q * q

        abbrev Slot : ℕ → ℕ → Type 0
        Slot j i = get_or begun (length ys * j + i) 0 ≡ (get_or (forms q m r) i nothing).of (get_or (pair_starts (gf q) q m) j blank).vec

        module _ (j : ℕ) (lj : j < q) where
          abbrev y^j : ℕ → ℕ
          y^j i = power (gf q) (point q i).1 j

          one_of : (i a b : ℕ) → a ≡ 1 → b ≡ (point q i).1 → times q a (power (gf q) b j) ≡ y^j i
          one_of i a b ea eb = rw (ea, eb) (one_times (gf q) 𝓕 (power_in (gf q) 𝓕 (point q i).1 j))

          L-slots : (i : ℕ) → i < n + n → Slot j i
          L-slots = by_half (Slot j) n
              (λ i lt. rw (form_D q m r i lt, start_at_L q m j lj) (slot_L j i lj (omega (arith, wide))
              ∙ ap₂ (λ (a b : ℕ). times q a (power (gf q) b j)) (L-front i lt) (up.first i lt) ∙ sym (D-of-L q size m i j lj r)))
              (λ i lt. rw (form_L q m r i lt, start_at_L q m j lj) (slot_L j (n + i) lj (omega (arith, wide))
              ∙ one_of i _ _ (L-back i lt) (up.second i lt) ∙ sym (L-of-L q size m i j lj)))

          N-slots : (i : ℕ) → i < n + n → Slot (q + j) i
          N-slots = by_half (Slot (q + j)) n
              (λ i lt. rw (form_D q m r i lt, start_at_N q m j lj) (slot_N j i lj (omega (arith, wide))
              ∙ one_of i _ _ (N-front i lt) (up.first i lt) ∙ sym (D-of-N q size m i j lj r)))
              (λ i lt. rw (form_L q m r i lt, start_at_N q m j lj) (slot_N j (n + i) lj (omega (arith, wide))
              ∙ ap (λ (a : ℕ). times q a (power (gf q) (get_or ys (n + i) 0) j)) (N-back i lt) ∙ zero-times (gf q) 𝓕 _
              ∙ sym (L-of-N q size m i j lj)))

        module _ (order : bad_order q m ≡ false) (leads : List ℕ) (eight : length leads ≡ 8) where
          abbrev leads₂ : List ℕ
          leads₂ = leads_laid q m leads

          at_L : (j : ℕ) → j < q → get_or leads₂ j 0 ≡ place_l q m j
          at_L = lead_L q m leads eight size order

          at_N : (j : ℕ) → j < q → get_or leads₂ (q + j) 0 ≡ place_n q j
          at_N = lead_N q m leads eight size order

          leading : (j : ℕ) → j < q + q → get_or leads₂ j 0 ≡ (get_or (pair_starts (gf q) q m) j blank).lead
          leading = by_half (λ j. get_or leads₂ j 0 ≡ (get_or (pair_starts (gf q) q m) j blank).lead) q
              (λ j lj. rw (start_at_L q m j lj) (at_L j lj))
              (λ j lj. rw (start_at_N q m j lj) (at_N j lj))

          pub start_holds : Holds q (ring_pairs q size m) (forms q m r) (pair_starts (gf q) q m) (leads_laid q m leads) (start_laid q ys r l)
          start_holds = record {
            count = starts_count q m;
            enough = omega (arith, leads_long q m leads eight size order, few q m leads eight size order);
            room = rw (forms-count q m r, ← wide, start_long) (omega (arith, doubled));
            apart = λ j k lj lk. places_apart q m leads₂ at_L at_N j k (omega arith) (omega arith);
            each = λ j lj. record {
              within = (all_get (Led (ring_pairs q size m)) (pair_starts (gf q) q m) blank j (omega (arith, starts_count q m))
                  (pair_basis (gf q) 𝓕 q (ring_side q size) m).led).within;
              leading = leading j (omega arith);
              values = λ i li. rw (forms-count q m r, ← wide) (by_half (λ j. (i : ℕ) → i < n + n → Slot j i) q L-slots N-slots j
                  (omega arith)
                  i (omega (arith, forms-count q m r)));
            };
          }
            where
              doubled : length ys * (2 * q) ≤ 1024
              doubled = let e : 2 * q ≡ q + q = omega arith in rw e room_all
