-- A desk that came from opening and putting knows its verdict.
--
--   nodes, length_in, factor_at    a sound desk's points, lengths and factors
--   known_zero       a desk that is opened knows its coefficients and its number
--   known_placed     so does one with a column put, the coefficients raised and the rows counted again
--   placeable, put_next    a desk that is renewed can have the column written, and is then what putting hands back
--   known            so does each that came from opening and putting
--   one_known        the array leaves no choice of them
--   stored_verdict   the number is the verdict
-- Assumes nothing.
use mathlib.Core.Path.{◌≡◌, refl, sym, ap, ap₂, ◌∙◌, subst}
use mathlib.Core.Logic.Iff
use mathlib.Core.Logic.{◌↔◌}
use mathlib.Core.Bool.{Bool, false}
use mathlib.Core.List.{List, ◌++◌}
use Prim.Native.Nat.{ℕ, zero, suc, ◌+◌, ◌*◌, ◌≤◌, ◌<◌}
use native.Mathlib.Nat.{zero-mul, suc-mul, zero-add}
use native.Mathlib.Omega.{arith}
use lib.ListN.{length, get_or, set, take, drop, replicate, length-take}
use lib.Seq.{length-take-le, get_or-take, take-add}
use Rattle.patch.specs.Parts.{part, lay}
use Rattle.patch.proofs.Parts.{length_part, get_d_part, length-lay, get_or-lay_above, is_lay, lay-part}
use Rattle.refusal.specs.Refusal.{some_outside}
use Rattle.refusal.proofs.Laws.{each_within}
use Rattle.field.specs.Symbols.{IsSymbol, plus, times, over}
use Rattle.field.specs.Arithmetic.{gf}
use Rattle.field.proofs.Laws.{Field}
use Rattle.poly.specs.Poly.{All, Poly, values_at}
use Rattle.poly.proofs.Ring.{plus_comm, plus-plus, times_plus, times_zero, over_times, over_unique}
use Rattle.codes.specs.Code.{columns, rows, total, flags_from}
use Rattle.codes.specs.Factors.{Description}
use Rattle.codes.proofs.Parts.{all-at, all_take, all_drop}
use Rattle.codes.proofs.Proper.{lengths_test}
use Rattle.codes.proofs.Factors.{Factor}
use Rattle.mark.specs.Promises.{meaning}
use Rattle.mark.proofs.Handing.{handed}
use Rattle.desk.specs.Desk.{desk_code, zeros, zero_desk, spare, open_checks, put_checks, with_array, placed}
use Rattle.desk.specs.Desk.{Above, nonzero_rows, Known, Next, Made, opened, put}
use Rattle.desk.specs.Verdict.{IsRow, Verdict}
use Rattle.desk.specs.Working.{Puttable, Placeable, Renewed, Raised, change}
use Rattle.desk.specs.declared.Desk.{Desk}
use Rattle.desk.proofs.Columns.{row_end, cell, one_cell, column_there, column_other}
use Rattle.desk.proofs.Coefficients.{Nodes, one_above, fits_exactly, zero_above, raised_above}
use Rattle.desk.proofs.Raising.{nonzero_exactly}
use Rattle.desk.proofs.Verdicts.{counted}
use Rattle.desk.proofs.Sound.{Sound, sound, sound_zero, sound_placed, Openable, passed, spare_passed}
use Rattle.desk.proofs.Sound.{zeros-zero, length-zeros, quotient, quotient_size, quotient_at}

-- quotients by a factor
module _ (d : ℕ) (𝓕 : Field (gf d)) {f : ℕ} (h : Factor d f) where
  over_zero : over d 0 f ≡ 0
  over_zero = over_unique (gf d) 𝓕 𝓕.zero_in h.0 𝓕.zero_in h.1 (times_zero (gf d) 𝓕 f)

  over-plus : (a b : ℕ) → IsSymbol d a → IsSymbol d b → over d (plus a b) f ≡ plus (over d a f) (over d b f)
  over-plus a b p q = over_unique (gf d) 𝓕 (𝓕.plus_in a b p q) h.0 (𝓕.plus_in _ _ (𝓕.over_in a f) (𝓕.over_in b f)) h.1
      (times_plus (gf d) 𝓕 f (over d a f) (over d b f)
      ∙ ap₂ plus (over_times (gf d) 𝓕 p h.0 h.1) (over_times (gf d) 𝓕 q h.0 h.1))

  -- the old quotient and the change's are the new one
  over-change : (a b : ℕ) → IsSymbol d a → IsSymbol d b → over d b f ≡ plus (over d a f) (over d (plus b a) f)
  over-change a b p q = sym (ap (plus (over d a f)) (over-plus b a q p ∙ plus_comm (gf d) 𝓕 (over d b f) (over d a f))
      ∙ plus-plus (gf d) 𝓕 (over d a f) (over d b f))

module _ {d : Desk} (h : Sound d) where
  nodes : Nodes d.degree d.columns (desk_code d).points
  nodes = let p = h.frame.proper in
      record { field = p.field; count = h.frame.column-count; distinct = p.distinct; symbols = p.symbols }

  length_in : (l : ℕ) → l < d.rows → get_or d.lengths l 0 ≤ d.columns
  length_in l q =
      let f = h.frame in
      let ks = (desk_code d).lengths in
      let most = each_within 1 _ ks ((lengths_test 1 (columns (desk_code d)) ks).1 f.proper.lengths) l (omega (arith, f.row_count)) in
      omega (arith, most.1, get_or-take d.rows d.lengths l 0 q, f.column-count)

  pub factor_at : (j : ℕ) → j < d.columns → Factor d.degree (get_or d.factors j 0)
  factor_at j q = let f = h.frame in
      rw (get_or-take d.columns d.factors j 0 q) at
      (all-at (Factor d.degree) (take d.columns d.factors) j 0 (omega (arith, f.factor_count)) f.factors.symbols)

  abbrev row : ℕ → List ℕ → List ℕ
  row l a = part (l * d.columns) d.columns a

  row_inside : (l : ℕ) (a : List ℕ) → l < d.rows → d.rows * d.columns ≤ length a → length (row l a) ≡ d.columns
  row_inside l a q e = length_part (l * d.columns) d.columns a (omega (arith, row_end d.rows d.columns l q))

  quotient_row : (l j : ℕ) → l < d.rows → j < d.columns
      → get_or (row l (quotient h)) j 0 ≡ over d.degree (get_or d.array (l * d.columns + j) 0) (get_or d.factors j 0)
  quotient_row l j p q = get_d_part (l * d.columns) d.columns (quotient h) j q ∙ quotient_at h l j p q

-- ---- opening

all_zeros : (n : ℕ) → All (λ (a : ℕ). a ≡ 0) (zeros n)
unfolding zeros
all_zeros zero = tt
all_zeros (suc n) = (refl, all_zeros n)

none_held : (g : ℕ → Bool) (i r : ℕ) → ((l : ℕ) → g l ≡ false) → 0 ≡ total (flags_from g i r)
unfolding total flags_from
none_held g i zero h = refl
none_held g i (suc r) h = rw (h i) (none_held g (suc i) r h ∙ sym (zero-add _))

known_zero : (D : Description) → Openable D → Known (zero_desk D)
unfolding nonzero_rows part
known_zero D p =
    let h = sound_zero D p in
    let n = columns D.code in
    let inside = h.frame.cells in
    record {
      each = λ l q. zero_above (nodes h) (get_or (zero_desk D).lengths l 0) (row h l (quotient h)) (row h l (zeros 64)) (length_in h l q)
          (row_inside h l (quotient h) q (omega (arith, quotient_size h))) (row_inside h l (zeros 64) q (omega (arith, length-zeros 64)))
          (λ j g. quotient_row h l j q g
          ∙ rw (zeros-zero 64 (l * n + j)) (over_zero D.code.degree p.proper.field (factor_at h j g)))
          (λ j g. get_d_part (l * n) n (zeros 64) j g ∙ zeros-zero 64 (l * n + j));
      rest = sym (lay-part 0 (rows D.code * n) (zeros 64) (omega (arith, length-zeros 64)));
      number = none_held _ 0 _ (λ l. (nonzero_exactly (part (l * n) n (zeros 64))).1
          (all_take (λ (a : ℕ). a ≡ 0) n (drop (l * n) (zeros 64)) (all_drop (λ (a : ℕ). a ≡ 0) (l * n) (zeros 64) (all_zeros 64))));
    }

-- ---- putting

module _ {d : Desk} (k : Known d) where
  pub above_size : length d.above ≡ 64
  above_size = ap length k.rest ∙ length-lay 0 (take (d.rows * d.columns) d.above) (zeros 64) ∙ length-zeros 64

  unused : (p : ℕ) → d.rows * d.columns ≤ p → get_or d.above p 0 ≡ 0
  unused p g =
      let front : List ℕ = take (d.rows * d.columns) d.above in
      ap (λ (a : List ℕ). get_or a p 0) k.rest
      ∙ get_or-lay_above 0 front (zeros 64) p (omega (arith, length-take (d.rows * d.columns) d.above)) ∙ zeros-zero 64 p

module _ (d : Desk) (i : ℕ) (s b u : List ℕ) (v : ℕ) (h : Sound d) (k : Known d) (can : Puttable d i s)
    (basis : Poly (gf d.degree) d.columns b)
    (unit : values_at (gf d.degree) (desk_code d).points b ≡ set (replicate d.columns 0) i 1)
    (raised : Raised d.degree (desk_code d).lengths b (change d.degree (length b) i (get_or d.factors i 0) d.array s)
    (length (desk_code d).lengths) d.above u) (number : v ≡ nonzero_rows d.rows d.columns u) where
  abbrev n : ℕ
  n = d.columns

  abbrev after : Desk
  after = with_array d (placed d i s).array u v

  sound_after : Sound after
  sound_after = sound_placed d i s u v h can

  long : length u ≡ 64
  long = raised.size ∙ above_size k

  -- a row of the array that is put, and of the one before
  module _ (l : ℕ) (q : l < d.rows) where
    abbrev δ : ℕ
    δ = change d.degree (length b) i (get_or d.factors i 0) d.array s l

    abbrev there : ℕ
    there = l * n + i

    of_column : get_or (row h l (quotient sound_after)) i 0 ≡ plus (get_or (row h l (quotient h)) i 0) δ
    of_column =
        let f = get_or d.factors i 0 in
        let 𝓕 = h.frame.proper.field in
        let inside : there < length d.array = omega (arith, cell d.rows n l i q can.column, h.frame.cells, h.array_size) in
        quotient_row sound_after l i q can.column
        ∙ ap (λ (x : ℕ). over d.degree x f) (column_there n i s d.array h.frame.some_columns
        (λ m g. omega (arith, cell d.rows n m i (omega (arith, can.count)) can.column, h.frame.cells, h.array_size))
        l (omega (arith, can.count)))
        ∙ over-change d.degree 𝓕 (factor_at h i can.column) (get_or d.array there 0) (get_or s l 0)
        (all-at (IsSymbol d.degree) d.array there 0 inside h.symbols)
        (all-at (IsSymbol d.degree) s l 0 (omega (arith, can.count)) can.symbols)
        ∙ ap₂ plus (sym (quotient_row h l i q can.column))
        (ap (λ (m : ℕ). over d.degree (plus (get_or s l 0) (get_or d.array (l * m + i) 0)) f) (sym basis.count))

    of_others : (j : ℕ) → j < n → (j ≡ i → ⊥) → get_or (row h l (quotient sound_after)) j 0 ≡ get_or (row h l (quotient h)) j 0
    of_others j g e =
        quotient_row sound_after l j q g
        ∙ ap (λ (x : ℕ). over d.degree x (get_or d.factors j 0))
        (column_other n i s d.array (l * n + j) (λ m f is. e (one_cell n l m j i g can.column is)))
        ∙ sym (quotient_row h l j q g)

    -- a place of it in what was raised, and in what is looked at
    placed_at : (a : List ℕ) (j : ℕ) → j < n → get_or (row h l a) j 0 ≡ get_or a (l * length b + j) 0
    placed_at a j g = get_d_part (l * n) n a j g ∙ ap (λ (m : ℕ). get_or a (l * m + j) 0) (sym basis.count)

    here : l < length (desk_code d).lengths
    here = omega (arith, h.frame.row_count)

    own_length : get_or (desk_code d).lengths l 0 ≡ get_or d.lengths l 0
    own_length = get_or-take d.rows d.lengths l 0 q

    low : (j : ℕ) → j < get_or d.lengths l 0 → get_or (row h l u) j 0 ≡ get_or (row h l d.above) j 0
    low j g =
        let e : j < n = omega (arith, length_in h l q) in
        placed_at u j e ∙ raised.low l j here (omega (arith, own_length)) (omega (arith, basis.count)) ∙ sym (placed_at d.above j e)

    high : (j : ℕ) → get_or d.lengths l 0 ≤ j → j < n
        → get_or (row h l u) j 0 ≡ plus (get_or (row h l d.above) j 0) (times d.degree (get_or b j 0) δ)
    high j g e =
        placed_at u j e ∙ raised.high l j here (omega (arith, own_length)) (omega (arith, basis.count))
        ∙ ap (λ (x : ℕ). plus x (times d.degree (get_or b j 0) δ)) (sym (placed_at d.above j e))

    changed : Above d.degree n (desk_code d).points (get_or d.lengths l 0) (row h l (quotient sound_after)) (row h l u)
    changed = raised_above (nodes h) (get_or d.lengths l 0) (row h l (quotient h)) (row h l d.above) (row h l (quotient sound_after))
        (row h l u) b i δ (length_in h l q) can.column (k.each l q) basis unit (h.frame.proper.field.over_in _ _)
        (row_inside h l (quotient sound_after) q (omega (arith, quotient_size sound_after)))
        of_column of_others (row_inside h l u q (omega (arith, long, h.frame.cells))) low high

  pub known_placed : Known after
  known_placed =
      let size : length (take (d.rows * n) u) ≡ d.rows * n = length-take-le (d.rows * n) u (omega (arith, long, h.frame.cells)) in
      record {
        each = changed;
        rest = is_lay 0 (take (d.rows * n) u) (zeros 64) u (omega (arith, h.frame.cells, length-zeros 64)) (long ∙ sym (length-zeros 64))
            (λ p g. absurd (let z : p < 0 = g in omega arith))
            (λ p g. rw zero-add (sym (get_or-take (d.rows * n) u p 0 (omega arith))))
            (λ p g. raised.rest p (omega (arith, ap₂ ◌*◌ h.frame.row_count basis.count)) ∙ unused k p (omega arith)
            ∙ sym (zeros-zero 64 p));
        number = number;
      }

-- a desk that is renewed, and has the column written then
module _ (d e : Desk) (i : ℕ) (s : List ℕ) {front : List ℕ} (copy : front ≡ s) (r : Renewed d i front e) where
  pub placeable : Sound d → i < d.columns → Placeable e i
  placeable h column = subst (λ (x : Desk). Placeable x i) (sym r.others)
      (record { column = column; most_rows = h.frame.most_rows; cells = h.frame.cells })

  pub put_next : {e' : Desk} → e' ≡ placed e i s → Next d i s e'
  put_next {e'} is = (
    is ∙ ap (λ (x : Desk). placed x i s) r.others
        ∙ sym (ap (λ (x : Desk). with_array d (placed d i s).array x.above x.misfits) is),
    subst Known (sym (is ∙ ap (placed e i) (sym copy))) r.known,
  )

pub known : {d : Desk} → Made d → Known d
known (opened D r h) = handed (open_checks D) (λ d. d ≡ zero_desk D) (zero_desk spare) (meaning r.outcome, r.next) h
    (λ none e. subst Known (sym e) (known_zero D (passed D none)))
    (λ e. subst Known (sym e) (known_zero spare spare_passed))
known (put d i s r m h) = handed (put_checks d i s) (Next d i s) d (meaning r.outcome, r.next) h
    (λ none e. e.1)
    (λ e. subst Known (sym e) (known m))

-- ---- what they determine

same_rows : (r n : ℕ) (t t' : List ℕ) → ((l : ℕ) → l < r → part (l * n) n t ≡ part (l * n) n t') → take (r * n) t ≡ take (r * n) t'
unfolding part
same_rows zero n t t' h = rw (zero-mul n)
same_rows (suc r) n t t' h =
    rw (suc-mul r n, take-add (r * n) n t, take-add (r * n) n t')
    (ap₂ ◌++◌ (same_rows r n t t' (λ l q. h l (omega arith))) (h r (omega arith)))

module _ {d : Desk} (h : Sound d) where
  pub one_known : (t t' : List ℕ) (v v' : ℕ) → Known (with_array d d.array t v) → Known (with_array d d.array t' v')
      → (t ≡ t') × (v ≡ v')
  one_known t t' v v' k k' =
      let front = same_rows d.rows d.columns t t'
      (λ l q. one_above (nodes h) (get_or d.lengths l 0) (row h l (quotient h)) (row h l t) (row h l t') (k.each l q) (k'.each l q)) in
      let same : t ≡ t' = k.rest ∙ ap (λ (a : List ℕ). lay 0 a (zeros 64)) front ∙ sym k'.rest in
      (same, k.number ∙ ap (nonzero_rows d.rows d.columns) same ∙ sym k'.number)

  known_verdict : Known d → Verdict d d.misfits
  unfolding nonzero_rows
  known_verdict k =
      subst (Verdict d) (ap (λ (r : ℕ). total (flags_from g 0 r)) h.frame.row_count ∙ sym k.number)
      (counted (desk_code d).lengths (quotient h) g 0 test)
    where
      g : ℕ → Bool
      g l = some_outside 0 0 (row h l d.above)

      test : (l : ℕ) → l < length (desk_code d).lengths → let xs = (desk_code d).points in
          (g (0 + l) ≡ false) ↔ IsRow d.degree xs (get_or (desk_code d).lengths l 0) (part (l * length xs) (length xs) (quotient h))
      test l q =
          let p : l < d.rows = omega (arith, h.frame.row_count) in
          rw (zero-add, get_or-take d.rows d.lengths l 0 p, h.frame.column-count)
          (Iff.trans (nonzero_exactly (row h l d.above)) (Iff.symm (fits_exactly (nodes h) (get_or d.lengths l 0) (row h l (quotient h))
          (row h l d.above) (length_in h l p) (k.each l p))))

pub stored_verdict : {d : Desk} → Made d → Verdict d d.misfits
stored_verdict m = known_verdict (sound m) (known m)
