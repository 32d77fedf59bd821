-- What holds of a desk that came from opening and putting.
--
--   ZeroFrom n l     the places of l from n on are zero
--   Framed d n r xs fs ks    a proper code with its factors, within the limits of a desk; the places of the points xs, the factors fs
--                    and the lengths ks that it does not use are zero
--   Sound d          the desk has such a code; its array is symbols, and zero in the places that the code does not use
--   is_array         the array of a sound desk is one of its code; is_quotient, so it is divided by the factors
--   quotient_size, quotient_at    how many symbols the quotient has, and what stands in it
--   Openable D       what the checks of opening leave; passed, from them; few_factors, there are at most 16
--   puttable         what the checks of putting leave
--   described_zero   the description of the desk that was opened with it
--   spare_passed     the desk that a refused opening hands over could itself be opened
--   sound            a desk that came from opening and putting is sound; sound_placed, so is a sound one with a column put
-- Assumes nothing.
use mathlib.Core.Path.{◌≡◌, refl, sym, ap, ap₂, ◌∙◌, subst}
use mathlib.Core.Bool.{false}
use mathlib.Core.List.{List}
use Prim.Native.Nat.{ℕ, zero, suc, ◌+◌, ◌*◌, ◌≤◌, ◌<◌}
use native.Mathlib.Nat.{zero-mul, suc-mul, mul-le-mul}
use native.Mathlib.Decide.{dec_lt}
use native.Mathlib.Omega.{arith}
use lib.ListN.{length, get_or, take, drop, length-replicate, get_or-replicate, get_or-eq_default}
use lib.Seq.{length-take-le, get_or-take, get_or-drop}
use lib.Pow.{pow_pos}
use borrow.Author.Tests.{eqb-true, leb-false, not-false}
use Rattle.patch.specs.Parts.{lay}
use Rattle.patch.proofs.Parts.{length-lay, get_or-lay_above, take-lay}
use Rattle.refusal.specs.Refusal.{first, bad_degree, outside, some_outside, outside_field, some_outside_field, is_in, repeated, bad_points}
use Rattle.refusal.proofs.Laws.{within}
use Rattle.refusal.proofs.Ladders.{clear}
use Rattle.field.specs.Symbols.{IsSymbol, over}
use Rattle.field.proofs.Instance.{field}
use Rattle.poly.specs.Poly.{All}
use Rattle.codes.specs.Code.{code_of, columns, rows, IsArray}
use Rattle.codes.specs.Factors.{Description, description_of, with_factors, divided}
use Rattle.codes.proofs.Parts.{all_take, row_length, rest_length}
use Rattle.codes.proofs.Proper.{Proper, proper, symbols_test}
use Rattle.codes.proofs.Passed.{right-length}
use Rattle.codes.proofs.Factors.{Factors, factors_test, get_or_row, made_row, made_rest, is_divided}
use Rattle.desk.specs.Desk.{desk_code, desk_description, array_of, zeros, zero_desk, spare, open_checks, placed, put_checks}
use Rattle.desk.specs.Desk.{Made, opened, put, with_array, Next}
use Rattle.desk.specs.Working.{Puttable}
use Rattle.desk.specs.declared.Desk.{Desk}
use Rattle.mark.specs.Promises.{meaning}
use Rattle.mark.proofs.Handing.{handed}
use Rattle.desk.proofs.Columns.{length-column, all_column, column_other, cell}

abbrev pub ZeroFrom : ℕ → List ℕ → Type 0
ZeroFrom n l = (i : ℕ) → n ≤ i → get_or l i 0 ≡ 0

pub record Framed (d n r : ℕ) (xs fs ks : List ℕ) : Type 0 where
  pub degree : bad_degree d ≡ false
  pub some_rows : 1 ≤ r
  pub most_rows : r ≤ 4
  pub some_columns : 1 ≤ n
  pub most_columns : n ≤ 16
  pub cells : r * n ≤ 64
  pub points_size : length xs ≡ 16
  pub factors_size : length fs ≡ 16
  pub lengths_size : length ks ≡ 4
  pub column-count : length (take n xs) ≡ n
  pub factor_count : length (take n fs) ≡ n
  pub row_count : length (take r ks) ≡ r
  pub proper : Proper (code_of d (take n xs) (take r ks))
  pub factors : Factors (description_of d (take n xs) (take n fs) (take r ks))
  pub unused_points : ZeroFrom n xs
  pub unused_factors : ZeroFrom n fs
  pub unused_lengths : ZeroFrom r ks

pub record Sound (d : Desk) : Type 0 where
  pub frame : Framed d.degree d.columns d.rows d.points d.factors d.lengths
  pub array_size : length d.array ≡ 64
  pub symbols : All (IsSymbol d.degree) d.array
  pub unused_places : ZeroFrom (d.rows * d.columns) d.array

pub is_array : {d : Desk} → Sound d → IsArray (desk_code d) (array_of d)
is_array {d} h = let f = h.frame in record {
  count = rw (f.column-count, f.row_count) (length-take-le (d.rows * d.columns) d.array (omega (arith, h.array_size)));
  symbols = all_take (IsSymbol d.degree) (d.rows * d.columns) d.array h.symbols;
}

pub is_quotient : {d : Desk} → Sound d → IsArray (desk_code d) (divided (desk_description d) (array_of d))
is_quotient {d} h = is_divided (desk_description d) h.frame.proper h.frame.factors (is_array h)

-- what stands in r rows, each symbol with its column's factor
get_or_with : (f : ℕ → ℕ → ℕ) (fs : List ℕ) (r : ℕ) (a : List ℕ) → length a ≡ r * length fs → (l j : ℕ) → l < r → j < length fs
    → get_or (with_factors f fs r a) (l * length fs + j) 0 ≡ f (get_or fs j 0) (get_or a (l * length fs + j) 0)
get_or_with f fs zero a e l j h g = absurd (omega arith)
get_or_with f fs (suc r) a e zero j h g =
    let n : ℕ = length fs in
    let here : 0 * n + j ≡ j = omega (arith, zero-mul n) in
    rw here (sym (get_or-take n (with_factors f fs (suc r) a) j 0 g) ∙ ap (λ (b : List ℕ). get_or b j 0) (made_row f fs r a e)
    ∙ get_or_row f fs (take n a) (row_length r n a e) j g ∙ ap (f (get_or fs j 0)) (get_or-take n a j 0 g))
get_or_with f fs (suc r) a e (suc l) j h g =
    let n : ℕ = length fs in
    let there : suc l * n + j ≡ n + (l * n + j) = omega (arith, suc-mul l n) in
    rw there (sym (get_or-drop n (with_factors f fs (suc r) a) (l * n + j) 0)
    ∙ ap (λ (b : List ℕ). get_or b (l * n + j) 0) (made_rest f fs r a e)
    ∙ get_or_with f fs r (drop n a) (rest_length r n a e) l j (omega arith) g ∙ ap (f (get_or fs j 0)) (get_or-drop n a (l * n + j) 0))

module _ {d : Desk} (h : Sound d) where
  abbrev pub quotient : List ℕ
  quotient = divided (desk_description d) (array_of d)

  pub quotient_size : length quotient ≡ d.rows * d.columns
  quotient_size = (is_quotient h).count ∙ ap₂ ◌*◌ h.frame.row_count h.frame.column-count

  pub quotient_at : (l j : ℕ) → l < d.rows → j < d.columns
      → get_or quotient (l * d.columns + j) 0 ≡ over d.degree (get_or d.array (l * d.columns + j) 0) (get_or d.factors j 0)
  quotient_at l j p q =
      let f = h.frame in
      let n = d.columns in
      let there = l * n + j in
      ap (λ (m : ℕ). get_or quotient (l * m + j) 0) (sym f.factor_count)
      ∙ get_or_with (λ f s. over d.degree s f) (take n d.factors) (rows (desk_code d)) (array_of d)
      ((is_array h).count ∙ ap (λ (m : ℕ). rows (desk_code d) * m) (f.column-count ∙ sym f.factor_count))
      l j (omega (arith, f.row_count)) (omega (arith, f.factor_count))
      ∙ ap (λ (m : ℕ). over d.degree (get_or (array_of d) (l * m + j) 0) (get_or (take n d.factors) j 0)) f.factor_count
      ∙ ap₂ (over d.degree) (get_or-take (d.rows * n) d.array there 0 (cell d.rows n l j p q)) (get_or-take n d.factors j 0 q)

-- ---- opening

pub record Openable (D : Description) : Type 0 where
  pub degree : bad_degree D.code.degree ≡ false
  pub some_rows : 1 ≤ rows D.code
  pub most_rows : rows D.code ≤ 4
  pub some_columns : 1 ≤ columns D.code
  pub most_columns : columns D.code ≤ 16
  pub proper : Proper D.code
  pub factors : Factors D

pub passed : (D : Description) → 0 ≡ first (open_checks D) → Openable D
passed D e =
    let c = D.code in
    let p₁ = clear 0 _ _ e in
    let p₂ = clear 1 _ _ p₁.1 in
    let p₃ = clear 2 _ _ p₂.1 in
    let p₄ = clear 3 _ _ p₃.1 in
    let p₁₈ = clear 17 _ _ p₄.1 in
    let p₅ = clear 4 _ _ p₁₈.1 in
    let p₆ = clear 5 _ _ p₅.1 in
    let p₂₃ = clear 22 _ _ p₆.1 in
    let r = within 1 4 (rows c) p₂.0 in
    let n = within 1 16 (columns c) p₃.0 in
    record {
      degree = p₁.0;
      some_rows = r.0;
      most_rows = r.1;
      some_columns = n.0;
      most_columns = n.1;
      proper = proper c (field c.degree p₁.0) p₄.0 p₆.0;
      factors = record {
        count = right-length (columns c) D.factors p₅.0;
        symbols = (factors_test c.degree D.factors).0 p₂₃.0;
      };
    }

pub zeros-zero : (n i : ℕ) → get_or (zeros n) i 0 ≡ 0
unfolding zeros
zeros-zero n i = go (dec_lt i n)
  where
    go : Dec (i < n) → get_or (zeros n) i 0 ≡ 0
    go (yes h) = get_or-replicate n i 0 0 h
    go (no h) = get_or-eq_default (zeros n) 0 (rw (length-replicate n) (omega arith))

pub length-zeros : (n : ℕ) → length (zeros n) ≡ n
unfolding zeros
length-zeros n = length-replicate n 0

symbols_zeros : (d n : ℕ) → All (IsSymbol d) (zeros n)
unfolding zeros
symbols_zeros d zero = tt
symbols_zeros d (suc n) = (pow_pos d, symbols_zeros d n)

front : (n : ℕ) (l : List ℕ) → length l ≤ n → take (length l) (lay 0 l (zeros n)) ≡ l
front n l h = take-lay l (zeros n) refl refl (omega (arith, length-zeros n))

zero_behind : (n : ℕ) (l : List ℕ) → ZeroFrom (length l) (lay 0 l (zeros n))
zero_behind n l i h = get_or-lay_above 0 l (zeros n) i (omega arith) ∙ zeros-zero n i

pub few_factors : (D : Description) → Openable D → length D.factors ≤ 16
few_factors D p = omega (arith, p.factors.count, p.most_columns)

front_factors : (D : Description) → Openable D → take (columns D.code) (lay 0 D.factors (zeros 16)) ≡ D.factors
front_factors D p = rw (← p.factors.count) (front 16 D.factors (few_factors D p))

pub described_zero : (D : Description) → Openable D → desk_description (zero_desk D) ≡ D
described_zero D p =
    let points = front 16 D.code.points p.most_columns in
    let factors = front_factors D p in
    let lengths = front 4 D.code.lengths p.most_rows in
    λ i. description_of D.code.degree (points i) (factors i) (lengths i)

pub sound_zero : (D : Description) → Openable D → Sound (zero_desk D)
sound_zero D p = let same = described_zero D p in record {
  frame = record {
    degree = p.degree;
    some_rows = p.some_rows;
    most_rows = p.most_rows;
    some_columns = p.some_columns;
    most_columns = p.most_columns;
    cells = mul-le-mul p.most_rows p.most_columns;
    points_size = length-lay 0 D.code.points (zeros 16) ∙ length-zeros 16;
    factors_size = length-lay 0 D.factors (zeros 16) ∙ length-zeros 16;
    lengths_size = length-lay 0 D.code.lengths (zeros 4) ∙ length-zeros 4;
    column-count = ap (λ (E : Description). columns E.code) same;
    factor_count = ap (λ (E : Description). length E.factors) same ∙ p.factors.count;
    row_count = ap (λ (E : Description). rows E.code) same;
    proper = subst (λ (E : Description). Proper E.code) (sym same) p.proper;
    factors = subst Factors (sym same) p.factors;
    unused_points = zero_behind 16 D.code.points;
    unused_factors = rw (← p.factors.count) (zero_behind 16 D.factors);
    unused_lengths = zero_behind 4 D.code.lengths;
  };
  array_size = length-zeros 64;
  symbols = symbols_zeros D.code.degree 64;
  unused_places = λ i h. zeros-zero 64 i;
}

pub spare_passed : Openable spare
unfolding first bad_degree outside some_outside outside_field some_outside_field is_in repeated bad_points
spare_passed = passed spare refl

-- ---- putting

pub puttable : (d : Desk) (i : ℕ) (s : List ℕ) → 0 ≡ first (put_checks d i s) → Puttable d i s
puttable d i s e =
    let p₁ = clear 13 _ _ e in
    let p₂ = clear 4 _ _ p₁.1 in
    let p₃ = clear 6 _ _ p₂.1 in
    record {
      column = leb-false d.columns i p₁.0;
      count = eqb-true (length s) d.rows (not-false _ p₂.0);
      symbols = (symbols_test d.degree s).0 p₃.0;
    }

-- of whatever coefficients and number it has
pub sound_placed : (d : Desk) (i : ℕ) (s t : List ℕ) (v : ℕ) → Sound d → Puttable d i s → Sound (with_array d (placed d i s).array t v)
sound_placed d i s t v h p =
    let inside : (l : ℕ) → l < length s → l * d.columns + i < d.rows * d.columns =
    λ l q. cell d.rows d.columns l i (omega (arith, p.count)) p.column in
    record {
      frame = h.frame;
      array_size = length-column d.columns i s d.array ∙ h.array_size;
      symbols = all_column d.columns (IsSymbol d.degree) i s d.array p.symbols h.symbols;
      unused_places = λ j g. column_other d.columns i s d.array j (λ l q e. omega (arith, inside l q)) ∙ h.unused_places j g;
    }

pub sound : {d : Desk} → Made d → Sound d
sound (opened D r h) = handed (open_checks D) (λ d. d ≡ zero_desk D) (zero_desk spare) (meaning r.outcome, r.next) h
    (λ none e. subst Sound (sym e) (sound_zero D (passed D none)))
    (λ e. subst Sound (sym e) (sound_zero spare spare_passed))
sound (put d i s r m h) = handed (put_checks d i s) (Next d i s) d (meaning r.outcome, r.next) h
    (λ none e. subst Sound (sym e.0) (sound_placed d i s _ _ (sound m) (puttable d i s none)))
    (λ e. subst Sound (sym e) (sound m))
