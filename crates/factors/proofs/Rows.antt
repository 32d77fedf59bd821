-- Rows multiplied by factors, one after the other.
--
--   get_or-inverses, length-inverses, inverses_in    the inverses of factors
--   by_inverses           to multiply by the inverses is to divide
--   Done d fs r s₀ s at left    r rows at the front of s₀, of which all but those from place at on are multiplied in s; left are not
--   first_rows, next_row, last_rows    before the first row; a row; all rows
--   row_fits, row_symbols    the row that comes next is in the list, and is of symbols
--   striking              what an array and factors whose checks passed are
--   ones_multiply, ones_divide    factors of one change nothing
--   multiplying, multiplied_front    the rows of an array at the front of a list can be multiplied by symbols, and then are there
--   part_all              a list is at its front
-- Assumes nothing.
use mathlib.Core.Path.{◌≡◌, refl, sym, ap, ap₂, subst, ◌∙◌}
use mathlib.Core.List.{List, [], ◌∷◌, ◌++◌}
use Prim.Native.Nat.{ℕ, zero, suc, ◌+◌, ◌-◌, ◌*◌, ◌≤◌, ◌<◌}
use native.Mathlib.Nat.{suc-mul}
use native.Mathlib.Omega.{arith}
use lib.ListN.{length, get_or, take, drop, replicate, length-drop, length-append}
use lib.Seq.{ext_get_or, get_or-take, get_or-drop, length-take-le, take-length}
use Rattle.patch.specs.Parts.{part, lay}
use Rattle.patch.proofs.Parts.{length_part, get_d_part, get_or-lay_above, length-lay, lay_none, patch_is_lay, lay_behind, take-lay}
use Rattle.field.specs.Symbols.{IsSymbol, times, over}
use Rattle.field.specs.Arithmetic.{gf}
use Rattle.field.proofs.Laws.{Field}
use Rattle.field.proofs.Instance.{field}
use Rattle.field.proofs.Sums.{plus-zero}
use Rattle.poly.specs.Poly.{All}
use Rattle.poly.proofs.Ring.{times-over, over_unique, one_times}
use Rattle.lists.specs.Working.Lists.{SymbolsAt, multiplied_at, multiplied}
use Rattle.codes.specs.Code.{IsArray, rows}
use Rattle.codes.specs.Factors.{Description, with_factors_row, with_factors}
use Rattle.codes.proofs.Parts.{all-at, all_take, all_drop}
use Rattle.codes.proofs.Passed.{Counts}
use Rattle.codes.proofs.Factors.{Factor, Factors, length_row, get_or_row, length_with, as_ones, ones_with, one_multiplies, one_divides}
use Rattle.factors.specs.Working.{Striking, Multiplying, inverses}

-- ---- inverses

pub length-inverses : (d : ℕ) (fs : List ℕ) → length (inverses d fs) ≡ length fs
unfolding inverses
length-inverses d [] = refl
length-inverses d (f ∷ fs) = ap suc (length-inverses d fs)

pub get_or-inverses : (d : ℕ) (fs : List ℕ) (k : ℕ) → k < length fs → get_or (inverses d fs) k 0 ≡ over d 1 (get_or fs k 0)
unfolding inverses
get_or-inverses d [] k h = absurd (omega arith)
get_or-inverses d (f ∷ fs) zero h = refl
get_or-inverses d (f ∷ fs) (suc k) h = get_or-inverses d fs k (omega arith)

module _ (d : ℕ) (𝓕 : Field (gf d)) where
  pub inverses_in : (fs : List ℕ) → All (IsSymbol d) (inverses d fs)
  unfolding inverses
  inverses_in [] = tt
  inverses_in (f ∷ fs) = (𝓕.over_in 1 f, inverses_in fs)

  -- an inverse times a symbol is the quotient
  by_inverse : (f a : ℕ) → Factor d f → IsSymbol d a → times d (over d 1 f) a ≡ over d a f
  by_inverse f a h i = sym (over_unique (gf d) 𝓕 i h.0 (𝓕.times_in (over d 1 f) a) h.1
      (times-over (gf d) 𝓕 a 𝓕.one_in h.0 h.1 ∙ one_times (gf d) 𝓕 i))

  row_by_inverses : (fs a : List ℕ) → All (Factor d) fs → All (IsSymbol d) a
      → with_factors_row (times d) (inverses d fs) a ≡ with_factors_row (λ f s. over d s f) fs a
  unfolding with_factors_row inverses
  row_by_inverses [] a h i = refl
  row_by_inverses (f ∷ fs) [] h i = refl
  row_by_inverses (f ∷ fs) (s ∷ a) h i = ap₂ ◌∷◌ (by_inverse f s h.0 i.0) (row_by_inverses fs a h.1 i.1)

  pub by_inverses : (fs : List ℕ) (r : ℕ) (a : List ℕ) → All (Factor d) fs → All (IsSymbol d) a
      → with_factors (times d) (inverses d fs) r a ≡ with_factors (λ f s. over d s f) fs r a
  unfolding with_factors
  by_inverses fs zero a h i = refl
  by_inverses fs (suc r) a h i = rw (length-inverses d fs)
      (ap₂ ◌++◌ (row_by_inverses fs (take (length fs) a) h (all_take (IsSymbol d) (length fs) a i))
      (by_inverses fs r (drop (length fs) a) h (all_drop (IsSymbol d) (length fs) a i)))

-- ---- a row, and those behind it

module _ (d : ℕ) (fs : List ℕ) where
  abbrev n : ℕ
  n = length fs

  module _ (at k : ℕ) (s : List ℕ) (room : at + suc k * n ≤ length s) {s' : List ℕ} (is : s' ≡ multiplied_at d fs 0 s at 0) where
    abbrev rest : List ℕ
    rest = part at (suc k * n) s

    abbrev row : List ℕ
    row = with_factors_row (times d) fs (take n rest)

    rest_count : length rest ≡ suc k * n
    rest_count = length_part at (suc k * n) s room

    front_count : length (take n rest) ≡ n
    front_count = length-take-le n rest (omega (arith, rest_count, suc-mul k n))

    row_count : length row ≡ n
    row_count = length_row (times d) fs (take n rest) front_count

    -- the row that is written
    laid : s' ≡ lay at row s
    unfolding multiplied
    laid = is ∙ patch_is_lay at n (multiplied d fs 0 s at 0) row s row_count
        (λ j h. ap₂ (times d) (plus-zero (get_or fs j 0)) (plus-zero (get_or s (at + j) 0)
        ∙ sym (get_or-take n rest j 0 h ∙ get_d_part at (suc k * n) s j (omega (arith, suc-mul k n))))
        ∙ sym (get_or_row (times d) fs (take n rest) front_count j h))

    same : length s' ≡ length s
    same = ap length laid ∙ length-lay at row s

    -- what is behind it stays
    behind : part (at + n) (k * n) s' ≡ drop n rest
    behind =
        let size : length (part (at + n) (k * n) s') ≡ k * n = length_part (at + n) (k * n) s' (omega (arith, same, suc-mul k n)) in
        ext_get_or 0 (part (at + n) (k * n) s') (drop n rest)
        (size ∙ omega (arith, length-drop n rest, rest_count, suc-mul k n))
        (λ j h. get_d_part (at + n) (k * n) s' j (omega (arith, size))
        ∙ ap (λ (l : List ℕ). get_or l (at + n + j) 0) laid
        ∙ get_or-lay_above at row s (at + n + j) (omega (arith, row_count))
        ∙ ap (λ (i : ℕ). get_or s i 0) (omega arith)
        ∙ sym (get_or-drop n rest j 0 ∙ get_d_part at (suc k * n) s (n + j) (omega (arith, size, suc-mul k n))))

    row_done : lay (at + n) (with_factors (times d) fs k (part (at + n) (k * n) s')) s' ≡ lay at (with_factors (times d) fs (suc k) rest) s
    unfolding with_factors
    row_done = rw behind (lay_behind at row (with_factors (times d) fs k (drop n rest)) s row_count laid
        (omega (
          arith,
          room,
          length-append row (with_factors (times d) fs k (drop n rest)),
          row_count,
          length_with (times d) fs k (drop n rest) (omega (arith, length-drop n rest, rest_count, suc-mul k n)),
          suc-mul k n,
        )))

  -- r rows at the front of s₀, of which in s all but those from at on, `left` of them, are multiplied
  pub record Done (r : ℕ) (s₀ s : List ℕ) (at left : ℕ) : Type 0 where
    pub place : at + left * n ≡ r * n
    pub same : length s ≡ length s₀
    pub symbols : SymbolsAt d s at (left * n)
    pub so_far_lem : lay at (with_factors (times d) fs left (part at (left * n) s)) s
        ≡ lay 0 (with_factors (times d) fs r (part 0 (r * n) s₀)) s₀

  pub first_rows : {r : ℕ} {s : List ℕ} → SymbolsAt d s 0 (r * n) → Done r s s 0 r
  first_rows h = record { place = omega arith; same = refl; symbols = h; so_far_lem = refl }

  -- where a row is left
  module _ {r at left : ℕ} {s₀ s : List ℕ} (h : Done r s₀ s at left) (room : r * n ≤ length s₀) (some : 0 < left) where
    abbrev more : ℕ
    more = left - 1

    undone : Done r s₀ s at (suc more)
    undone = subst (Done r s₀ s at) (omega arith) h

    pub row_fits : at + n ≤ length s
    row_fits = omega (arith, undone.place, undone.same, suc-mul more n)

    pub row_symbols : SymbolsAt d s at n
    row_symbols j q = undone.symbols j (omega (arith, suc-mul more n))

    module _ {s' : List ℕ} (is : s' ≡ multiplied_at d fs 0 s at 0) where
      fits : at + suc more * n ≤ length s
      fits = omega (arith, undone.place, undone.same)

      one_less : Done r s₀ s' (at + n) more
      one_less = record {
        place = omega (arith, undone.place, suc-mul more n);
        same = same at more s fits is ∙ h.same;
        symbols = λ j q. rw (ap (λ (l : List ℕ). get_or l (at + n + j) 0) (laid at more s fits is)
            ∙ get_or-lay_above at (row at more s fits is) s (at + n + j) (omega (arith, row_count at more s fits is)))
            (rw (sum j) (undone.symbols (n + j) (omega (arith, suc-mul more n))));
        so_far_lem = row_done at more s fits is ∙ undone.so_far_lem;
      }
        where
          sum : (j : ℕ) → at + n + j ≡ at + (n + j)
          sum j = omega arith

      pub next_row : {left' : ℕ} → left' + 1 ≡ left → Done r s₀ s' (at + n) left'
      next_row e = subst (Done r s₀ s' (at + n)) (omega arith) one_less

  pub last_rows : {r at left : ℕ} {s₀ s : List ℕ} → Done r s₀ s at left → left ≡ 0
      → s ≡ lay 0 (with_factors (times d) fs r (part 0 (r * n) s₀)) s₀
  unfolding with_factors
  last_rows {at = at} {s = s} h e = sym (lay_none at s) ∙ (rw e at h).so_far_lem

-- what the checks leave of an array and its factors
pub striking : {D : Description} {a : List ℕ} → Counts D.code → Factors D → IsArray D.code a
    → Striking D.code.degree D.factors (rows D.code) a
striking {D} counts h i = record {
  degree = counts.degree;
  factors = h.symbols;
  most = omega (arith, h.count, counts.most_columns);
  count = i.count ∙ ap (λ (n : ℕ). rows D.code * n) (sym h.count);
  symbols = i.symbols;
}

-- ---- whole arrays

-- factors of one change nothing
module _ {d r : ℕ} {fs a : List ℕ} (h : Striking d fs r a) (ones : All (λ (f : ℕ). f ≡ 1) fs) where
  𝓕 : Field (gf d)
  𝓕 = field d h.degree

  are : fs ≡ replicate (length fs) 1
  are = as_ones fs ones

  pub ones_multiply : with_factors (times d) fs r a ≡ a
  ones_multiply = ap (λ (gs : List ℕ). with_factors (times d) gs r a) are
      ∙ ones_with (IsSymbol d) (times d) (one_multiplies d 𝓕) (length fs) r a h.count h.symbols

  pub ones_divide : with_factors (λ f s. over d s f) fs r a ≡ a
  ones_divide = ap (λ (gs : List ℕ). with_factors (λ f s. over d s f) gs r a) are
      ∙ ones_with (IsSymbol d) (λ f s. over d s f) (one_divides d 𝓕) (length fs) r a h.count h.symbols

-- the rows of an array a at the front of s, multiplied by symbols gs, one a column
module _ {d r : ℕ} {fs a : List ℕ} (h : Striking d fs r a) (gs s : List ℕ) (same : length gs ≡ length fs) (room : length a ≤ length s)
    (front : part 0 (length a) s ≡ a) where
  cells : r * length gs ≡ length a
  cells = ap (λ (n : ℕ). r * n) same ∙ sym h.count

  pub multiplying : All (IsSymbol d) gs → Multiplying d gs r s
  multiplying symbols = record {
    factors = symbols;
    room = omega (arith, cells, room);
    symbols = λ k q. rw (← get_d_part 0 (length a) s k (omega (arith, cells)), front)
        (all-at (IsSymbol d) a k 0 (omega (arith, cells)) h.symbols);
  }

  pub multiplied_front : {s' : List ℕ} → s' ≡ lay 0 (with_factors (times d) gs r (part 0 (r * length gs) s)) s
      → take (length a) s' ≡ with_factors (times d) gs r a
  multiplied_front {s'} is = take-lay (with_factors (times d) gs r a) s (rw (cells, front) at is)
      (length_with (times d) gs r a (sym cells) ∙ cells) room

pub part_all : (a : List ℕ) → part 0 (length a) a ≡ a
unfolding part
part_all a = take-length a
