-- The laws of `with_column`.
--
--   length-column    the length stays
--   all_column       what holds of every entry, and of the symbols, holds of every entry afterwards
--   column_there     row after row, the symbol stands at the column's place
--   column_other     what stands at any other place stays
--   row_end, cell    where a row ends, and that a place by row and column is inside the array
--   one_cell         another column's place is another place
--   Writing d₀ i s d l    the loop that writes a column: what is left to write completes the whole
--   writing_begin, writing-again, writing_end    its turns
-- Assumes nothing.
use mathlib.Core.Path.{◌≡◌, refl, ap, ap₂, ◌∙◌}
use mathlib.Core.List.{List, [], ◌∷◌}
use Prim.Native.Nat.{ℕ, zero, suc, ◌+◌, ◌*◌, ◌≤◌, ◌<◌}
use native.Mathlib.Nat.{zero-mul, zero-add, suc-mul, mul-le-mul_right}
use native.Mathlib.Numerals.{add-one}
use native.Mathlib.Decide.{dec_lt}
use native.Mathlib.Omega.{arith}
use lib.ListN.{length, get_or, set, drop, length-set, drop_of_length-le}
use lib.Seq.{drop-cons, get_or-set_same, get_or-set_other}
use Rattle.poly.specs.Poly.{All}
use Rattle.desk.specs.Desk.{with_column, with_array, placed}
use Rattle.desk.specs.declared.Desk.{Desk}

pub all_set : (P : ℕ → Type 0) (a : List ℕ) (i x : ℕ) → P x → All P a → All P (set a i x)
all_set P [] i x p h = tt
all_set P (y ∷ a) zero x p h = (p, h.1)
all_set P (y ∷ a) (suc i) x p h = (h.0, all_set P a i x p h.1)

module _ (n : ℕ) where
  pub length-column : (i : ℕ) (s a : List ℕ) → length (with_column n i s a) ≡ length a
  unfolding with_column
  length-column i [] a = refl
  length-column i (x ∷ s) a = length-column (i + n) s (set a i x) ∙ length-set a i x

  pub all_column : (P : ℕ → Type 0) (i : ℕ) (s a : List ℕ) → All P s → All P a → All P (with_column n i s a)
  unfolding with_column
  all_column P i [] a p h = h
  all_column P i (x ∷ s) a p h = all_column P (i + n) s (set a i x) p.1 (all_set P a i x p.0 h)

  pub column_other : (i : ℕ) (s a : List ℕ) (j : ℕ) → ((l : ℕ) → l < length s → j ≡ l * n + i → ⊥)
      → get_or (with_column n i s a) j 0 ≡ get_or a j 0
  unfolding with_column
  column_other i [] a j h = refl
  column_other i (x ∷ s) a j h =
      column_other (i + n) s (set a i x) j (λ l q e. h (suc l) (omega arith) (omega (arith, suc-mul l n)))
      ∙ get_or-set_other a i j x 0 (λ e. h 0 (omega arith) (omega (arith, zero-mul n)))

  pub column_there : (i : ℕ) (s a : List ℕ) → 0 < n → ((l : ℕ) → l < length s → l * n + i < length a)
      → (l : ℕ) → l < length s → get_or (with_column n i s a) (l * n + i) 0 ≡ get_or s l 0
  unfolding with_column
  column_there i [] a p fits l h = absurd (omega arith)
  column_there i (x ∷ s) a p fits zero h =
      ap (λ (j : ℕ). get_or (with_column n (i + n) s (set a i x)) j 0) (omega (arith, zero-mul n))
      ∙ column_other (i + n) s (set a i x) i (λ l q e. omega arith)
      ∙ get_or-set_same a i x 0 (omega (arith, fits 0 (omega arith), zero-mul n))
  column_there i (x ∷ s) a p fits (suc l) h =
      ap (λ (j : ℕ). get_or (with_column n (i + n) s (set a i x)) j 0) (omega (arith, suc-mul l n))
      ∙ column_there (i + n) s (set a i x) p (λ m q. omega (arith, fits (suc m) (omega arith), suc-mul m n, length-set a i x)) l
      (omega arith)

pub row_end : (r n l : ℕ) → l < r → l * n + n ≤ r * n
row_end r n l h = omega (arith, suc-mul l n, mul-le-mul_right {m = suc l} {n = r} n (omega arith))

pub cell : (r n l i : ℕ) → l < r → i < n → l * n + i < r * n
cell r n l i h k = omega (arith, row_end r n l h)

pub one_cell : (n l m j i : ℕ) → j < n → i < n → l * n + j ≡ m * n + i → j ≡ i
one_cell n l m j i p q e = go (dec_lt l m) (dec_lt m l)
  where
    go : Dec (l < m) → Dec (m < l) → j ≡ i
    go (yes h) g = absurd (omega (arith, cell m n l j h p))
    go (no h) (yes g) = absurd (omega (arith, cell l n m i g q))
    go (no h) (no g) = let same : l ≡ m = omega arith in omega (arith, ap (λ (k : ℕ). k * n) same)

pub record Writing (d₀ : Desk) (i : ℕ) (s : List ℕ) (d : Desk) (l : ℕ) : Type 0 where
  pub others : d ≡ with_array d₀ d.array d₀.above d₀.misfits
  pub written : with_column d₀.columns (l * d₀.columns + i) (drop l s) d.array ≡ with_column d₀.columns i s d₀.array

pub writing_begin : (d : Desk) (i : ℕ) (s : List ℕ) → Writing d i s d 0
writing_begin d i s = record { others = refl; written = rw (zero-mul, zero-add) }

module _ {d₀ : Desk} {i : ℕ} {s : List ℕ} {d : Desk} {l : ℕ} (w : Writing d₀ i s d l) where
  pub writing-again : (x : ℕ) → x ≡ get_or s l 0 → l < length s
      → Writing d₀ i s (with_array d (set d.array (l * d₀.columns + i) x) d.above d.misfits) (l + 1)
  unfolding with_column
  writing-again x e h = record {
    others = ap (λ (f : Desk). with_array f (set d.array (l * d₀.columns + i) x) f.above f.misfits) w.others;
    written =
        ap₂ (λ (j y : ℕ). with_column d₀.columns j (drop (l + 1) s) (set d.array (l * d₀.columns + i) y)) (rw add-one (omega (arith, suc-mul l d₀.columns))) e
        ∙ step (l * d₀.columns + i) d.array ∙ w.written;
  }
    where
      step : (j : ℕ) (a : List ℕ)
          → with_column d₀.columns (j + d₀.columns) (drop (l + 1) s) (set a j (get_or s l 0)) ≡ with_column d₀.columns j (drop l s) a
      step j a = rw (add-one, drop-cons s l 0 h) refl

  pub writing_end : length s ≤ l → d ≡ placed d₀ i s
  unfolding with_column
  writing_end h = w.others ∙ ap (λ (a : List ℕ). with_array d₀ a d₀.above d₀.misfits) (rw (drop_of_length-le s h) at w.written)
