-- Going through an array and its message row by row.
--
--   Before c l p q      the rows before row l have p coefficients and q symbols
--   Place c l p q k     row l is at these places, and has k coefficients
--   first_place, next_place    of the first row; of the next
--   bounds              a row lies within the message and the array
--   Left ks a l q rs y  rs and y are what is left of the lengths from row l on, and of the symbols from symbol q on
--   Taken n ks a l q k row rs y    k and row, of n symbols, are the next, and rs and y what is left behind them
--   taken               the first of what is left; none_left, where the lengths are out, or fewer symbols are left than a row has
--   Laid c l p q at rest whole s₀ s    row by row the whole is laid at the front of s₀: s is so far, and the rest comes from at on
--   laid-first, laid_next, laid_last    before the first row; a row; the whole
--   copied_lay          what was laid at the front, copied over a whole list
--   encoded_more        a row's values, laid before the rows that are left
--   message_more, reduced_more    the same of the message that is read, and of the reduced values
-- Assumes nothing.
use mathlib.Core.Path.{◌≡◌, refl, sym, ap, ◌∙◌}
use mathlib.Core.Logic.{◌↔◌, ◌⊎◌, inl, inr}
use mathlib.Core.List.{List, [], ◌∷◌, ◌++◌, append-nil}
use Prim.Native.Nat.{ℕ, zero, suc, ◌+◌, ◌*◌, ◌≤◌, ◌<◌}
use native.Mathlib.Nat.{suc-mul}
use native.Mathlib.Numerals.{add-one}
use native.Mathlib.Omega.{arith}
use lib.ListN.{length, get_or, take, drop, length-drop}
use lib.Seq.{drop-cons, drop-drop, length-take-le, take-length, drop-length, take_at, drop_at}
use Rattle.std.proofs.lemmas.List.{drop_more}
use Rattle.patch.specs.Parts.{lay}
use Rattle.patch.proofs.Parts.{lay_none, take-lay, lay_behind}
use Rattle.refusal.proofs.Laws.{each_within}
use Rattle.field.specs.Arithmetic.{gf}
use Rattle.field.proofs.Laws.{Field}
use Rattle.field.proofs.Instance.{field}
use Rattle.poly.specs.Poly.{Zero, values_at}
use Rattle.poly.proofs.Forms.{reduce, from_newton}
use Rattle.poly.proofs.Values.{length-values}
use Rattle.poly.proofs.Differences.{length_reduce}
use Rattle.poly.proofs.Newton.{length_newton}
use Rattle.codes.specs.Code.{Code, columns, rows, total, encoded_rows}
use Rattle.codes.proofs.Parts.{all_drop, empty}
use Rattle.codes.proofs.Proper.{Proper, lengths_test}
use Rattle.codes.proofs.Passed.{Counts}
use Rattle.codes.proofs.Messages.{message_rows, ReducedRows, length-encoded, length_message}

-- the rows before row l have p coefficients and q symbols
pub record Before (c : Code) (l p q : ℕ) : Type 0 where
  pub within : l ≤ rows c
  pub message : p + total (drop l c.lengths) ≡ total c.lengths
  pub array : q + length (drop l c.lengths) * columns c ≡ rows c * columns c

pub first_place : (c : Code) → Before c 0 0 0
first_place c = record { within = omega arith; message = omega arith; array = omega arith }

pub record Place (c : Code) (l p q k : ℕ) : Type 0 where
  pub counts : Counts c
  pub before : Before c l p q
  pub here : l < rows c
  pub count : k ≡ get_or c.lengths l 0

pub record Bounds (c : Code) (p q k : ℕ) : Type 0 where
  pub some : 1 ≤ k
  pub most : k ≤ columns c
  pub most_columns : columns c ≤ 96
  pub message : p + k ≤ total c.lengths
  pub array : q + columns c ≤ rows c * columns c
  pub coefficients : total c.lengths ≤ 384
  pub symbols : rows c * columns c ≤ 384

module _ {c : Code} {l p q k : ℕ} (h : Place c l p q k) where
  -- of the lengths from l on, the first and the others
  cut : drop l c.lengths ≡ k ∷ drop (l + 1) c.lengths
  cut = rw (h.count, add-one) (drop-cons c.lengths l 0 h.here)

  total_cut : total (drop l c.lengths) ≡ k + total (drop (l + 1) c.lengths)
  unfolding total
  total_cut = rw cut

  cells_cut : length (drop l c.lengths) * columns c ≡ length (drop (l + 1) c.lengths) * columns c + columns c
  cells_cut = rw cut (suc-mul (length (drop (l + 1) c.lengths)) (columns c))

  pub next_place : Before c (l + 1) (p + k) (q + columns c)
  next_place = record {
    within = omega (arith, h.here);
    message = omega (arith, total_cut, h.before.message);
    array = omega (arith, cells_cut, h.before.array);
  }

  pub bounds : Bounds c p q k
  bounds =
      let n : ℕ = columns c in
      let k_in : (1 ≤ get_or c.lengths l 0) × (get_or c.lengths l 0 ≤ n) =
      each_within 1 n c.lengths ((lengths_test 1 n c.lengths).1 h.counts.lengths) l h.here in
      record {
        some = omega (arith, k_in, h.count);
        most = omega (arith, k_in, h.count);
        most_columns = h.counts.most_columns;
        message = omega (arith, total_cut, h.before.message);
        array = omega (arith, cells_cut, h.before.array);
        coefficients = omega (arith, h.counts.fits, h.counts.cells);
        symbols = h.counts.cells;
      }

pub record Left (ks a : List ℕ) (l q : ℕ) (rs y : List ℕ) : Type 0 where
  pub lengths : rs ≡ drop l ks
  pub symbols : y ≡ drop q a

pub record Taken (n : ℕ) (ks a : List ℕ) (l q k : ℕ) (row rs y : List ℕ) : Type 0 where
  pub here : l < length ks
  pub count : k ≡ get_or ks l 0
  pub symbols : row ≡ take n (drop q a)
  pub left : Left ks a (l + 1) (q + n) rs y

fewer : (m n : ℕ) → m * n < n → m ≡ 0
fewer zero n h = refl
fewer (suc m) n h = absurd (omega (arith, suc-mul m n))

module _ {ks a : List ℕ} {l q : ℕ} {rs y : List ℕ} (h : Left ks a l q rs y) where
  pub taken : {n k : ℕ} {row rs' y' : List ℕ} → rs ≡ k ∷ rs' → y ≡ row ++ y' → length row ≡ n → Taken n ks a l q k row rs' y'
  taken {n} {k} {row} {rs'} {y'} is ys size =
      let here : l < length ks = omega (arith, length-drop l ks, ap length h.lengths, ap length is) in
      let cut = drop_more ks l 0 here in
      let rest : drop q a ≡ row ++ y' = sym h.symbols ∙ ys in
      record {
        here = here;
        count = cc;
        symbols = rw (rest, take_at row y' n size);
        left = record { lengths = cc; symbols = rw (← drop-drop n q a, rest, drop_at row y' n size) };
      }

pub none_left : {c : Code} {l p q : ℕ} {a rs y : List ℕ} → Left c.lengths a l q rs y → Before c l p q → length a ≡ rows c * columns c
    → (length rs ≡ 0) ⊎ (length y < columns c) → drop l c.lengths ≡ []
none_left {c} {l} h b size (inl e) = sym (empty (drop l c.lengths) (omega (arith, ap length h.lengths)))
none_left {c} {l} {q = q} {a = a} h b size (inr e) = sym (empty (drop l c.lengths) (fewer (length (drop l c.lengths)) (columns c)
    (omega (arith, ap length h.symbols, length-drop q a, b.array))))

pub record Laid (c : Code) (l p q at : ℕ) (rest whole s₀ s : List ℕ) : Type 0 where
  pub places : Before c l p q
  pub same : length s ≡ length s₀
  pub so_far_lem : lay at rest s ≡ lay 0 whole s₀

pub laid-first : (c : Code) (whole s : List ℕ) → Laid c 0 0 0 0 whole whole s s
laid-first c whole s = record { places = first_place c; same = refl; so_far_lem = refl }

module _ {c : Code} {l p q at : ℕ} {rest whole s₀ s : List ℕ} (h : Laid c l p q at rest whole s₀ s) where
  pub laid_next : {k at' : ℕ} {rest' s' : List ℕ} → Place c l p q k → length s' ≡ length s → lay at' rest' s' ≡ lay at rest s
      → Laid c (l + 1) (p + k) (q + columns c) at' rest' whole s₀ s'
  laid_next row e is = record { places = next_place row; same = e ∙ h.same; so_far_lem = is ∙ h.so_far_lem }

  pub laid_last : rest ≡ [] → s ≡ lay 0 whole s₀
  laid_last e = sym (lay_none at s) ∙ (rw e at h.so_far_lem)

-- what was laid at the front, copied over the whole of a list that is as long
pub copied_lay : (v l old : List ℕ) {s out : List ℕ} → s ≡ lay 0 v l → length v ≡ length old → length v ≤ length l
    → out ≡ take (length (take (length old) s)) (take (length old) s) ++ drop (length (take (length old) s)) old → out ≡ v
copied_lay v l old {s} {out} is e fits out-is =
    let front : take (length old) s ≡ v = take-lay v l is e (omega arith) in
    (rw front at out-is) ∙ rw (take-length, e, drop-length old) (append-nil v)

module _ {c : Code} {l p q k : ℕ} (h : Place c l p q k) where
  open c use {degree, points, lengths}

  laws : Field (gf degree)
  laws = field degree h.counts.degree

  pub encoded_more : (m : List ℕ) {s : List ℕ} (t : List ℕ) → rows c * columns c ≤ length t
      → s ≡ lay q (values_at (gf degree) points (take k (drop p m))) t
      → lay (q + columns c) (encoded_rows (gf degree) points (drop (l + 1) lengths) (drop (p + k) m)) s
      ≡ lay q (encoded_rows (gf degree) points (drop l lengths) (drop p m)) t
  unfolding encoded_rows
  encoded_more m t fits is =
      let v : List ℕ = values_at (gf degree) points (take k (drop p m)) in
      let w : List ℕ = encoded_rows (gf degree) points (drop (l + 1) lengths) (drop k (drop p m)) in
      let whole : encoded_rows (gf degree) points (drop l lengths) (drop p m) ≡ v ++ w = rw (cut h) in
      let room : q + length (v ++ w) ≤ length t =
      omega (arith, ap length whole, length-encoded (gf degree) laws points (drop l lengths) (drop p m), h.before.array) in
      rw (← drop-drop k p m, whole) (lay_behind q v w t (length-values (gf degree) laws points (take k (drop p m))) is room)

  module _ (y : Proper c) (a : List ℕ) (size : length a ≡ rows c * columns c) where
    row_size : length (take (columns c) (drop q a)) ≡ columns c
    row_size = length-take-le (columns c) (drop q a) (omega (arith, length-drop q a, (bounds h).array))

    pub message_more : {s : List ℕ} (t : List ℕ) → total lengths ≤ length t
        → s ≡ lay p (from_newton (gf degree) k points (reduce (gf degree) k points (take (columns c) (drop q a)))) t
        → lay (p + k) (message_rows (gf degree) points (drop (l + 1) lengths) (drop (q + columns c) a)) s
        ≡ lay p (message_rows (gf degree) points (drop l lengths) (drop q a)) t
    unfolding message_rows
    message_more t fits is =
        let n : ℕ = columns c in
        let row : List ℕ = take n (drop q a) in
        let v : List ℕ = from_newton (gf degree) k points (reduce (gf degree) k points row) in
        let w : List ℕ = message_rows (gf degree) points (drop (l + 1) lengths) (drop n (drop q a)) in
        let whole : message_rows (gf degree) points (drop l lengths) (drop q a) ≡ v ++ w = rw (cut h) in
        let most : k ≤ n = (bounds h).most in
        let count : length v ≡ k = length_newton (gf degree) laws k points (reduce (gf degree) k points row) most
        (omega (arith, length_reduce (gf degree) laws k points row row_size)) in
        let left : length (drop q a) ≡ length (drop l lengths) * n = omega (arith, length-drop q a, h.before.array) in
        let room : p + length (v ++ w) ≤ length t = omega (
          arith,
          ap length whole,
          length_message (gf degree) laws points y.distinct y.symbols (drop l lengths) (drop q a)
              (all_drop _ l lengths y.lengths) left,
          h.before.message,
        ) in
        rw (← drop-drop n q a, whole) (lay_behind p v w t count is room)

  pub reduced_more : (a : List ℕ) → ReducedRows (gf degree) points (drop l lengths) (drop q a)
      ↔ (Zero (gf degree) (drop k (reduce (gf degree) k points (take (columns c) (drop q a))))
      × ReducedRows (gf degree) points (drop (l + 1) lengths) (drop (q + columns c) a))
  reduced_more a = rw (cut h, ← drop-drop (columns c) q a) (λ z. z, λ z. z)
