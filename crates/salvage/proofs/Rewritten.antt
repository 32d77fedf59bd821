-- A record with other symbols.
--
--   front b, back b    the bytes of a record before its symbols, and what follows these
--   rewritten_is       the record with the symbols a is its front and a
--   Fronted h          a front, of the size that it says itself; fronted, that of a whole record is one
--   old_symbols        the symbols of a whole record, and old_is, the record of them; columns_with, symbols_of, length_with, with others
--   record_with_lem w h y   what the decoding of a record is given whose front is h and whose symbols are y; record_with, so it is
-- Assumes nothing.
use mathlib.Core.Path.{◌≡◌, refl, sym, ap, ap₂, ◌∙◌}
use mathlib.Core.Bool.{Bool, true, false, ◌&&◌}
use mathlib.Core.List.{List, [], ◌∷◌, ◌++◌}
use Prim.Native.Nat.{ℕ, suc, ◌+◌, ◌*◌, ◌≤◌, ◌<◌}
use native.Mathlib.Omega.{arith}
use lib.Dec.{eqb}
use lib.ListN.{length, get_or, take, drop, replicate, take-append-drop, length-append, length-drop, get_or-append}
use lib.Seq.{length-take-le, take-length, drop_at, take-append-add}
use borrow.Author.Tests.{le-leb, eqb-true, not-false}
use Rattle.patch.specs.Parts.{part}
use Rattle.joint.specs.Promises.{Given, given, buffers}
use Rattle.record.specs.Records.{mark, begins, no_mark, rows_in, columns_in, lengths_in, limit_in, points_in, symbols_in, size_in, stop_of}
use Rattle.record.specs.Records.{described_in}
use Rattle.record.specs.Promises.{record_in}
use Rattle.record.proofs.Wholes.{Whole, whole_of}
use Rattle.record.proofs.Enough as enough
use Rattle.salvage.specs.Pieces.{rewritten}

-- bytes that begin with the mark begin with it
both_true : (x y : Bool) → x && y ≡ true → (x ≡ true) × (y ≡ true)
both_true true true e = (refl, refl)
both_true true false e = absurd (let z : ◌≡◌ {A = ℕ} 0 1 = cc in omega arith)
both_true false y e = absurd (let z : ◌≡◌ {A = ℕ} 0 1 = cc in omega arith)

marked : (b : List ℕ) → 2 ≤ length b → no_mark b ≡ false → (k : ℕ) → mark ++ take k (drop 2 b) ≡ take (suc (suc k)) b
unfolding no_mark begins
marked [] h m k = absurd (omega arith)
marked (x ∷ []) h m k = absurd (omega arith)
marked (x ∷ y ∷ b) h m k =
    let found : eqb x 66 && (eqb y 77 && true) ≡ true = not-false _ (rw (le-leb 2 (length (x ∷ y ∷ b)) h) at m) in
    let (first, rest) = both_true _ _ found in
    ap₂ (λ (u v : ℕ). u ∷ v ∷ take k b) (sym (eqb-true x 66 first)) (sym (eqb-true y 77 (both_true _ _ rest).0))

abbrev pub front : List ℕ → List ℕ
front b = take (6 + rows_in b + columns_in b) b

abbrev pub back : List ℕ → List ℕ
back b = drop (6 + rows_in b + columns_in b) b

pub record Fronted (h : List ℕ) : Type 0 where
  pub five : 5 ≤ length h
  pub long : length h ≡ 6 + rows_in h + columns_in h

abbrev pub record_with_lem : (w h y : List ℕ) → Given
record_with_lem w h y =
    given (described_in h) (limit_in h) y (buffers (replicate (rows_in h * columns_in h) 0) (replicate (columns_in h) 0)) w

module _ (h : List ℕ) (f : Fronted h) (x : List ℕ) where
  pub symbols_with : symbols_in (h ++ x) ≡ take (rows_in h * columns_in h) x
  unfolding symbols_in
  symbols_with =
      let r = enough.at h x f.five 3 (omega arith) in
      let n = enough.at h x f.five 4 (omega arith) in
      ap₂ (λ (r n : ℕ). take (r * n) (drop (6 + r + n) (h ++ x))) r n
      ∙ ap (take (rows_in h * columns_in h)) (drop_at h x (6 + rows_in h + columns_in h) f.long)

  pub record_with : (w : List ℕ) → record_in w (h ++ x) ≡ record_with_lem w h (take (rows_in h * columns_in h) x)
  unfolding lengths_in limit_in points_in
  record_with w =
      let d = enough.at h x f.five 2 (omega arith) in
      let r = enough.at h x f.five 3 (omega arith) in
      let n = enough.at h x f.five 4 (omega arith) in
      let ks = ap (λ (k : ℕ). take k (drop 5 (h ++ x))) r ∙ enough.part h x f.five 5 (rows_in h) (omega (arith, f.long)) in
      let t = ap (λ (k : ℕ). get_or (h ++ x) (5 + k) 0) r ∙ get_or-append h x 0 (5 + rows_in h) (omega (arith, f.long)) in
      let xs = ap₂ (λ (r n : ℕ). take n (drop (6 + r) (h ++ x))) r n
      ∙ enough.part h x f.five (6 + rows_in h) (columns_in h) (omega (arith, f.long)) in
      let ys = symbols_with in
      cc

module _ (b : List ℕ) (z : stop_of b ≡ 0) where
  abbrev held : Whole b
  held = whole_of b z

  pub all : front b ++ back b ≡ b
  all = take-append-drop (6 + rows_in b + columns_in b) b

  pub front_long : length (front b) ≡ 6 + rows_in b + columns_in b
  unfolding size_in
  front_long = length-take-le (6 + rows_in b + columns_in b) b (omega (arith, held.complete))

  same : (i : ℕ) → i < 5 → get_or b i 0 ≡ get_or (front b) i 0
  same i h = ap (λ (l : List ℕ). get_or l i 0) (sym all) ∙ enough.at (front b) (back b) (omega (arith, front_long)) i h

  pub rows_front : rows_in (front b) ≡ rows_in b
  rows_front = sym (same 3 (omega arith))

  pub columns_front : columns_in (front b) ≡ columns_in b
  columns_front = sym (same 4 (omega arith))

  pub fronted : Fronted (front b)
  fronted = record { five = omega (arith, front_long); long = omega (arith, front_long, rows_front, columns_front) }

  pub rewritten_is : (a : List ℕ) → rewritten b a ≡ front b ++ a
  unfolding rewritten part
  rewritten_is a =
      let e : 6 + rows_in b + columns_in b ≡ suc (suc (4 + rows_in b + columns_in b)) = omega arith in
      ap (λ (v : List ℕ). v ++ a)
      (marked b (omega (arith, held.five)) held.marked (4 + rows_in b + columns_in b) ∙ ap (λ (k : ℕ). take k b) (sym e))

  abbrev cells : ℕ
  cells = rows_in b * columns_in b

  cells_front : rows_in (front b) * columns_in (front b) ≡ cells
  cells_front = ap₂ ◌*◌ rows_front columns_front

  -- the symbols as they stand in b
  unfoldable pub old_symbols : List ℕ
  old_symbols = take cells (back b)

  pub old_long : length old_symbols ≡ cells
  unfolding size_in old_symbols
  old_long = length-take-le cells (back b) (omega (arith, held.complete, length-drop (6 + rows_in b + columns_in b) b))

  pub old_is : take (size_in b) b ≡ front b ++ old_symbols
  unfolding size_in old_symbols
  old_is =
      let e : 6 + rows_in b + columns_in b + cells ≡ length (front b) + cells = omega (arith, front_long) in
      ap₂ take e (sym all) ∙ take-append-add (front b) (back b) cells

  pub size_long : length (take (size_in b) b) ≡ size_in b
  size_long = length-take-le (size_in b) b held.complete

  module _ (x : List ℕ) where
    pub columns_with : columns_in (front b ++ x) ≡ columns_in b
    columns_with = enough.at (front b) x fronted.five 4 (omega arith) ∙ columns_front

    module _ (long : length x ≡ cells) where
      pub symbols_of : symbols_in (front b ++ x) ≡ x
      symbols_of = symbols_with (front b) fronted x ∙ ap (λ (k : ℕ). take k x) (cells_front ∙ sym long) ∙ take-length x

      pub length_with : length (front b ++ x) ≡ size_in b
      unfolding size_in
      length_with = omega (arith, length-append (front b) x, front_long)
