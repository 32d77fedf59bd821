-- The head of a record.
--
--   few_bytes               fewer than two bytes are no wrong mark
--   two_bytes               two bytes are compared with the mark
--   rows_out, rows_in_lem       where the count of rows is out of range, and where it is in range
--   in-range, rows-most, columns-most    what a head in range says
--   Sizes b r n             r rows and n columns of a head in range; sizes_of, so it is
--   wants_mark, wants_no_more, wants_head, wants_head-alone, wants_all    how many bytes are wanted, case by case
-- Assumes nothing.
use mathlib.Core.Path.{◌≡◌, sym, ◌∙◌, ap₂}
use mathlib.Core.Bool.{true, false, not}
use mathlib.Core.List.{List, [], ◌∷◌}
use Prim.Native.Nat.{ℕ, ◌+◌, ◌*◌, ◌≤◌, ◌<◌}
use native.Mathlib.Nat.{mul-le-mul}
use native.Mathlib.Omega.{arith}
use lib.Dec.{eqb}
use native.Mathlib.Decide.{ℕ_discrete}
use Rattle.std.specs.List.{starts_with}
use lib.ListN.{length}
use borrow.Author.Tests.{lt-ltb, le-ltb, le-leb, lt-leb, eq-eqb, ne_eqb}
use Rattle.refusal.specs.Refusal.{outside}
use Rattle.refusal.proofs.Laws.{neither, within}
use Rattle.record.specs.Records.{mark, begins, no_mark, out_of_range, rows_in, columns_in, size_in, wanted}

pub few_bytes : (b : List ℕ) → length b < 2 → no_mark b ≡ false
unfolding no_mark
few_bytes b h = rw (lt-leb 2 (length b) h)

eqb_swap : (a b : ℕ) → eqb a b ≡ eqb b a
eqb_swap a b = go (ℕ_discrete a b)
  where
    go : Dec (a ≡ b) → eqb a b ≡ eqb b a
    go (yes e) = eq-eqb a b e ∙ sym (eq-eqb b a (sym e))
    go (no d) = ne_eqb a b d ∙ sym (ne_eqb b a (λ e. d (sym e)))

pub two_bytes : (b : List ℕ) → 2 ≤ length b → not (starts_with eqb b mark) ≡ no_mark b
unfolding no_mark begins
two_bytes [] h = absurd (omega arith)
two_bytes (x ∷ []) h = absurd (omega arith)
two_bytes (x ∷ y ∷ b) h = simp (le-leb 2 (length (x ∷ y ∷ b)) h, eqb_swap x 66, eqb_swap y 77)

pub rows_out : (b : List ℕ) → outside 1 4 (rows_in b) ≡ true → out_of_range b ≡ true
unfolding out_of_range
rows_out b h = rw h

pub rows_in_lem : (b : List ℕ) → outside 1 4 (rows_in b) ≡ false → out_of_range b ≡ outside 1 96 (columns_in b)
unfolding out_of_range
rows_in_lem b h = rw h

module _ (b : List ℕ) (h : out_of_range b ≡ false) where
  pub in-range : (outside 1 4 (rows_in b) ≡ false) × (outside 1 96 (columns_in b) ≡ false)
  unfolding out_of_range
  in-range = neither _ _ h

  pub rows-most : (1 ≤ rows_in b) × (rows_in b ≤ 4)
  rows-most = within 1 4 (rows_in b) in-range.0

  pub columns-most : (1 ≤ columns_in b) × (columns_in b ≤ 96)
  columns-most = within 1 96 (columns_in b) in-range.1

pub record Sizes (b : List ℕ) (r n : ℕ) : Type 0 where
  pub rows : r ≤ 4
  pub columns : n ≤ 96
  pub cells : r * n ≤ 384
  pub total : 6 + r + n + r * n ≡ size_in b

pub sizes_of : {b : List ℕ} {r n : ℕ} → out_of_range b ≡ false → r ≡ rows_in b → n ≡ columns_in b → Sizes b r n
unfolding size_in
sizes_of {b} {r} {n} h p q =
    let rows : r ≤ 4 = omega (arith, (rows-most b h).1) in
    let columns : n ≤ 96 = omega (arith, (columns-most b h).1) in
    record { rows = rows; columns = columns; cells = mul-le-mul rows columns; total = ap₂ (λ (r n : ℕ). 6 + r + n + r * n) p q }

module _ (b : List ℕ) where
  pub wants_mark : length b < 2 → wanted b ≡ 2
  unfolding wanted
  wants_mark h = rw (lt-ltb (length b) 2 h)

  pub wants_no_more : 2 ≤ length b → no_mark b ≡ true → wanted b ≡ 2
  unfolding wanted
  wants_no_more h m = rw (le-ltb (length b) 2 h, m)

  pub wants_head : 2 ≤ length b → no_mark b ≡ false → length b < 5 → wanted b ≡ 5
  unfolding wanted
  wants_head h m l = rw (le-ltb (length b) 2 h, m, lt-ltb (length b) 5 l)

  pub wants_head-alone : no_mark b ≡ false → 5 ≤ length b → out_of_range b ≡ true → wanted b ≡ 5
  unfolding wanted
  wants_head-alone m l o = rw (le-ltb (length b) 2 (omega arith), m, le-ltb (length b) 5 l, o)

  pub wants_all : no_mark b ≡ false → 5 ≤ length b → out_of_range b ≡ false → wanted b ≡ size_in b
  unfolding wanted
  wants_all m l o = rw (le-ltb (length b) 2 (omega arith), m, le-ltb (length b) 5 l, o)
