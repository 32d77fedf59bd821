-- The powers of a row, and the columns in which those of two rows differ.
--
--   length_row, get_or_row, row_in     how long a power is, what stands in it, and that it is of symbols
--   row_one                  the first power is the row itself
--   length-rows, rows_in_lem     the same of the powers, row after row
--   first-power, other_powers    the first of them, and the others
--   rows_array               they are an array of the s rows
--   first_row                the first row of the powers 1 to s is the row itself; so the powers tell rows apart
--   flags_powers             the powers of two rows differ in a column exactly where the rows differ there
-- Assumes nothing.
use mathlib.Core.Path.{◌≡◌, refl, sym, ap, ap₂, ◌∙◌}
use mathlib.Core.Bool.{Bool, false, not, ◌||◌}
use mathlib.Core.List.{List, [], ◌∷◌, flat_map}
use Prim.Native.Nat.{ℕ, zero, suc, ◌*◌, ◌≤◌, ◌<◌}
use native.Mathlib.Nat.{suc-mul, zero-mul}
use native.Mathlib.Decide.{ℕ_discrete}
use native.Mathlib.Omega.{arith}
use lib.Dec.{eqb}
use lib.ListN.{length, get_or, take, drop, length-append, length-map, get_or-append}
use lib.Seq.{take_at, drop_at}
use borrow.Author.Tests.{eq-eqb, ne_eqb}
use Rattle.field.specs.Symbols.{IsSymbol, raised}
use Rattle.field.specs.Arithmetic.{gf}
use Rattle.field.proofs.Laws.{Field}
use Rattle.poly.specs.Poly.{All}
use Rattle.codes.specs.Code.{IsArray, differs, differs_at, flags_of, up_from}
use Rattle.codes.proofs.Parts.{all_append, all-at}
use Rattle.codes.proofs.Flags.{flags_same}
use Rattle.power_checks.specs.Powers.{power_row, power_rows, row_code, power_code}
use Rattle.power_checks.proofs.Sizes.{length_powers}
use Rattle.powers.specs.Working.{power_rows_from, Row}
use Rattle.powers.proofs.Polynomials.{raised_in, raised_one}

module _ (d : ℕ) where
  pub length_row : (i : ℕ) (z : List ℕ) → length (power_row d i z) ≡ length z
  unfolding power_row
  length_row i z = length-map z (λ a. raised d a i)

  pub get_or_row : (i : ℕ) (z : List ℕ) (j : ℕ) → j < length z → get_or (power_row d i z) j 0 ≡ raised d (get_or z j 0) i
  unfolding power_row
  get_or_row i [] j h = absurd (omega arith)
  get_or_row i (a ∷ z) zero h = refl
  get_or_row i (a ∷ z) (suc j) h = get_or_row i z j (omega arith)

  pub length-rows : (i s : ℕ) (z : List ℕ) → length (power_rows_from d i s z) ≡ s * length z
  unfolding up_from flat_map
  length-rows i zero z = sym (zero-mul (length z))
  length-rows i (suc s) z = omega (
    arith,
    length-append (power_row d i z) (power_rows_from d (suc i) s z),
    length_row i z,
    length-rows (suc i) s z,
    suc-mul s (length z),
  )

  module _ (i s : ℕ) (z : List ℕ) where
    pub first-power : take (length z) (power_rows_from d i (suc s) z) ≡ power_row d i z
    unfolding up_from flat_map
    first-power = take_at (power_row d i z) (power_rows_from d (suc i) s z) (length z) (length_row i z)

    pub other_powers : drop (length z) (power_rows_from d i (suc s) z) ≡ power_rows_from d (suc i) s z
    unfolding up_from flat_map
    other_powers = drop_at (power_row d i z) (power_rows_from d (suc i) s z) (length z) (length_row i z)

    power_at : (j : ℕ) → j < length z → get_or (power_rows_from d i (suc s) z) j 0 ≡ raised d (get_or z j 0) i
    unfolding up_from flat_map
    power_at j h = get_or-append (power_row d i z) (power_rows_from d (suc i) s z) 0 j (omega (arith, length_row i z)) ∙ get_or_row i z j h

  -- where two rows agree, so do their powers
  agree_from : (i s n j : ℕ) (a b : List ℕ) → j < n → length a ≡ n → length b ≡ n → get_or a j 0 ≡ get_or b j 0
      → differs s n j (power_rows_from d i s a) (power_rows_from d i s b) ≡ false
  unfolding differs
  agree_from i zero n j a b h p q e = refl
  agree_from i (suc s) n j a b h p q e =
      ap₂ (λ (x y : Bool). not x || y)
      (eq-eqb _ _ (power_at i s a j (omega arith) ∙ ap (λ (c : ℕ). raised d c i) e ∙ sym (power_at i s b j (omega arith))))
      (ap₂ (differs s n j) (rest a p) (rest b q) ∙ agree_from (suc i) s n j a b h p q e)
    where
      rest : (c : List ℕ) → length c ≡ n → drop n (power_rows_from d i (suc s) c) ≡ power_rows_from d (suc i) s c
      rest c e = ap (λ (m : ℕ). drop m (power_rows_from d i (suc s) c)) (sym e) ∙ other_powers i s c

  module _ (𝓕 : Field (gf d)) where
    pub row_in : (i : ℕ) (z : List ℕ) → All (IsSymbol d) (power_row d i z)
    unfolding power_row
    row_in i [] = tt
    row_in i (a ∷ z) = (raised_in d 𝓕 a i, row_in i z)

    pub row_one : (z : List ℕ) → All (IsSymbol d) z → power_row d 1 z ≡ z
    unfolding power_row
    row_one [] h = refl
    row_one (a ∷ z) h = ap₂ ◌∷◌ (raised_one d 𝓕 a h.0) (row_one z h.1)

    pub rows_in_lem : (i s : ℕ) (z : List ℕ) → All (IsSymbol d) (power_rows_from d i s z)
    unfolding up_from flat_map
    rows_in_lem i zero z = tt
    rows_in_lem i (suc s) z =
        all_append (IsSymbol d) (power_row d i z) (power_rows_from d (suc i) s z) (row_in i z) (rows_in_lem (suc i) s z)

    pub first_row : (s : ℕ) (z : List ℕ) → 1 ≤ s → All (IsSymbol d) z → take (length z) (power_rows d s z) ≡ z
    first_row zero z some h = absurd (omega arith)
    first_row (suc s) z some h = first-power 1 s z ∙ row_one z h

    -- where they do not, the first power does not
    differ_first : (s n j : ℕ) (a b : List ℕ) → 1 ≤ s → j < n → length a ≡ n → length b ≡ n → All (IsSymbol d) a → All (IsSymbol d) b
        → differs s n j (power_rows d s a) (power_rows d s b) ≡ differs 1 n j a b
    unfolding differs
    differ_first zero n j a b some h p q u v = absurd (omega arith)
    differ_first (suc s) n j a b some h p q u v = go (ℕ_discrete (get_or a j 0) (get_or b j 0))
      where
        at : (c : List ℕ) → length c ≡ n → All (IsSymbol d) c → get_or (power_rows d (suc s) c) j 0 ≡ get_or c j 0
        at c e w = power_at 1 s c j (omega arith) ∙ raised_one d 𝓕 (get_or c j 0) (all-at (IsSymbol d) c j 0 (omega arith) w)

        rest : Bool
        rest = differs s n j (drop n (power_rows d (suc s) a)) (drop n (power_rows d (suc s) b))

        go : Dec (get_or a j 0 ≡ get_or b j 0)
            → (not (eqb (get_or (power_rows d (suc s) a) j 0) (get_or (power_rows d (suc s) b) j 0)) || rest)
            ≡ (not (eqb (get_or a j 0) (get_or b j 0)) || false)
        go (yes e) = agree_from 1 (suc s) n j a b h p q e ∙ sym (ap (λ (x : Bool). not x || false) (eq-eqb _ _ e))
        go (no e) = ap (λ (x : Bool). not x || rest) (ap₂ eqb (at a p u) (at b q v) ∙ ne_eqb _ _ e)
            ∙ sym (ap (λ (x : Bool). not x || false) (ne_eqb _ _ e))

    module _ (xs : List ℕ) (k s : ℕ) where
      pub rows_array : {z : List ℕ} → Row d (length xs) z → IsArray (power_code d xs k s) (power_rows d s z)
      rows_array {z} r = record {
        count = length-rows 1 s z ∙ ap₂ ◌*◌ (sym (length_powers k 1 s)) r.count;
        symbols = rows_in_lem 1 s z;
      }

      pub flags_powers : {a b : List ℕ} → 1 ≤ s → Row d (length xs) a → Row d (length xs) b
          → flags_of (power_code d xs k s) (power_rows d s a) (power_rows d s b) ≡ flags_of (row_code d xs k) a b
      flags_powers {a} {b} some p q = flags_same
          (differs_at (power_code d xs k s) (power_rows d s a) (power_rows d s b)) (differs_at (row_code d xs k) a b) (length xs)
          (λ j h. ap (λ (r : ℕ). differs r (length xs) j (power_rows d s a) (power_rows d s b)) (length_powers k 1 s)
          ∙ differ_first s (length xs) j a b some h p.count q.count p.symbols q.symbols)
