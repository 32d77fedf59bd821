-- The verdict: 01, 'The desk', 'The verdict is the number of rows that are not values of a polynomial with at most k_l
-- coefficients.' 02, 2026-11: 'in the desk's interpolation y is the symbol divided by its column's factor'.

--   IsRow d xs k ys       the row ys is the values at the points xs of a polynomial with at most k coefficients
--   Misfits d xs ks a v   v of the rows of a, one for each length of ks, are not
--   Verdict d v           v is the verdict on the desk d; Judges d r, r is what the verdict on d hands back
use Rattle.std.specs.Prelude.{◌≡◌, List, [], ◌∷◌, ℕ, suc, length, take, drop}
use Rattle.field.specs.Arithmetic.{gf}
use Rattle.poly.specs.Poly.{Poly, values_at}
use Rattle.codes.specs.Factors.{divided}
use Rattle.desk.specs.Desk.{desk_code, desk_description, array_of}
use Rattle.desk.specs.declared.Desk.{Desk}
use Rattle.desk.specs.declared.Judged.{Judged}

abbrev pub IsRow : ℕ → List ℕ → ℕ → List ℕ → Type 0
IsRow d xs k ys = (f : List ℕ) × Poly (gf d) k f × (values_at (gf d) xs f ≡ ys)

-- row after row: a row that fits, and one that does not
pub data Misfits (d : ℕ) (xs : List ℕ) : List ℕ → List ℕ → ℕ → Type 0 where
  none : {a : List ℕ} → Misfits d xs [] a 0
  fits : {k : ℕ} {ks a : List ℕ} {v : ℕ} → IsRow d xs k (take (length xs) a) → Misfits d xs ks (drop (length xs) a) v
      → Misfits d xs (k ∷ ks) a v
  fits_not : {k : ℕ} {ks a : List ℕ} {v : ℕ} → (IsRow d xs k (take (length xs) a) → ⊥) → Misfits d xs ks (drop (length xs) a) v
      → Misfits d xs (k ∷ ks) a (suc v)

-- 'y is the symbol divided by its column's factor'
abbrev pub Verdict : Desk → ℕ → Type 0
Verdict d v = Misfits (desk_code d).degree (desk_code d).points (desk_code d).lengths (divided (desk_description d) (array_of d)) v

-- 'Each operation consumes the old desk and hands the new one back': the verdict hands it back as it was
pub record Judges (d : Desk) (r : Judged) : Type 0 where
  pub number : Verdict d r.verdict
  pub kept : r.desk ≡ d
