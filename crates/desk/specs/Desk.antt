-- The desk and its calls: 01, 'The desk'; 02, 2026-08 and 2026-11. A promise fixes the outcome and the next desk.

--   desk_code d, array_of d   the code of a desk, and its array of r·n symbols; desk_description d, the code with its factors
--   zero_desk D              the desk of the description D with an array of zeros; desk_of, a desk from its fields; zeros n, n zeros
--   spare                   the description of the desk that a refused opening hands over
--   open_checks, put_checks   the checks, in order
--   Opens D r               opening with the description D hands over r
--   Above d n xs k ys t     t is k zeros, and from k on the coefficients of the polynomial with the n values ys at the points xs
--   nonzero_rows r n t       how many of the r rows of n symbols of t have a nonzero one; Known d, `above` and `misfits` of d are these
--   with_column n i s a      a, of rows of n symbols, with the symbols s, one a row, in column i; with_array d a t v, d with these instead
--   placed d i s            the desk with the symbols s in column i; Next d i s e, e is so and Known; Puts d i s r, a put hands back r
--   Made d                  d came from opening and putting
use Rattle.std.specs.Prelude.{◌≡◌, List, [], ◌∷◌, ◌++◌, ℕ, ◌+◌, ◌*◌, ◌<◌, leb, get_or, set, take, drop, replicate}
use Rattle.patch.specs.Parts.{part, lay}
use Rattle.refusal.specs.Refusal.{Check, ◌when◌, some_outside, some_outside_field}
use Rattle.field.specs.Arithmetic.{gf}
use Rattle.poly.specs.Poly.{Poly, values_at}
use Rattle.codes.specs.Code.{Code, code_of, columns, rows, total, flags_from}
use Rattle.codes.specs.Factors.{Description, plain, divided}
use Rattle.codes.specs.Checks.{shape_checks, column_checks, wrong_length}
use Rattle.mark.specs.Promises.{meaning, Hands}
use Rattle.desk.specs.declared.Desk.{Desk}
use Rattle.mark.specs.declared.Handed.{Handed}

abbrev pub desk_code : Desk → Code
desk_code d = code_of d.degree (take d.columns d.points) (take d.rows d.lengths)

-- 02, 2026-11: 'The code description, shared by encoder, reader, decoders, tray and desk, gains n factors'
abbrev pub desk_description : Desk → Description
desk_description d = record { code = desk_code d; factors = take d.columns d.factors }

abbrev pub array_of : Desk → List ℕ
array_of d = take (d.rows * d.columns) d.array

unfoldable pub zeros : ℕ → List ℕ
zeros n = replicate n 0

abbrev pub desk_of : (d n r : ℕ) (xs fs ks a t : List ℕ) (v : ℕ) → Desk
desk_of d n r xs fs ks a t v =
    record { degree = d; columns = n; rows = r; points = xs; factors = fs; lengths = ks; array = a; above = t; misfits = v }

-- 'Opening takes a degree, points and k … and holds an array of zeros'; 'gains n factors'. Places the code does not use are zero.
abbrev pub zero_desk : Description → Desk
zero_desk D = desk_of D.code.degree (columns D.code) (rows D.code) (lay 0 D.code.points (zeros 16))
    (lay 0 D.factors (zeros 16)) (lay 0 D.code.lengths (zeros 4)) (zeros 64) (zeros 64) 0

-- 'the zero desk of GF(4) with points 0 1 and k 1'; 02, 2026-11: 'the zero desk of a refused opening has ones'
abbrev pub spare : Description
spare = plain (code_of 2 (0 ∷ 1 ∷ []) (1 ∷ []))

-- 'under checks 1, 2, 3, 4, 6' (18 after 4: 02, 2026-05); '3: count of points is not … (desk: 1 to 16)'; 02, 2026-11: 'a missing or
-- spare factor is 5, at opening a desk too, after 4 and 18; 23, a factor outside the field or zero, after 6'
abbrev pub open_checks : Description → List Check
open_checks D = shape_checks 16 D.code ++ (5 when wrong_length (columns D.code) D.factors) ∷ column_checks D

-- 'a refused opening hands over, beside its number, the zero desk of GF(4) with points 0 1 and k 1'
abbrev pub Opens : Description → Handed Desk → Type 0
Opens D r = Hands (open_checks D) (λ d. d ≡ zero_desk D) (zero_desk spare) (meaning r.outcome, r.next)

-- 02, 2026-08: 'for every row, the coefficients of its interpolating polynomial from k_l upward'
abbrev pub Above : (d n : ℕ) (xs : List ℕ) (k : ℕ) (ys t : List ℕ) → Type 0
Above d n xs k ys t = (f : List ℕ) × Poly (gf d) n f × (values_at (gf d) xs f ≡ ys) × (t ≡ replicate k 0 ++ drop k f)

-- 'and the number of rows where any is nonzero'
unfoldable pub nonzero_rows : ℕ → ℕ → List ℕ → ℕ
nonzero_rows r n t = total (flags_from (λ l. some_outside 0 0 (part (l * n) n t)) 0 r)

-- 'Keep with the desk' these, laid out as the array, zero elsewhere; 2026-11: 'y is the symbol divided by its column's factor'
pub record Known (d : Desk) : Type 0 where
  pub each : (l : ℕ) → l < d.rows → let n = d.columns in let row = part (l * n) n in
      Above d.degree n (desk_code d).points (get_or d.lengths l 0) (row (divided (desk_description d) (array_of d))) (row d.above)
  pub rest : d.above ≡ lay 0 (take (d.rows * d.columns) d.above) (zeros 64)
  pub number : d.misfits ≡ nonzero_rows d.rows d.columns d.above

-- arrays are row after row: the next row's place is n further on
unfoldable pub with_column : ℕ → ℕ → List ℕ → List ℕ → List ℕ
with_column n i [] a = a
with_column n i (s ∷ ss) a = with_column n (i + n) ss (set a i s)

abbrev pub with_array : Desk → List ℕ → List ℕ → ℕ → Desk
with_array d a t v = desk_of d.degree d.columns d.rows d.points d.factors d.lengths a t v

-- 'it replaces that column and nothing else'
abbrev pub placed : Desk → ℕ → List ℕ → Desk
placed d i s = with_array d (with_column d.columns i s d.array) d.above d.misfits

-- 'Putting a column takes its number and r symbols (checks 14, 5, 7)'; '14: column number is not below n'; '5: … a desk column r'
abbrev pub put_checks : Desk → ℕ → List ℕ → List Check
put_checks d i s =
    (14 when leb d.columns i)
    ∷ (5 when wrong_length d.rows s)
    ∷ (7 when some_outside_field d.degree s) ∷ []

-- 02, 2026-08: 'Opening and putting a column keep them true.'
abbrev pub Next : Desk → ℕ → List ℕ → Desk → Type 0
Next d i s e = (e ≡ with_array d (placed d i s).array e.above e.misfits) × Known e

-- 'A refused call leaves the desk as it was'
abbrev pub Puts : Desk → ℕ → List ℕ → Handed Desk → Type 0
Puts d i s r = Hands (put_checks d i s) (Next d i s) d (meaning r.outcome, r.next)

-- 'That a desk came from opening and putting is the one premise that a desk call may have.'
pub data Made : Desk → Type 0 where
  opened : (D : Description) (r : Handed Desk) → Opens D r → Made r.next
  put : (d : Desk) (i : ℕ) (s : List ℕ) (r : Handed Desk) → Made d → Puts d i s r → Made r.next
