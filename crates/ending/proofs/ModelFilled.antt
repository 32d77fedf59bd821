-- Wrong columns filled in: an array that agrees with a code array wherever the flag is 0 is filled in to that code array.
--
--   enough_right   no more columns are wrong than the flags add up to
--   row_filled     one row, of which the columns whose flag is 0 have the values of a polynomial with k coefficients
--   filled_code    all rows
-- Assumes nothing.
use mathlib.Core.Path.{◌≡◌, refl, sym, ap, ap₂, ◌∙◌}
use mathlib.Core.Bool.{Bool, true, false}
use mathlib.Core.List.{List, [], ◌∷◌, ◌++◌}
use Prim.Native.Nat.{ℕ, zero, suc, ◌+◌, ◌*◌, ◌≤◌, ◌<◌}
use native.Mathlib.Omega.{arith}
use lib.ListN.{length, get_or, take, drop, length-take, length-drop}
use lib.Seq.{get_or-take}
use Rattle.field.specs.Arithmetic.{Arithmetic, gf}
use Rattle.field.proofs.Laws.{Field}
use Rattle.poly.specs.Poly.{All, Poly, value, values_at}
use Rattle.poly.proofs.Forms.{reduce, from_newton, newton_value_lem}
use Rattle.poly.proofs.Newton.{newton_value, newton_unique}
use Rattle.poly.proofs.Roots.{Distinct, distinct-take}
use Rattle.codes.specs.Code.{Code, rows, columns, total, IsMessage, IsArray, encoded_rows, encoded}
use Rattle.codes.specs.Lost.{right}
use Rattle.codes.proofs.Parts.{all_take, all_drop, poly_take, row_length, rest_length}
use Rattle.codes.proofs.Proper.{Proper}
use Rattle.codes.proofs.Limits.{Room}
use Rattle.codes.proofs.Messages.{first_row, other_rows}
use Rattle.codes.proofs.Flags.{points_where, all_where, distinct_where}
use Rattle.codes.proofs.Columns.{Agree}
use Rattle.ending.proofs.Model.{filled_row, filled_in, filled_rows, filled}

-- the flag of a column is 0
unflagged : List ℕ → ℕ → Bool
unflagged [] i = true
unflagged (zero ∷ fs) zero = true
unflagged (suc f ∷ fs) zero = false
unflagged (f ∷ fs) (suc i) = unflagged fs i

module _ {K : Type 0} where
  right_where : (fs : List ℕ) (xs : List K) → length fs ≡ length xs → right fs xs ≡ points_where (unflagged fs) xs
  unfolding right points_where unflagged
  right_where [] [] l = refl
  right_where [] (x ∷ xs) l = absurd (omega arith)
  right_where (f ∷ fs) [] l = absurd (omega arith)
  right_where (zero ∷ fs) (x ∷ xs) l = ap (◌∷◌ x) (right_where fs xs (omega arith))
  right_where (suc f ∷ fs) (x ∷ xs) l = right_where fs xs (omega arith)

  enough_right : (fs : List ℕ) (xs : List K) → length fs ≡ length xs → length xs ≤ length (right fs xs) + total fs
  unfolding right total
  enough_right [] [] l = omega arith
  enough_right [] (x ∷ xs) l = absurd (omega arith)
  enough_right (f ∷ fs) [] l = omega arith
  enough_right (zero ∷ fs) (x ∷ xs) l = omega (arith, enough_right fs xs (omega arith))
  enough_right (suc f ∷ fs) (x ∷ xs) l = omega (arith, enough_right fs xs (omega arith))

module _ (A : Arithmetic ℕ) where
  -- the columns of ys whose flag is 0 have the values of f
  abbrev Right : List ℕ → List ℕ → List ℕ → List ℕ → Type 0
  Right fs xs ys f = (i : ℕ) → i < length xs → get_or fs i 0 ≡ 0 → get_or ys i 0 ≡ get_or (values_at A xs f) i 0

  take_values : (k : ℕ) (xs f : List ℕ) → take k (values_at A xs f) ≡ values_at A (take k xs) f
  unfolding values_at
  take_values zero xs f = refl
  take_values (suc k) [] f = refl
  take_values (suc k) (x ∷ xs) f = ap (◌∷◌ (value A f x)) (take_values k xs f)

  right_values : (fs xs ys f : List ℕ) → length fs ≡ length xs → length ys ≡ length xs → Right fs xs ys f
      → right fs ys ≡ values_at A (right fs xs) f
  unfolding right values_at
  right_values [] xs ys f l k h = refl
  right_values (a ∷ fs) [] ys f l k h = absurd (omega arith)
  right_values (a ∷ fs) (x ∷ xs) [] f l k h = absurd (omega arith)
  right_values (zero ∷ fs) (x ∷ xs) (y ∷ ys) f l k h =
      ap₂ ◌∷◌ (h 0 (omega arith) refl) (right_values fs xs ys f (omega arith) (omega arith) (λ i q. h (suc i) (omega arith)))
  right_values (suc a ∷ fs) (x ∷ xs) (y ∷ ys) f l k h =
      right_values fs xs ys f (omega arith) (omega arith) (λ i q. h (suc i) (omega arith))

  filled_values : (k : ℕ) (gs us fs xs ys f : List ℕ) → length fs ≡ length xs → length ys ≡ length xs → Right fs xs ys f
      → ((x : ℕ) → newton_value_lem A k gs us x ≡ value A f x) → filled_row A k gs us fs xs ys ≡ values_at A xs f
  unfolding filled_row values_at
  filled_values k gs us [] [] ys f l j h v = refl
  filled_values k gs us [] (x ∷ xs) ys f l j h v = absurd (omega arith)
  filled_values k gs us (a ∷ fs) [] ys f l j h v = absurd (omega arith)
  filled_values k gs us (a ∷ fs) (x ∷ xs) [] f l j h v = absurd (omega arith)
  filled_values k gs us (zero ∷ fs) (x ∷ xs) (y ∷ ys) f l j h v = ap₂ ◌∷◌
      (h 0 (omega arith) refl)
      (filled_values k gs us fs xs ys f (omega arith) (omega arith) (λ i q. h (suc i) (omega arith)) v)
  filled_values k gs us (suc a ∷ fs) (x ∷ xs) (y ∷ ys) f l j h v = ap₂ ◌∷◌
      (v x)
      (filled_values k gs us fs xs ys f (omega arith) (omega arith) (λ i q. h (suc i) (omega arith)) v)

module _ (A : Arithmetic ℕ) (𝓕 : Field A) (fs xs : List ℕ) (flags : length fs ≡ length xs) (distinct : Distinct xs)
    (points : All A.In xs)
  where
    open A use {In}

    right_distinct : Distinct (right fs xs)
    right_distinct = rw (right_where fs xs flags) (distinct_where (unflagged fs) xs distinct)

    right_symbols : All In (right fs xs)
    right_symbols = rw (right_where fs xs flags) (all_where In (unflagged fs) xs points)

    row_filled : (k : ℕ) (ys f : List ℕ) → length ys ≡ length xs → k + total fs ≤ length xs → Poly A k f → Right A fs xs ys f
        → filled_in A k fs xs ys ≡ values_at A xs f
    unfolding filled_in
    row_filled k ys f l r p h =
        let gs : List ℕ = take k (right fs xs) in
        let us : List ℕ = reduce A k gs (take k (right fs ys)) in
        let values : take k (right fs ys) ≡ values_at A gs f =
        ap (take k) (right_values A fs xs ys f flags l h) ∙ take_values A k (right fs xs) f in
        let newton : from_newton A k gs us ≡ f =
        ap (λ (vs : List ℕ). from_newton A k gs (reduce A k gs vs)) values
        ∙ newton_unique A 𝓕 k gs f
        (distinct-take k (right fs xs) right_distinct)
        (all_take In k (right fs xs) right_symbols)
        (omega (arith, length-take k (right fs xs), enough_right fs xs flags))
        p in
        filled_values A k gs us fs xs ys f flags l h (λ x. newton_value A 𝓕 k gs us x ∙ ap (λ (q : List ℕ). value A q x) newton)

    rows_filled : (ks y m : List ℕ) → length y ≡ length ks * length xs → Room (length xs) (total fs) ks
        → length m ≡ total ks → All In m
        → ((i : ℕ) → i < length xs → get_or fs i 0 ≡ 0 → Agree (length ks) (length xs) i y (encoded_rows A xs ks m))
        → filled_rows A fs xs ks y ≡ encoded_rows A xs ks m
    unfolding filled_rows encoded_rows total
    rows_filled [] y m l r lm s h = refl
    rows_filled (k ∷ ks) y m l r lm s h = ap₂ ◌++◌
        (row_filled k (take n y) (take k m) (row_length (length ks) n y l) r.0 (poly_take A k m (omega arith) s) first)
        (rows_filled ks (drop n y) (drop k m)
        (rest_length (length ks) n y l)
        r.1
        (omega (arith, length-drop k m))
        (all_drop In k m s)
        others)
      where
        n : ℕ
        n = length xs

        first : Right A fs xs (take n y) (take k m)
        first i q z =
            get_or-take n y i 0 q
            ∙ (h i q z).0
            ∙ sym (get_or-take n (encoded_rows A xs (k ∷ ks) m) i 0 q)
            ∙ ap (λ (row : List ℕ). get_or row i 0) (first_row A 𝓕 xs k ks m)

        others : (i : ℕ) → i < n → get_or fs i 0 ≡ 0 → Agree (length ks) n i (drop n y) (encoded_rows A xs ks (drop k m))
        others i q z = rw (other_rows A 𝓕 xs k ks m) at (h i q z).1

pub filled_code : {c : Code} (p : Proper c) {y m : List ℕ} → IsArray c y → IsMessage c m
    → (fs : List ℕ) → length fs ≡ columns c → Room (columns c) (total fs) c.lengths
    → ((i : ℕ) → i < columns c → get_or fs i 0 ≡ 0 → Agree (rows c) (columns c) i y (encoded c m))
    → filled c y fs ≡ encoded c m
filled_code {c} p {y} {m} received message fs l r h =
    rows_filled (gf c.degree) p.field fs c.points l p.distinct p.symbols c.lengths y m
    received.count
    r
    message.count
    message.symbols
    h
