-- Wrong columns filled in: the rows of the model.
--
--   row_is          a row merged with the values at the points whose mark is zero is the model's row
--   coefficients, newton, row_filled    what the code makes of a row: its Newton coefficients, and the row filled in
--   rows-length     they are as long as the array
--   filled_more     a row filled in, laid before the rows that are left
--   flags_count, wrong_count_lem, enough_right, longest_right, right_points    the flags, the wrong columns, and the right ones
--                   with their points
-- Assumes nothing.
use mathlib.Core.Path.{◌≡◌, refl, sym, ap, ◌∙◌}
use mathlib.Core.List.{List, [], ◌∷◌, ◌++◌, map}
use Prim.Native.Nat.{ℕ, zero, suc, ◌+◌, ◌*◌, ◌≤◌, ◌<◌}
use native.Mathlib.Nat.{suc-mul, zero-mul}
use native.Mathlib.Omega.{arith}
use lib.ListN.{length, get_or, take, drop, length-append, length-map}
use lib.Seq.{drop-drop, length-take-le, take-take}
use Rattle.patch.specs.Parts.{lay}
use Rattle.patch.proofs.Parts.{take-lay, lay_behind}
use Rattle.field.specs.Symbols.{IsSymbol}
use Rattle.field.specs.Arithmetic.{gf}
use Rattle.field.proofs.Laws.{Field}
use Rattle.poly.proofs.Forms.{reduce, newton_value_lem}
use Rattle.poly.proofs.Differences.{length_reduce, last_round}
use Rattle.codes.specs.Code.{Code, columns, largest, total}
use Rattle.codes.specs.Lost.{right}
use Rattle.rows.specs.Working.Rows.{Points}
use Rattle.codes.proofs.Parts.{all_take, row_length, rest_length}
use Rattle.codes.proofs.Proper.{Proper}
use Rattle.codes.proofs.Limits.{Room, room_largest}
use Rattle.codes.proofs.Right.{all_right, distinct_right}
use Rattle.ending.proofs.Model.{filled_row, filled_in, filled_rows}
use Rattle.finish.specs.Working.{zeros_in, put, refilled, Marked}
use Rattle.conditions.proofs.Places.{RowAt, next, row_left, row_size}
use Rattle.finish.proofs.Marks.{zeros-count, right-count, right_others, distinct-take}

module _ (d : ℕ) where
  filled_length : (k : ℕ) (gs us fs xs ys : List ℕ) → length fs ≡ length xs → length ys ≡ length xs
      → length (filled_row (gf d) k gs us fs xs ys) ≡ length xs
  unfolding filled_row
  filled_length k gs us [] [] ys e l = refl
  filled_length k gs us [] (x ∷ xs) ys e l = absurd (omega arith)
  filled_length k gs us (f ∷ fs) [] ys e l = refl
  filled_length k gs us (f ∷ fs) (x ∷ xs) [] e l = absurd (omega arith)
  filled_length k gs us (zero ∷ fs) (x ∷ xs) (y ∷ ys) e l = ap suc (filled_length k gs us fs xs ys (omega arith) (omega arith))
  filled_length k gs us (suc f ∷ fs) (x ∷ xs) (y ∷ ys) e l = ap suc (filled_length k gs us fs xs ys (omega arith) (omega arith))

  filled_count : (k : ℕ) (fs xs ys : List ℕ) → length fs ≡ length xs → length ys ≡ length xs
      → length (filled_in (gf d) k fs xs ys) ≡ length xs
  unfolding filled_in
  filled_count k fs xs ys e l =
      filled_length k (take k (right fs xs)) (reduce (gf d) k (take k (right fs xs)) (take k (right fs ys))) fs xs ys e l

  put_filled : (k : ℕ) (gs us ms xs ys : List ℕ) → length ms ≡ length xs → length ys ≡ length xs
      → put ms (map (newton_value_lem (gf d) k gs us) (right ms xs)) ys ≡ filled_row (gf d) k gs us (zeros_in ms) xs ys
  unfolding put right filled_row zeros_in
  put_filled k gs us [] [] [] e l = refl
  put_filled k gs us [] [] (y ∷ ys) e l = absurd (omega arith)
  put_filled k gs us [] (x ∷ xs) ys e l = absurd (omega arith)
  put_filled k gs us (m ∷ ms) [] ys e l = absurd (omega arith)
  put_filled k gs us (m ∷ ms) (x ∷ xs) [] e l = absurd (omega arith)
  put_filled k gs us (zero ∷ ms) (x ∷ xs) (y ∷ ys) e l =
      ap (◌∷◌ (newton_value_lem (gf d) k gs us x)) (put_filled k gs us ms xs ys (omega arith) (omega arith))
  put_filled k gs us (suc m ∷ ms) (x ∷ xs) (y ∷ ys) e l = ap (◌∷◌ y) (put_filled k gs us ms xs ys (omega arith) (omega arith))

  refilled_row : (k : ℕ) (ms xs ys : List ℕ) → length ms ≡ length xs → length ys ≡ length xs → k ≤ length (right (zeros_in ms) xs)
      → refilled d (take k (right (zeros_in ms) xs)) (right ms xs) (zeros_in ms) ms ys ≡ filled_in (gf d) k (zeros_in ms) xs ys
  unfolding refilled filled_in
  refilled_row k ms xs ys e l h =
      let gs : List ℕ = take k (right (zeros_in ms) xs) in
      let size : length gs ≡ k = length-take-le k (right (zeros_in ms) xs) h in
      rw size (put_filled k gs (reduce (gf d) k gs (take k (right (zeros_in ms) ys))) ms xs ys e l)

  -- the same of the rows that the code is lent
  pub row_is : (k : ℕ) (ms xs ys : List ℕ) {gs ws fs : List ℕ} → gs ≡ take k (right fs xs) → ws ≡ right ms xs → fs ≡ zeros_in ms
      → length ms ≡ length xs → length ys ≡ length xs → k ≤ length (right fs xs) → refilled d gs ws fs ms ys ≡ filled_in (gf d) k fs xs ys
  row_is k ms xs ys good wrong flags e l h = rw (good, wrong, flags) (refilled_row k ms xs ys e l (rw flags at h))

  abbrev pub coefficients : (gs fs ys : List ℕ) → List ℕ
  coefficients gs fs ys = reduce (gf d) (length gs) gs (take (length gs) (right fs ys))

  -- a row gathered, reduced in all rounds but the last, evaluated and merged, as the code stores it
  module _ (𝓕 : Field (gf d)) (gs ws fs ms ys : List ℕ) (z us' : List ℕ) {us : List ℕ} (gathered : us ≡ lay 0 (right fs ys) z)
      {k : ℕ} (rounds : length gs ≡ suc k) (reduced : take (length gs) us' ≡ reduce (gf d) k gs (take (length gs) us))
      (few : length gs ≤ length (right fs ys)) (fits : length (right fs ys) ≤ length z)
    where
      first-right : take (length gs) us ≡ take (length gs) (right fs ys)
      first-right =
          sym (take-take (length gs) (length (right fs ys)) us few)
          ∙ ap (take (length gs)) (take-lay (right fs ys) z gathered refl fits)

      pub newton : take (length gs) us' ≡ coefficients gs fs ys
      newton =
          reduced
          ∙ ap (reduce (gf d) k gs) first-right
          ∙ last_round (gf d) 𝓕 k gs _ rounds (length-take-le (length gs) (right fs ys) few ∙ rounds)
          ∙ ap (λ (n : ℕ). reduce (gf d) n gs (take (length gs) (right fs ys))) (sym rounds)

      pub row_filled : (z' : List ℕ) {vs : List ℕ}
          → vs ≡ lay 0 (map (newton_value_lem (gf d) (length (take (length gs) us')) gs (take (length gs) us')) ws) z' → length ws ≤ length z'
          → put ms (take (length ws) vs) ys ≡ refilled d gs ws fs ms ys
      unfolding refilled
      row_filled z' valued room =
          let value : ℕ → ℕ = newton_value_lem (gf d) (length gs) gs (coefficients gs fs ys) in
          let size : length (coefficients gs fs ys) ≡ length gs =
          length_reduce (gf d) 𝓕 (length gs) gs (take (length gs) (right fs ys)) (length-take-le (length gs) (right fs ys) few) in
          let same : map (newton_value_lem (gf d) (length (take (length gs) us')) gs (take (length gs) us')) ws ≡ map value ws =
          rw (newton, size) in
          ap (λ (v : List ℕ). put ms v ys)
          (take-lay (map value ws) z' (valued ∙ ap (λ (v : List ℕ). lay 0 v z') same) (length-map ws value) room)

  module _ (fs xs : List ℕ) (e : length fs ≡ length xs) where
    pub rows-length : (ks y : List ℕ) → length y ≡ length ks * length xs → length (filled_rows (gf d) fs xs ks y) ≡ length ks * length xs
    unfolding filled_rows
    rows-length [] y l = omega (arith, zero-mul (length xs))
    rows-length (k ∷ ks) y l =
        let n : ℕ = length xs in
        omega (
          arith,
          suc-mul (length ks) n,
          length-append (filled_in (gf d) k fs xs (take n y)) (filled_rows (gf d) fs xs ks (drop n y)),
          filled_count k fs xs (take n y) e (row_length (length ks) n y l),
          rows-length ks (drop n y) (rest_length (length ks) n y l),
        )

    pub filled_more : (ks y : List ℕ) → length y ≡ length ks * length xs → {l at : ℕ} → RowAt (length xs) ks l at → l < length ks
        → (t : List ℕ) {s : List ℕ} → s ≡ lay at (filled_in (gf d) (get_or ks l 0) fs xs (take (length xs) (drop at y))) t
        → length ks * length xs ≤ length t
        → lay (at + length xs) (filled_rows (gf d) fs xs (drop (l + 1) ks) (drop (at + length xs) y)) s
        ≡ lay at (filled_rows (gf d) fs xs (drop l ks) (drop at y)) t
    unfolding filled_rows
    filled_more ks y array {l} {at} p h t is fits =
        let n : ℕ = length xs in
        let k : ℕ = get_or ks l 0 in
        let row : List ℕ = filled_in (gf d) k fs xs (take n (drop at y)) in
        let rest : List ℕ = filled_rows (gf d) fs xs (drop (l + 1) ks) (drop n (drop at y)) in
        let whole : filled_rows (gf d) fs xs (drop l ks) (drop at y) ≡ row ++ rest = rw (next ks l h) in
        let count : length row ≡ n = filled_count k fs xs (take n (drop at y)) e (row_size n ks p h y array) in
        let room : at + length (row ++ rest) ≤ length t =
        omega (arith, ap length whole, rows-length (drop l ks) (drop at y) (row_left n ks p y array), p.array) in
        rw (← drop-drop n at y, whole) (lay_behind at row rest t count is room)

-- columns are wrong where the mark is zero and the flag is not
module _ {c : Code} {fs ms : List ℕ} (m : Marked c fs ms) where
  pub flags_count : length fs ≡ columns c
  flags_count = ap length m.flags ∙ zeros-count ms ∙ m.count

  pub wrong_count_lem : total (zeros_in ms) ≡ length (right ms c.points)
  wrong_count_lem = sym (right-count ms c.points (sym m.count))

  others : (ys : List ℕ) → length ys ≡ columns c → length (right fs ys) + total fs ≡ length ys
  others ys e = rw m.flags (right_others ms ys (e ∙ sym m.count))

  pub enough_right : (ys : List ℕ) → length ys ≡ columns c → (l : ℕ) → l < length c.lengths
      → get_or c.lengths l 0 ≤ length (right fs ys)
  enough_right ys e l h = omega (arith, others ys e, room_at c.lengths m.room l h)
    where
      room_at : (ks : List ℕ) → Room (columns c) (total fs) ks → (l : ℕ) → l < length ks → get_or ks l 0 + total fs ≤ columns c
      room_at [] r l h = absurd (omega arith)
      room_at (k ∷ ks) r zero h = r.0
      room_at (k ∷ ks) r (suc l) h = room_at ks r.1 l (omega arith)

  module _ {gs : List ℕ} (good : gs ≡ right fs c.points) where
    pub longest_right : largest c.lengths ≤ length gs
    longest_right =
        rw good (omega (arith, others c.points refl, room_largest (columns c) (total fs) c.lengths m.room))

    pub right_points : Proper c → (k : ℕ) → Points c.degree (take k gs)
    right_points p k = rw good (record {
      symbols = all_take (IsSymbol c.degree) k (right fs c.points) (all_right (IsSymbol c.degree) fs c.points p.symbols);
      distinct = distinct-take k (right fs c.points) (distinct_right fs c.points p.distinct);
    })
