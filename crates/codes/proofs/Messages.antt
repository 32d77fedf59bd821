-- A message and its code array: each determines the other, and whether an array is a code array can be decided.
--
--   message_of c a       row after row, the polynomial of the row's first k divided differences
--   Reduced c a         the values that k rounds of divided differences leave are zero in every row
--   encoded_array       encoding a message gives an array
--   read-back           what was encoded is read back
--   one_message         two messages with one code array are equal
--   code_array_exactly  an array is a code array exactly when its reduced values are zero; then message_of is its message
--   is_code_array       so it can be decided
-- Assumes nothing.
use mathlib.Core.Path.{◌≡◌, refl, sym, ap, ap₂, ◌∙◌, subst}
use mathlib.Core.Logic.Dec
use mathlib.Core.Logic.Iff
use mathlib.Core.Logic.{◌↔◌}
use mathlib.Core.List.{List, [], ◌∷◌, ◌++◌}
use Prim.Native.Nat.{ℕ, ◌*◌}
use native.Mathlib.Nat.{zero-mul, suc-mul}
use native.Mathlib.Omega.{arith}
use lib.ListN.{length, take, drop, length-append, length-drop, take-append-drop}
use lib.Seq.{take_at, drop_at}
use Rattle.field.specs.Arithmetic.{Arithmetic, gf}
use Rattle.field.proofs.Laws.{Field}
use Rattle.poly.specs.Poly.{All, Zero, values_at}
use Rattle.poly.proofs.Forms.{reduce, from_newton}
use Rattle.poly.proofs.Sums.{is_zero}
use Rattle.poly.proofs.Values.{length-values, symbols_values}
use Rattle.poly.proofs.Roots.{Distinct}
use Rattle.poly.proofs.Differences.{length_reduce, symbols_reduce}
use Rattle.poly.proofs.OneOff.{row_exactly}
use Rattle.poly.proofs.Newton.{length_newton, symbols_newton, newton_row, newton_unique}
use Rattle.codes.specs.Code.{Code, total, IsMessage, IsArray, encoded_rows, encoded, CodeArray}
use Rattle.codes.proofs.Parts.{all_take, all_drop, all_append, poly_take, row_length, rest_length, empty}
use Rattle.codes.proofs.Proper.{Within, Proper}

module _ {K : Type 0} (A : Arithmetic K) where
  -- the message of an array, by rows of which each has its polynomial
  unfoldable pub message_rows : List K → List ℕ → List K → List K
  message_rows xs [] a = []
  message_rows xs (k ∷ ks) a =
      from_newton A k xs (reduce A k xs (take (length xs) a)) ++ message_rows xs ks (drop (length xs) a)

  abbrev pub ReducedRows : List K → List ℕ → List K → Type 0
  ReducedRows xs [] a = Unit {0}
  ReducedRows xs (k ∷ ks) a =
      Zero A (drop k (reduce A k xs (take (length xs) a))) × ReducedRows xs ks (drop (length xs) a)

abbrev pub message_of : Code → List ℕ → List ℕ
message_of c a = message_rows (gf c.degree) c.points c.lengths a

abbrev pub Reduced : Code → List ℕ → Type 0
Reduced c a = ReducedRows (gf c.degree) c.points c.lengths a

module _ {K : Type 0} (A : Arithmetic K) (𝓕 : Field A) where
  open A use {In}

  pub length-encoded : (xs : List K) (ks : List ℕ) (m : List K) → length (encoded_rows A xs ks m) ≡ length ks * length xs
  unfolding encoded_rows
  length-encoded xs [] m = sym (zero-mul (length xs))
  length-encoded xs (k ∷ ks) m = omega (
    arith,
    suc-mul (length ks) (length xs),
    length-append (values_at A xs (take k m)) (encoded_rows A xs ks (drop k m)),
    length-values A 𝓕 xs (take k m),
    length-encoded xs ks (drop k m),
  )

  symbols_encoded : (xs : List K) (ks : List ℕ) (m : List K) → All In m → All In (encoded_rows A xs ks m)
  unfolding encoded_rows
  symbols_encoded xs [] m s = tt
  symbols_encoded xs (k ∷ ks) m s = all_append
      In
      (values_at A xs (take k m))
      (encoded_rows A xs ks (drop k m))
      (symbols_values A 𝓕 xs (take k m) (all_take In k m s))
      (symbols_encoded xs ks (drop k m) (all_drop In k m s))

  symbols_message : (xs : List K) (ks : List ℕ) (a : List K) → All In a → All In (message_rows A xs ks a)
  unfolding message_rows
  symbols_message xs [] a s = tt
  symbols_message xs (k ∷ ks) a s =
      let row : List K = take (length xs) a in
      all_append
      In
      (from_newton A k xs (reduce A k xs row))
      (message_rows A xs ks (drop (length xs) a))
      (symbols_newton A 𝓕 k xs (reduce A k xs row) (symbols_reduce A 𝓕 k xs row (all_take In (length xs) a s)))
      (symbols_message xs ks (drop (length xs) a) (all_drop In (length xs) a s))

  -- the first row of an encoded array, and the others
  pub first_row : (xs : List K) (k : ℕ) (ks : List ℕ) (m : List K)
      → take (length xs) (encoded_rows A xs (k ∷ ks) m) ≡ values_at A xs (take k m)
  unfolding encoded_rows
  first_row xs k ks m = take_at (values_at A xs (take k m)) (encoded_rows A xs ks (drop k m)) (length xs) (length-values A 𝓕 xs (take k m))

  pub other_rows : (xs : List K) (k : ℕ) (ks : List ℕ) (m : List K)
      → drop (length xs) (encoded_rows A xs (k ∷ ks) m) ≡ encoded_rows A xs ks (drop k m)
  unfolding encoded_rows
  other_rows xs k ks m = drop_at (values_at A xs (take k m)) (encoded_rows A xs ks (drop k m)) (length xs) (length-values A 𝓕 xs (take k m))

  is_reduced : (xs : List K) (ks : List ℕ) (a : List K) → Dec (ReducedRows A xs ks a)
  is_reduced xs [] a = yes tt
  is_reduced xs (k ∷ ks) a =
      Dec.and (is_zero A 𝓕 (drop k (reduce A k xs (take (length xs) a)))) (is_reduced xs ks (drop (length xs) a))

  module _ (xs : List K) (distinct : Distinct xs) (points : All In xs) where
    rows_back : (ks : List ℕ) (m : List K) → Within 1 (length xs) ks → length m ≡ total ks → All In m
        → message_rows A xs ks (encoded_rows A xs ks m) ≡ m
    unfolding message_rows total
    rows_back [] m w l s = empty m l
    rows_back (k ∷ ks) m w l s =
        let first : from_newton A k xs (reduce A k xs (take (length xs) (encoded_rows A xs (k ∷ ks) m))) ≡ take k m =
        ap (λ (r : List K). from_newton A k xs (reduce A k xs r)) (first_row xs k ks m)
        ∙ newton_unique A 𝓕 k xs (take k m) distinct points w.0.1 (poly_take A k m (omega arith) s) in
        let others : message_rows A xs ks (drop (length xs) (encoded_rows A xs (k ∷ ks) m)) ≡ drop k m =
        ap (message_rows A xs ks) (other_rows xs k ks m)
        ∙ rows_back ks (drop k m) w.1 (omega (arith, length-drop k m)) (all_drop In k m s) in
        ap₂ ◌++◌ first others ∙ take-append-drop k m

    rows_reduced : (ks : List ℕ) (m : List K) → Within 1 (length xs) ks → length m ≡ total ks → All In m
        → ReducedRows A xs ks (encoded_rows A xs ks m)
    unfolding total
    rows_reduced [] m w l s = tt
    rows_reduced (k ∷ ks) m w l s =
        let f : List K = take k m in
        let h = poly_take A k m (omega arith) s in
        let row : Zero A (drop k (reduce A k xs (values_at A xs f))) = (row_exactly A 𝓕 k xs (values_at A xs f)
        distinct
        points
        (symbols_values A 𝓕 xs f h.symbols)
        (length-values A 𝓕 xs f)
        w.0.1).0 (f, h, refl) in (
          rw (first_row xs k ks m) row,
          rw (other_rows xs k ks m) (rows_reduced ks (drop k m) w.1 (omega (arith, length-drop k m)) (all_drop In k m s)),
        )

    length-first : (k : ℕ) (ks : List ℕ) (a : List K) → Within 1 (length xs) (k ∷ ks) → length a ≡ length (k ∷ ks) * length xs
        → length (from_newton A k xs (reduce A k xs (take (length xs) a))) ≡ k
    length-first k ks a w l =
        let row : List K = take (length xs) a in
        let r : length row ≡ length xs = row_length (length ks) (length xs) a l in
        length_newton A 𝓕 k xs (reduce A k xs row) w.0.1 (omega (arith, length_reduce A 𝓕 k xs row r))

    pub length_message : (ks : List ℕ) (a : List K) → Within 1 (length xs) ks → length a ≡ length ks * length xs
        → length (message_rows A xs ks a) ≡ total ks
    unfolding message_rows total
    length_message [] a w l = refl
    length_message (k ∷ ks) a w l = omega (
      arith,
      length-append (from_newton A k xs (reduce A k xs (take (length xs) a))) (message_rows A xs ks (drop (length xs) a)),
      length-first k ks a w l,
      length_message ks (drop (length xs) a) w.1 (rest_length (length ks) (length xs) a l),
    )

    rows_message : (ks : List ℕ) (a : List K) → Within 1 (length xs) ks → length a ≡ length ks * length xs → All In a
        → ReducedRows A xs ks a → encoded_rows A xs ks (message_rows A xs ks a) ≡ a
    unfolding message_rows encoded_rows
    rows_message [] a w l s z = empty a (l ∙ zero-mul (length xs))
    rows_message (k ∷ ks) a w l s z =
        let row : List K = take (length xs) a in
        let rest : List K = drop (length xs) a in
        let f : List K = from_newton A k xs (reduce A k xs row) in
        let m : List K = message_rows A xs ks rest in
        let lf : length f ≡ k = length-first k ks a w l in
        let first : values_at A xs f ≡ row = (newton_row A 𝓕 k xs row
        distinct
        points
        (all_take In (length xs) a s)
        (row_length (length ks) (length xs) a l)
        w.0.1).1 z.0 in
        let others : encoded_rows A xs ks m ≡ rest =
        rows_message ks rest w.1 (rest_length (length ks) (length xs) a l) (all_drop In (length xs) a s) z.1 in
        ap₂ ◌++◌
        (ap (values_at A xs) (take_at f m k lf) ∙ first)
        (ap (encoded_rows A xs ks) (drop_at f m k lf) ∙ others)
        ∙ take-append-drop (length xs) a

module _ {c : Code} (p : Proper c) where
  pub encoded_array : {m : List ℕ} → IsMessage c m → IsArray c (encoded c m)
  encoded_array {m} h = record {
    count = length-encoded (gf c.degree) p.field c.points c.lengths m;
    symbols = symbols_encoded (gf c.degree) p.field c.points c.lengths m h.symbols;
  }

  pub code_array : {a : List ℕ} → CodeArray c a → IsArray c a
  code_array {a} (m, h, e) = subst (IsArray c) e (encoded_array h)

  pub array_message : {a : List ℕ} → IsArray c a → IsMessage c (message_of c a)
  array_message {a} h = record {
    count = length_message (gf c.degree) p.field c.points p.distinct p.symbols c.lengths a p.lengths h.count;
    symbols = symbols_message (gf c.degree) p.field c.points c.lengths a h.symbols;
  }

  -- 'reading gives back what was encoded'
  pub read_back : {m : List ℕ} → IsMessage c m → message_of c (encoded c m) ≡ m
  read_back {m} h =
      rows_back (gf c.degree) p.field c.points p.distinct p.symbols c.lengths m p.lengths h.count h.symbols

  -- a code array has one message
  pub one_message : {m m' : List ℕ} → IsMessage c m → IsMessage c m' → encoded c m ≡ encoded c m' → m ≡ m'
  one_message h h' e = sym (read_back h) ∙ ap (message_of c) e ∙ read_back h'

  pub encoded_reduced : {m : List ℕ} → IsMessage c m → Reduced c (encoded c m)
  encoded_reduced {m} h =
      rows_reduced (gf c.degree) p.field c.points p.distinct p.symbols c.lengths m p.lengths h.count h.symbols

  -- the message of an array whose reduced values are zero
  pub its_message : {a : List ℕ} → IsArray c a → Reduced c a → encoded c (message_of c a) ≡ a
  its_message {a} h z =
      rows_message (gf c.degree) p.field c.points p.distinct p.symbols c.lengths a p.lengths h.count h.symbols z

  pub code_array_exactly : {a : List ℕ} → IsArray c a → CodeArray c a ↔ Reduced c a
  code_array_exactly {a} h = (λ (m, g, e). subst (Reduced c) e (encoded_reduced g), λ z. (message_of c a, array_message h, its_message h z))

  pub is_code_array : {a : List ℕ} → IsArray c a → Dec (CodeArray c a)
  is_code_array {a} h = Dec.of_iff
      (Iff.symm (code_array_exactly h))
      (is_reduced (gf c.degree) p.field c.points c.lengths a)
