-- Sums of rings: a ring's array is additive, and adding a word moves no check.
--
--   ring_add            the ring of a sum of arrays
--   array_add           the array of a sum of rings
--   added_array         the array of a sum with a word is that with the code array of the word's message
--   added-checks        the checks of a decoding apply to a sum with a word as they did without
-- Assumes nothing.
use mathlib.Core.Path.{◌≡◌, refl, sym, ap, ap₂, ◌∙◌, subst}
use mathlib.Core.Bool.{Bool, false, not, ◌||◌}
use mathlib.Core.List.{List, [], ◌∷◌, ◌++◌, map, flat_map}
use Prim.Native.Nat.{ℕ, ◌+◌, ◌*◌}
use lib.Dec.{eqb, ltb}
use lib.ListN.{length, get_or}
use Rattle.refusal.specs.Refusal.{Check, ◌when◌, first, some_outside_field}
use Rattle.refusal.proofs.Ladders.{same_behind}
use Rattle.field.specs.Symbols.{IsSymbol, plus}
use Rattle.field.specs.Arithmetic.{gf}
use Rattle.poly.specs.Poly.{All, values_at, add}
use Rattle.poly.proofs.Sums.{symbols_add}
use Rattle.poly.proofs.Values.{length-values}
use Rattle.codes.specs.Code.{encoded}
use Rattle.codes.specs.Added.{Added}
use Rattle.codes.specs.Checks.{wrong_length, space_bytes}
use Rattle.codes.proofs.Sums.{add-append, values_add, length-sum, get_or-add, same_symbols}
use Rattle.hermitian.specs.Ring.{numbers, sector, ring_code, RingWord, IsRing, column, ring_of}
use Rattle.hermitian.specs.Checks.{bad_size, bad_order, ring_checks, received_checks}
use Rattle.hermitian.proofs.Rings.{ring_field, array_of, is_array, ring_of_array, array_of_ring}
use Rattle.hermitian.proofs.Words.{word_ring, array_word}
use Rattle.hermitian.proofs.Passed.{ring_passed}

map-add : (d : ℕ) (h f g : ℕ → ℕ) → ((j : ℕ) → h j ≡ plus (f j) (g j)) → (l : List ℕ) → map h l ≡ add (gf d) (map f l) (map g l)
unfolding add
map-add d h f g e [] = refl
map-add d h f g e (j ∷ l) = ap₂ ◌∷◌ (e j) (map-add d h f g e l)

column-add : (d r n : ℕ) (a b : List ℕ) (x : ℕ) → column r n (add (gf d) a b) x ≡ add (gf d) (column r n a x) (column r n b x)
unfolding column
column-add d r n a b x = map-add d (λ j. get_or (add (gf d) a b) (j * n + x) 0) (λ j. get_or a (j * n + x) 0) (λ j. get_or b (j * n + x) 0)
    (λ j. get_or-add d a b (j * n + x)) (numbers r)

module _ (q : ℕ) (size : bad_size q ≡ false) where
  infixl 60 ◌⊞◌
  abbrev ◌⊞◌ : List ℕ → List ℕ → List ℕ
  a ⊞ b = add (gf q) a b

  flat_add : (h f g : ℕ → List ℕ) → ((x : ℕ) → h x ≡ f x ⊞ g x) → ((x : ℕ) → length (f x) ≡ length (g x)) → (xs : List ℕ)
      → flat_map h xs ≡ flat_map f xs ⊞ flat_map g xs
  unfolding flat_map add
  flat_add h f g e s [] = refl
  flat_add h f g e s (x ∷ xs) =
      ap₂ ◌++◌ (e x) (flat_add h f g e s xs) ∙ sym (add-append (gf q) (ring_field q size) (f x) (flat_map f xs) (g x) (flat_map g xs) (s x))

  pub ring_add : (a b : List ℕ) → ring_of q (a ⊞ b) ≡ ring_of q a ⊞ ring_of q b
  unfolding ring_of
  ring_add a b = flat_add (at (a ⊞ b)) (at a) (at b)
      (λ x. ap (values_at (gf q) (sector q x)) (column-add q q (q * q) a b x)
      ∙ values_add (gf q) (ring_field q size) (sector q x) (column q (q * q) a x) (column q (q * q) b x))
      (λ x. count a x ∙ sym (count b x)) (numbers (q * q))
    where
      at : List ℕ → ℕ → List ℕ
      at a x = values_at (gf q) (sector q x) (column q (q * q) a x)

      count : (a : List ℕ) (x : ℕ) → length (at a x) ≡ length (sector q x)
      count a x = length-values (gf q) (ring_field q size) (sector q x) (column q (q * q) a x)

  is_ring_sum : {a b : List ℕ} → IsRing q a → IsRing q b → IsRing q (a ⊞ b)
  is_ring_sum {a} {b} h k = record {
    count = length-sum q a b (h.count ∙ sym k.count) ∙ h.count;
    symbols = symbols_add (gf q) (ring_field q size) a b h.symbols k.symbols;
  }

  pub array_add : {v w : List ℕ} → IsRing q v → IsRing q w → array_of q (v ⊞ w) ≡ array_of q v ⊞ array_of q w
  array_add {v} {w} h k =
      ap (array_of q) (ap₂ ◌⊞◌ (sym (ring_of_array q size h)) (sym (ring_of_array q size k)) ∙ sym (ring_add (array_of q v) (array_of q w)))
      ∙ array_of_ring q size (is_ring_sum (is_array q size h) (is_array q size k))

  pub added_array : (m : ℕ) (order : bad_order q m ≡ false) {y a z : List ℕ} → IsRing q y → (h : Added (RingWord q m) q y a z)
      → array_of q z ≡ array_of q y ⊞ encoded (ring_code q m) h.code.0
  added_array m order {y} {a} {z} i h =
      let word = subst (IsRing q) h.code.2 (word_ring q m size order h.code.1) in
      ap (array_of q) h.sum ∙ array_add i word
      ∙ ap (◌⊞◌ (array_of q y)) (ap (array_of q) (sym h.code.2) ∙ array_word q m size order h.code.1)

-- ---- of the checks

module _ (q m flags : ℕ) {y a z : List ℕ} (h : Added (RingWord q m) q y a z) (w f s : List ℕ) (ds : List Check) where
  -- those before 7, where a list of n symbols is received
  abbrev before : ℕ → List Check
  before n =
      ring_checks q m
      ++ (5 when not (eqb n (q * q * q)) || wrong_length (q * q * q) w || wrong_length flags f || ltb (length s) space_bytes)
      ∷ []

  symbols : 0 ≡ first (before (length y)) → All (IsSymbol q) a
  symbols e =
      let p = (ring_passed q m _ e).0 in
      subst (All (IsSymbol q)) h.code.2 (word_ring q m p.size p.order h.code.1).symbols

  pub added-checks : first (ring_checks q m ++ received_checks q flags z w f s ++ ds)
      ≡ first (ring_checks q m ++ received_checks q flags y w f s ++ ds)
  added-checks = rw h.sum
      (ap (λ (n : ℕ). first (before n ++ (7 when some_outside_field q (add (gf q) y a)) ∷ ds)) (length-sum q y a h.sized)
      ∙ same_behind (before (length y)) _ ((7 when some_outside_field q y) ∷ ds) tt
      (λ e. ap (λ (t : Bool). first ((7 when t) ∷ ds)) (same_symbols q y a h.sized (symbols e))))
