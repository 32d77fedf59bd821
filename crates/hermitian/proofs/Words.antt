-- Words of H(m), and the code arrays that are their arrays.
--
--   ring_word_lem           the word of a message is the ring of its code array
--   array_ring          the arrays of the code have q³ symbols
--   array_word          and the code array is the array of the word
--   words_exactly       a ring is a word exactly when its array is a code array
--   one_message         two messages with one word are equal
-- Assumes nothing.
use mathlib.Core.Path.{◌≡◌, refl, sym, ap, ap₂, ◌∙◌, subst, fun_ext}
use mathlib.Core.Logic.{◌↔◌}
use mathlib.Core.Bool.{false}
use mathlib.Core.List.{List, [], ◌∷◌, ◌++◌, map, map-map, map-append, flat_map}
use Prim.Native.Nat.{ℕ, ◌*◌, ◌<◌}
use native.Mathlib.Omega.{arith}
use lib.ListN.{length, get_or, take, drop, get_or-append}
use lib.Seq.{drop_at}
use Rattle.field.specs.Symbols.{plus, times}
use Rattle.field.specs.Arithmetic.{gf}
use Rattle.field.proofs.Laws.{Field}
use Rattle.poly.specs.Poly.{value, values_at}
use Rattle.poly.proofs.Values.{length-values}
use Rattle.codes.specs.Code.{IsMessage, IsArray, encoded_rows, encoded, CodeArray}
use Rattle.codes.proofs.Proper.{Proper}
use Rattle.codes.proofs.Messages
use Rattle.hermitian.specs.Ring.{numbers, sector, ring_points, ring_lengths, ring_code, value_at}
use Rattle.hermitian.specs.Ring.{ring_word, RingWord, IsRing, column, ring_of}
use Rattle.hermitian.specs.Checks.{bad_size, bad_order}
use Rattle.hermitian.proofs.Numbers.{length-numbers, map_at, number_at, flat_cong, column_cons}
use Rattle.hermitian.proofs.Sizes.{ring_proper, ring_rows, ring_cells}
use Rattle.hermitian.proofs.Rings.{ring_field, array_of, is_ring, ring_of_array, array_of_ring}

-- the values of g at the points of the sectors of xs, sector by sector
sectors_values : (q : ℕ) (g : ℕ × ℕ → ℕ) (xs : List ℕ)
    → map g (flat_map (λ x. map (λ y. (x, y)) (sector q x)) xs) ≡ flat_map (λ x. map (λ y. g (x, y)) (sector q x)) xs
unfolding flat_map
sectors_values q g [] = refl
sectors_values q g (x ∷ xs) =
    map-append g (map (λ y. (x, y)) (sector q x)) _
    ∙ ap₂ ◌++◌ (map-map g (λ y. (x, y)) (sector q x)) (sectors_values q g xs)

module _ (d : ℕ) (𝓕 : Field (gf d)) (xs : List ℕ) (x : ℕ) (below : x < length xs) where
  -- f(x, y) is the value at y of the column of the encoded rows at the point x
  value-column : (ks f : List ℕ) (y : ℕ)
      → value_at d ks f (get_or xs x 0) y ≡ value (gf d) (column (length ks) (length xs) (encoded_rows (gf d) xs ks f) x) y
  unfolding value_at encoded_rows value
  value-column [] f y = unfold column numbers in refl
  value-column (k ∷ ks) f y =
      let row : List ℕ = values_at (gf d) xs (take k f) in
      let rest : List ℕ = encoded_rows (gf d) xs ks (drop k f) in
      let size : length row ≡ length xs = length-values (gf d) 𝓕 xs (take k f) in
      let first : get_or (row ++ rest) x 0 ≡ value (gf d) (take k f) (get_or xs x 0) =
      get_or-append row rest 0 x (omega arith) ∙ unfold values_at in map_at (value (gf d) (take k f)) xs x 0 below in
      let others : column (length ks) (length xs) (drop (length xs) (row ++ rest)) x ≡ column (length ks) (length xs) rest x =
      ap (λ (l : List ℕ). column (length ks) (length xs) l x) (drop_at row rest (length xs) size) in
      sym (ap (λ (p : List ℕ). value (gf d) p y) (column_cons (length ks) (length xs) (row ++ rest) x ∙ ap₂ ◌∷◌ first others)
      ∙ ap (λ (v : ℕ). plus (value (gf d) (take k f) (get_or xs x 0)) (times d y v)) (sym (value-column ks (drop k f) y)))

-- an array of the code is q³ symbols
pub array_ring : (q m : ℕ) {a : List ℕ} → IsArray (ring_code q m) a ↔ IsRing q a
array_ring q m {a} = (
  λ h. record { count = h.count ∙ ring_cells q m; symbols = h.symbols },
  λ h. record { count = h.count ∙ sym (ring_cells q m); symbols = h.symbols },
)

module _ (q m : ℕ) (size : bad_size q ≡ false) where
  value_array : (f : List ℕ) (x y : ℕ) → x < q * q
      → value_at q (ring_lengths q m) f x y ≡ value (gf q) (column q (q * q) (encoded (ring_code q m) f) x) y
  value_array f x y h =
      let e = value-column q (ring_field q size) (numbers (q * q)) x (omega (arith, length-numbers (q * q))) (ring_lengths q m) f y in
      rw (number_at (q * q) x h, ring_rows q m, length-numbers (q * q)) at e

  -- the word of a message is the ring of its code array
  pub ring_word_lem : (f : List ℕ) → ring_word q m f ≡ ring_of q (encoded (ring_code q m) f)
  unfolding ring_word ring_points ring_of values_at
  ring_word_lem f =
      sectors_values q (λ (x, y). value_at q (ring_lengths q m) f x y) (numbers (q * q))
      ∙ flat_cong _ _ (q * q) (λ x k. ap (λ (g : ℕ → ℕ). map g (sector q x)) (fun_ext (λ y. value_array f x y k)))

  module _ (order : bad_order q m ≡ false) where
    abbrev proper : Proper (ring_code q m)
    proper = ring_proper q m size order

    pub encoded_ring : {f : List ℕ} → IsMessage (ring_code q m) f → IsRing q (encoded (ring_code q m) f)
    encoded_ring h = (array_ring q m).0 (Messages.encoded_array proper h)

    pub word_ring : {f : List ℕ} → IsMessage (ring_code q m) f → IsRing q (ring_word q m f)
    word_ring {f} h = subst (IsRing q) (sym (ring_word_lem f)) (is_ring q size (encoded_ring h))

    -- the code array of a message is the array of its word
    pub array_word : {f : List ℕ} → IsMessage (ring_code q m) f → array_of q (ring_word q m f) ≡ encoded (ring_code q m) f
    array_word {f} h = ap (array_of q) (ring_word_lem f) ∙ array_of_ring q size (encoded_ring h)

    -- a message has the word w exactly when it has the code array that is the array of w
    pub message_exactly : {w f : List ℕ} → IsRing q w → IsMessage (ring_code q m) f
        → (ring_word q m f ≡ w) ↔ (encoded (ring_code q m) f ≡ array_of q w)
    message_exactly {w} {f} h i = (
      λ e. sym (array_word i) ∙ ap (array_of q) e,
      λ e. ring_word_lem f ∙ ap (ring_of q) e ∙ ring_of_array q size h,
    )

    -- a ring is a word of H(m) exactly when its array is a code array
    pub words_exactly : {w : List ℕ} → IsRing q w → RingWord q m w ↔ CodeArray (ring_code q m) (array_of q w)
    words_exactly h = (λ (f, i, e). (f, i, (message_exactly h i).0 e), λ (f, i, e). (f, i, (message_exactly h i).1 e))

    -- a word has one message
    pub one_message : {f g : List ℕ} → IsMessage (ring_code q m) f → IsMessage (ring_code q m) g → ring_word q m f ≡ ring_word q m g → f ≡ g
    one_message i j e = Messages.one_message proper i j (sym (array_word i) ∙ ap (array_of q) e ∙ array_word j)
