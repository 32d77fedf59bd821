-- Wrong sectors, and the words of H(m) that are near a ring.
--
--   sector_flags_lem           the wrong sectors of a ring are the wrong columns of its array
--   is_code                a code array has q³ symbols
--   nearest_word           the ring of the nearest code array is the nearest word, whatever counts of rings as of their arrays
--   near_exactly           a word is within τ sectors exactly when a code array is within τ columns of the array
--   far_words              where no code array is so near, no word is
-- Assumes nothing.
use mathlib.Core.Path.{◌≡◌, refl, sym, ap, ◌∙◌, subst}
use mathlib.Core.Logic.Iff
use mathlib.Core.Logic.{◌↔◌}
use mathlib.Core.Bool.{Bool, true, false, true≢false}
use mathlib.Core.List.{List}
use Prim.Native.Nat.{ℕ, ◌+◌, ◌*◌, ◌≤◌, ◌<◌}
use native.Mathlib.Omega.{arith}
use lib.ListN.{length, get_or}
use lib.Seq.{ext_get_or}
use Rattle.patch.specs.Parts.{part}
use Rattle.patch.proofs.Parts.{get_d_part}
use Rattle.codes.specs.Code.{CodeArray, differs_at, flags_of}
use Rattle.codes.specs.Near.{Nearest, Near, Far}
use Rattle.codes.proofs.Columns.{differs_exactly}
use Rattle.codes.proofs.Flags.{flags_same}
use Rattle.hermitian.specs.Ring.{ring_code, RingWord, IsRing, ring_of, differs_in, sector_flags}
use Rattle.hermitian.specs.Checks.{bad_size, bad_order}
use Rattle.hermitian.proofs.Numbers.{length-numbers}
use Rattle.hermitian.proofs.Rings.{array_of, is_ring, length-sector, ring_of_array, array_of_ring, same_sector}
use Rattle.hermitian.proofs.Words.{encoded_ring, word_ring, words_exactly}

-- a sector does not differ exactly when its symbols are the same
same_symbols : (q : ℕ) (v w : List ℕ) (x : ℕ) → length (part (x * q) q v) ≡ q → length (part (x * q) q w) ≡ q
    → (differs_in q v w x ≡ false) ↔ (part (x * q) q v ≡ part (x * q) q w)
same_symbols q v w x lv lw = Iff.trans (differs_exactly q 1 (x * q) v w) (to, from)
  where
    place : (u : List ℕ) (l : ℕ) → l < q → get_or (part (x * q) q u) l 0 ≡ get_or u (l * 1 + x * q) 0
    place u l h = get_d_part (x * q) q u l h ∙ ap (λ (i : ℕ). get_or u i 0) (omega arith)

    to : ((l : ℕ) → l < q → get_or v (l * 1 + x * q) 0 ≡ get_or w (l * 1 + x * q) 0) → part (x * q) q v ≡ part (x * q) q w
    to h = ext_get_or 0 (part (x * q) q v) (part (x * q) q w) (omega arith)
        (λ l k. let below : l < q = omega arith in place v l below ∙ h l below ∙ sym (place w l below))

    from : part (x * q) q v ≡ part (x * q) q w → (l : ℕ) → l < q → get_or v (l * 1 + x * q) 0 ≡ get_or w (l * 1 + x * q) 0
    from e l h = sym (place v l h) ∙ ap (λ (u : List ℕ). get_or u l 0) e ∙ place w l h

same_test : (a b : Bool) → (a ≡ false) ↔ (b ≡ false) → a ≡ b
same_test true true h = refl
same_test true false h = absurd (true≢false (h.1 refl))
same_test false true h = absurd (true≢false (h.0 refl))
same_test false false h = refl

module _ (q m : ℕ) (size : bad_size q ≡ false) where
  same_difference : {v w : List ℕ} → IsRing q v → IsRing q w → (x : ℕ) → x < q * q
      → differs_at (ring_code q m) (array_of q v) (array_of q w) x ≡ differs_in q v w x
  same_difference {v} {w} h g x k = same_test _ _ (Iff.trans (same_sector q size m h g x k) (from.1, from.0))
    where
      from : (differs_in q v w x ≡ false) ↔ (part (x * q) q v ≡ part (x * q) q w)
      from = same_symbols q v w x (length-sector q size x v k h.count) (length-sector q size x w k g.count)

  pub sector_flags_lem : {v w : List ℕ} → IsRing q v → IsRing q w → flags_of (ring_code q m) (array_of q v) (array_of q w) ≡ sector_flags q v w
  sector_flags_lem {v} {w} h g = rw (length-numbers (q * q))
      (flags_same (differs_at (ring_code q m) (array_of q v) (array_of q w)) (differs_in q v w) (q * q) (same_difference h g))

  module _ (order : bad_order q m ≡ false) where
    is_word : {v : List ℕ} → RingWord q m v → IsRing q v
    is_word (f, i, e) = subst (IsRing q) e (word_ring q m size order i)

    pub is_code : {a : List ℕ} → CodeArray (ring_code q m) a → IsRing q a
    is_code (f, i, e) = subst (IsRing q) e (encoded_ring q m size order i)

    word_array : {v : List ℕ} → RingWord q m v → CodeArray (ring_code q m) (array_of q v)
    word_array h = (words_exactly q m size order (is_word h)).0 h

    array_word : {a : List ℕ} → CodeArray (ring_code q m) a → RingWord q m (ring_of q a)
    array_word {a} h = (words_exactly q m size order (is_ring q size (is_code h))).1
        (subst (CodeArray (ring_code q m)) (sym (array_of_ring q size (is_code h))) h)

    -- what counts of a ring as much as of its array
    module _ (columns sectors : List ℕ → ℕ) (same : (v : List ℕ) → IsRing q v → columns (array_of q v) ≡ sectors v) where
      ring_count : {a : List ℕ} → CodeArray (ring_code q m) a → columns a ≡ sectors (ring_of q a)
      ring_count h = ap columns (sym (array_of_ring q size (is_code h))) ∙ same _ (is_ring q size (is_code h))

      pub nearest_word : {τ w : ℕ} {a : List ℕ} → Nearest (CodeArray (ring_code q m)) columns τ w a
          → Nearest (RingWord q m) sectors τ w (ring_of q a)
      nearest_word {w = w} h = record {
        code = array_word h.code;
        wrong = sym (ring_count h.code) ∙ h.wrong;
        within = h.within;
        others = λ u i apart. subst (λ (k : ℕ). w < k) (same _ (is_word i))
            (h.others (array_of q u) (word_array i) (λ e. apart (sym (ring_of_array q size (is_word i)) ∙ ap (ring_of q) e)));
      }

      pub near_exactly : (τ : ℕ) → Near (CodeArray (ring_code q m)) columns τ ↔ Near (RingWord q m) sectors τ
      near_exactly τ = (
        λ (a, h, n). (ring_of q a, array_word h, subst (λ (k : ℕ). k ≤ τ) (ring_count h) n),
        λ (v, h, n). (array_of q v, word_array h, subst (λ (k : ℕ). k ≤ τ) (sym (same _ (is_word h))) n),
      )

      pub far_words : {τ : ℕ} → Far (CodeArray (ring_code q m)) columns τ → Far (RingWord q m) sectors τ
      far_words {τ} h v i = subst (λ (k : ℕ). τ < k) (same _ (is_word i)) (h (array_of q v) (word_array i))
