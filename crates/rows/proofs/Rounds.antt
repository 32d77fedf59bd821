-- Rounds of divided differences, each from the one before.
--
--   divisor, divisor_symbol    the difference of two points is not zero, and a symbol
--   times-inverse   a product with an inverse is a quotient
--   inverse-symbol  what a round multiplies by are symbols
--   reduce_more     one round more; round_of_row, one_more, the same as a patch of the row
--   take-patch, take-patch_beyond    the front of a list of which a part in it, or beyond its end, is written
--   front_step, front_symbols    a round that may go on behind the row: the row, and that all are still symbols
-- Assumes nothing.
use mathlib.Core.Path.{◌≡◌, refl, sym, ap, ◌∙◌}
use mathlib.Core.Bool.{false}
use mathlib.Core.Logic.{inl, inr}
use mathlib.Core.List.{List, [], ◌∷◌, ◌++◌}
use Prim.Native.Nat.{ℕ, zero, suc, ◌+◌, ◌-◌, ◌^◌, ◌≤◌, ◌<◌}
use native.Mathlib.Nat.{add_assoc, add-zero, add-suc, zero-add}
use native.Mathlib.Numerals.{add-one}
use native.Mathlib.Omega.{arith}
use lib.ListN.{length, get_or, set, take, drop, length-drop}
use lib.Seq.{get_or-drop, take-set-le, take-set-lt}
use Rattle.patch.specs.Patch.{patch}
use Rattle.patch.specs.Parts.{part}
use Rattle.patch.proofs.Laws.{patch_cong}
use Rattle.patch.proofs.Parts.{get_d_part, lay_end, patch_is_lay}
use Rattle.refusal.specs.Refusal.{bad_degree}
use Rattle.field.specs.Symbols.{plus, times, over}
use Rattle.lists.specs.Working.Lists.{multiplied, SymbolsAt}
use Rattle.field.specs.Arithmetic.{gf}
use Rattle.field.proofs.Instance.{field}
use Rattle.poly.proofs.Forms.{apart, reduce}
use Rattle.poly.proofs.Ring.{plus_apart, plus-zero, over_unique, times-over, one_times}
use Rattle.poly.proofs.Roots.{Mem, Distinct}
use Rattle.poly.proofs.Differences.{length_apart, length_reduce}
use Rattle.rows.specs.Working.Rows.{Points, inverse, difference}
use Rattle.rows.proofs.Symbols.{symbol_at, symbol-patch}

mem_at : (x : ℕ) (xs : List ℕ) (i : ℕ) → i < length xs → x ≡ get_or xs i 0 → Mem x xs
mem_at x [] i h e = absurd (omega arith)
mem_at x (y ∷ xs) zero h e = inl e
mem_at x (y ∷ xs) (suc i) h e = inr (mem_at x xs i (omega arith) e)

distinct_at : (xs : List ℕ) (i j : ℕ) → Distinct xs → i < j → j < length xs → get_or xs i 0 ≡ get_or xs j 0 → ⊥
distinct_at [] i j d h k e = absurd (omega arith)
distinct_at (x ∷ xs) i zero d h k e = absurd (let z : i < 0 = h in omega arith)
distinct_at (x ∷ xs) zero (suc j) d h k e = d.0 (mem_at x xs j (omega arith) e)
distinct_at (x ∷ xs) (suc i) (suc j) d h k e = distinct_at xs i j d.1 (omega arith) (omega arith) e

module _ (d : ℕ) (good : bad_degree d ≡ false) where
  pub divisor : (xs : List ℕ) (i j : ℕ) → Points d xs → i < j → j < length xs → plus (get_or xs j 0) (get_or xs i 0) ≡ 0 → ⊥
  divisor xs i j p h k = plus_apart (gf d) (field d good) (λ e. distinct_at xs i j p.distinct h k (sym e))

  pub divisor_symbol : (xs : List ℕ) (i j : ℕ) → Points d xs → i < length xs → j < length xs
      → plus (get_or xs j 0) (get_or xs i 0) < 2 ^ d
  divisor_symbol xs i j p h k = (field d good).plus_in _ _ (symbol_at d xs j p.symbols k) (symbol_at d xs i p.symbols h)

  times-inverse : (a b : ℕ) → a < 2 ^ d → b < 2 ^ d → (b ≡ 0 → ⊥) → times d (plus (over d 1 b) 0) a ≡ over d a b
  times-inverse a b ha hb n =
      let 𝓕 = field d good in
      ap (λ (x : ℕ). times d x a) (plus-zero (gf d) 𝓕 (over d 1 b))
      ∙ sym (over_unique (gf d) 𝓕 ha hb (𝓕.times_in (over d 1 b) a) n
      (times-over (gf d) 𝓕 a 𝓕.one_in hb n ∙ one_times (gf d) 𝓕 ha))

  reduce_more : (j : ℕ) (xs us : List ℕ) → length us ≡ length xs → j < length xs
      → reduce (gf d) (suc j) xs us
      ≡ take (suc j) (reduce (gf d) j xs us)
      ++ apart (gf d) (get_or xs j 0) (get_or (reduce (gf d) j xs us) j 0) (drop (suc j) xs) (drop (suc j) (reduce (gf d) j xs us))
  unfolding reduce
  reduce_more j [] us l h = absurd (omega arith)
  reduce_more j (x ∷ xs) [] l h = absurd (omega arith)
  reduce_more zero (x ∷ xs) (u ∷ us) l h = refl
  reduce_more (suc j) (x ∷ xs) (u ∷ us) l h =
      ap (◌∷◌ u) (reduce_more j xs (apart (gf d) x u xs us) (length_apart (gf d) (field d good) x u xs us (omega arith)) (omega arith))

  get_or_apart : (x u : ℕ) (xs us : List ℕ) (i : ℕ) → length us ≡ length xs → i < length xs
      → get_or (apart (gf d) x u xs us) i 0 ≡ over d (plus (get_or us i 0) u) (plus (get_or xs i 0) x)
  unfolding apart
  get_or_apart x u [] us i l h = absurd (omega arith)
  get_or_apart x u (y ∷ xs) [] i l h = absurd (omega arith)
  get_or_apart x u (y ∷ xs) (v ∷ us) zero l h = refl
  get_or_apart x u (y ∷ xs) (v ∷ us) (suc i) l h = get_or_apart x u xs us i (omega arith) (omega arith)

  difference_at : (xs us : List ℕ) (j i : ℕ)
      → difference d xs us j i ≡ over d (plus (get_or us (suc j + i) 0) (get_or us j 0)) (plus (get_or xs (suc j + i) 0) (get_or xs j 0))
  unfolding difference
  difference_at xs us j i = rw add-one

  round_of_row : (j : ℕ) (xs us : List ℕ) → length us ≡ length xs → j < length xs
      → patch (j + 1) (length xs - (j + 1)) (difference d xs us j) us
      ≡ take (suc j) us ++ apart (gf d) (get_or xs j 0) (get_or us j 0) (drop (suc j) xs) (drop (suc j) us)
  round_of_row j xs us l h =
      let zs : List ℕ = apart (gf d) (get_or xs j 0) (get_or us j 0) (drop (suc j) xs) (drop (suc j) us) in
      let same : length (drop (suc j) us) ≡ length (drop (suc j) xs) = omega (arith, length-drop (suc j) us, length-drop (suc j) xs) in
      let size : length zs ≡ length xs - suc j = length_apart (gf d) (field d good) _ _ _ _ same ∙ length-drop (suc j) xs in
      let each : (i : ℕ) → i < length xs - suc j → difference d xs us j i ≡ get_or zs i 0 =
      λ i k. difference_at xs us j i
      ∙ sym (get_or_apart _ _ _ _ i same (omega (arith, length-drop (suc j) xs)) ∙ rw (get_or-drop (suc j) us i 0, get_or-drop (suc j) xs i 0)) in
      rw add-one
      (patch_is_lay (suc j) (length xs - suc j) (difference d xs us j) zs us size each
      ∙ sym (lay_end (suc j) zs us (omega arith)))

  -- the row of one round more, from the row of the rounds before
  one_more : (j : ℕ) (xs us : List ℕ) {v : List ℕ} → length us ≡ length xs → j < length xs → v ≡ reduce (gf d) j xs us
      → patch (j + 1) (length xs - (j + 1)) (difference d xs v j) v ≡ reduce (gf d) (j + 1) xs us
  one_more j xs us {v} e h is =
      let size : length v ≡ length xs = ap length is ∙ length_reduce (gf d) (field d good) j xs us e in
      round_of_row j xs v size h ∙ rw (is, add-one) (sym (reduce_more j xs us e h))

  pub inverse-symbol : (xs : List ℕ) (j i : ℕ) → inverse d xs j i < 2 ^ d
  unfolding inverse
  inverse-symbol xs j i = (field d good).over_in _ _

-- a round as the code works it out, w beginning with the inverses
module _ (d : ℕ) (good : bad_degree d ≡ false) (at j : ℕ) (xs l w : List ℕ) (h : j < length xs) (points : Points d xs)
    (symbols : SymbolsAt d l at (length xs)) (each : (i : ℕ) → i < length xs - (j + 1) → get_or w i 0 ≡ inverse d xs j i) where
  later : (i : ℕ) → i < length xs - (j + 1) → get_or l (at + (j + 1) + i) 0 < 2 ^ d
  later i k = rw (add_assoc at (j + 1) i) (symbols (j + 1 + i) (omega arith))

  multiplied_is : (i : ℕ) → i < length xs - (j + 1)
      → multiplied d w 0 l (at + (j + 1)) (get_or l (at + j) 0) i ≡ difference d xs (part at (length xs) l) j i
  unfolding multiplied inverse difference
  multiplied_is i k =
      let u : ℕ = plus (get_or l (at + (j + 1) + i) 0) (get_or l (at + j) 0) in
      let y : ℕ = plus (get_or xs (j + 1 + i) 0) (get_or xs j 0) in
      let u_in : u < 2 ^ d = (field d good).plus_in _ _ (later i k) (symbols j h) in
      let y_in : y < 2 ^ d = divisor_symbol d good xs j (j + 1 + i) points h (omega arith) in
      ap (λ (v : ℕ). times d (plus v 0) u) (each i k)
      ∙ times-inverse d good u y u_in y_in (divisor d good xs j (j + 1 + i) points (omega arith) (omega arith))
      ∙ rw (get_d_part at (length xs) l (j + 1 + i) (omega arith), get_d_part at (length xs) l j h, add_assoc at (j + 1) i)

take-patch : (n at m : ℕ) (f : ℕ → ℕ) (l : List ℕ) → at + m ≤ n → take n (patch at m f l) ≡ patch at m f (take n l)
unfolding patch
take-patch n at zero f l h = refl
take-patch n at (suc m) f l h =
    take-set-lt n (patch at m f l) (at + m) (f m) (omega arith)
    ∙ ap (λ (s : List ℕ). set s (at + m) (f m)) (take-patch n at m f l (omega arith))

take-patch_beyond : (n at m r : ℕ) (f : ℕ → ℕ) (l : List ℕ) → n ≡ at + m → take n (patch at (m + r) f l) ≡ patch at m f (take n l)
unfolding patch
take-patch_beyond n at m zero f l e = rw (add-zero m) (take-patch n at m f l (omega arith))
take-patch_beyond n at m (suc r) f l e =
    rw (add-suc m r) (take-set-le n (patch at (m + r) f l) (at + (m + r)) (f (m + r)) (omega arith) ∙ take-patch_beyond n at m r f l e)

-- a round of the row at the front of l that may go on behind it
module _ (d : ℕ) (good : bad_degree d ≡ false) (j : ℕ) (l w : List ℕ) {t : List ℕ}
    (then : t ≡ patch (j + 1) (length w) (multiplied d w 0 l (j + 1) (get_or l j 0)) l) where
  pub front_step : (xs us : List ℕ) → length us ≡ length xs → j < length xs → length xs ≤ j + 1 + length w → Points d xs
      → SymbolsAt d l 0 (length xs) → ((i : ℕ) → i < length xs - (j + 1) → get_or w i 0 ≡ inverse d xs j i)
      → take (length xs) l ≡ reduce (gf d) j xs us → take (length xs) t ≡ reduce (gf d) (j + 1) xs us
  unfolding part
  front_step xs us e h enough points symbols each is =
      let n : ℕ = length xs in
      let m : ℕ = n - (j + 1) in
      let f : ℕ → ℕ = multiplied d w 0 l (j + 1) (get_or l j 0) in
      let all : length w ≡ m + (length w - m) = omega arith in
      ap (take n) (then ∙ ap (λ (r : ℕ). patch (j + 1) r f l) all)
      ∙ take-patch_beyond n (j + 1) m (length w - m) f l (omega arith)
      ∙ patch_cong (j + 1) m f (difference d xs (take n l) j) (take n l)
      (λ i k. rw (zero-add (j + 1), zero-add j) at (multiplied_is d good 0 j xs l w h points symbols each i k))
      ∙ one_more d good j xs us e h is

  pub front_symbols : (n : ℕ) → j + 1 + length w ≤ length l → SymbolsAt d l 0 n → SymbolsAt d t 0 n
  unfolding multiplied
  front_symbols n fits symbols i k =
      symbol-patch d (j + 1) (length w) _ l then fits (λ r g. (field d good).times_in _ _) (0 + i) (symbols i k)
