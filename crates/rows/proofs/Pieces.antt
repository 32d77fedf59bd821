-- Points taken some at a time, and rounded up to whole sixteens.
--
--   take-map        the front of a list of values
--   front_values    the values at the points, which stand at the front of those at the rounded list
--   rounded_in      the rounded list has symbols
--   Evaluated       what the loop has when it comes to point i
--   none_evaluated, more_evaluated, all_evaluated    before the first turn; a turn; what the loop leaves
-- Assumes nothing.
use mathlib.Core.Path.{◌≡◌, refl, sym, ap, ◌∙◌}
use mathlib.Core.List.{List, [], ◌∷◌, ◌++◌, map, map-append}
use Prim.Native.Nat.{ℕ, zero, suc, min, ◌+◌, ◌≤◌, ◌<◌}
use native.Mathlib.Omega.{arith}
use lib.ListN.{length, take, drop, replicate, length-map, length-take, length-drop, length-replicate}
use lib.Seq.{length-take-le, take-take, take-add}
use Rattle.patch.specs.Parts.{part, lay}
use Rattle.std.proofs.lemmas.List.{drop-drop, drop_at, drop_min, take_all, take_at, take_min}
use Rattle.patch.proofs.Parts.{length-lay, take-lay, lay_behind, lay_none}
use Rattle.field.specs.Symbols.{IsSymbol}
use Rattle.poly.specs.Poly.{All}
use Rattle.rows.proofs.Symbols.{symbols_part, symbols_held}

take-map : (f : ℕ → ℕ) (n : ℕ) (l : List ℕ) → take n (map f l) ≡ map f (take n l)
take-map f zero l = refl
take-map f (suc n) [] = refl
take-map f (suc n) (x ∷ l) = ap (◌∷◌ (f x)) (take-map f n l)

-- xs in an array ys of n places, of which the first m are taken; vs are the values at these
module _ (xs : List ℕ) (n m : ℕ) {ys : List ℕ} (held : ys ≡ lay 0 xs (replicate n 0)) (enough : length xs ≤ m) (fits : m ≤ n) where
  long : length ys ≡ n
  long = ap length held ∙ length-lay 0 xs (replicate n 0) ∙ length-replicate n 0

  pub rounded : length (take m ys) ≡ m
  rounded = length-take-le m ys (omega (arith, long))

  pub rounded_in : (d : ℕ) → All (IsSymbol d) xs → All (IsSymbol d) (take m ys)
  unfolding part
  rounded_in d symbols = symbols_part d 0 m ys (omega (arith, long)) (symbols_held d xs n held (omega arith) fits symbols)

  pub front_values : (f : ℕ → ℕ) (z : List ℕ) {vs : List ℕ} → m ≤ length z → vs ≡ lay 0 (map f (take m ys)) z
      → take (length xs) vs ≡ map f xs
  front_values f z {vs} room is =
      let first : take m vs ≡ map f (take m ys) = take-lay (map f (take m ys)) z is (length-map (take m ys) f ∙ rounded) room in
      let zeros : length (replicate {A = ℕ} n 0) ≡ n = length-replicate {A = ℕ} n 0 in
      sym (take-take (length xs) m vs enough) ∙ ap (take (length xs)) first ∙ take-map f (length xs) (take m ys)
      ∙ ap (map f) (take-take (length xs) m ys enough ∙ take-lay xs (replicate n 0) held refl (omega arith))

-- the values at the first i points are laid in s, and the other points are left
pub record Evaluated (f : ℕ → ℕ) (xs : List ℕ) (at : ℕ) (l : List ℕ) (i : ℕ) (left s : List ℕ) : Type 0 where
  pub left_is : left ≡ drop i xs
  pub laid : s ≡ lay at (map f (take i xs)) l

module _ {f : ℕ → ℕ} {xs : List ℕ} {at : ℕ} {l : List ℕ} where
  pub none_evaluated : Evaluated f xs at l 0 xs l
  none_evaluated = record { left_is = refl; laid = sym (lay_none at l) }

  module _ {i : ℕ} {left s : List ℕ} (was : Evaluated f xs at l i left s) (fits : at + length xs ≤ length l) where
    pub all_evaluated : length left ≡ 0 → s ≡ lay at (map f xs) l
    all_evaluated none = was.laid ∙ ap (λ (v : List ℕ). lay at (map f v) l)
        (take_all i xs (omega (arith, ap length was.left_is, length-drop i xs)))

    -- the next n points, or as many as are left
    module _ (n : ℕ) (some rest : List ℕ) (is : left ≡ some ++ rest) (size : length some ≡ min n (length left)) where
      next_points : some ≡ take n (drop i xs)
      next_points =
          let first : take (min n (length left)) left ≡ some = rw (← size, is) (take_at some rest (length some) refl) in
          sym first ∙ take_min n left ∙ ap (take n) was.left_is

      next_left : rest ≡ drop (i + n) xs
      next_left =
          let behind : drop (min n (length left)) left ≡ rest = rw (← size, is) (drop_at some rest (length some) refl) in
          sym behind ∙ drop_min n left ∙ ap (drop n) was.left_is ∙ drop-drop n i xs

      pub more_evaluated : 0 < length left → {t : List ℕ} → t ≡ lay (at + i) (map f some) s → Evaluated f xs at l (i + n) rest t
      more_evaluated h {t} then = record { left_is = next_left; laid = then ∙ rw next_points together ∙ ap (λ (v : List ℕ). lay at v l) (sym whole) }
        where
          within : i ≤ length xs
          within = omega (arith, ap length was.left_is, length-drop i xs)

          more : List ℕ
          more = take n (drop i xs)

          whole : map f (take (i + n) xs) ≡ map f (take i xs) ++ map f more
          whole = ap (map f) (take-add i n xs) ∙ map-append f (take i xs) more

          together : lay (at + i) (map f more) s ≡ lay at (map f (take i xs) ++ map f more) l
          together = lay_behind at (map f (take i xs)) (map f more) l (length-map (take i xs) f ∙ length-take-le i xs within) was.laid
              (rw (← whole, length-map, length-take) (omega arith))
