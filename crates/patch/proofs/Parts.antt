-- The laws of `part` and `lay`.
--
--   length_part, get_d_part      how long a part is, and what stands in it
--   length-lay                the length stays
--   get_or-lay, get_or-lay_below, get_or-lay_above    what stands in the row, before it, behind it
--   lay_none, lay_end         the empty row; a row over the end of a list
--   lay-part, part-lay        a part laid where it was; what was laid is the part there
--   take-lay                what was laid at the front is the front
--   is_lay                    a list that has the row, and agrees with l outside it
--   lay_cons                  one number, and a row behind it
--   lay-again                 a row over a row that is not longer
--   patch_is_lay              a patch is the row of the values written
--   patch-lay                 a patch inside a row is a patch of the row
--   lay-append, lay_behind    two rows laid one behind the other are the two in one
--   lay_rest                  a row laid at the front of what lies from a place on
--   take_copied               what was copied to the front is there
-- Assumes nothing.
use mathlib.Core.Path.{◌≡◌, refl, sym, ap, ◌∙◌}
use mathlib.Core.List.{List, [], ◌∷◌, ◌++◌}
use Prim.Native.Nat.{ℕ, zero, suc, ◌+◌, ◌-◌, ◌≤◌, ◌<◌}
use native.Mathlib.Nat.{add_assoc, add-zero, zero-add}
use native.Mathlib.Decide.{ℕ_discrete, dec_lt}
use native.Mathlib.Omega.{arith}
use lib.ListN.{length, get_or, take, drop, set, length-set, length-append, length-drop, get_or-append, get_or-eq_default}
use lib.Seq.{ext_get_or, get_or-take, get_or-drop, get_or-set_same, get_or-set_other, length-take-le, get_or-append-add, take-append_seam, take-length}
use Rattle.patch.specs.Patch.{patch}
use Rattle.patch.specs.Parts.{part, lay}
use Rattle.patch.proofs.Laws.{length-patch, get_or-patch, get_or-patch_below, get_or-patch_above, patch_cong}

-- two lists that agree before a part, in it and behind it are equal
same_by : (at n : ℕ) (a b : List ℕ) → length a ≡ length b
    → ((i : ℕ) → i < at → get_or a i 0 ≡ get_or b i 0)
    → ((k : ℕ) → k < n → get_or a (at + k) 0 ≡ get_or b (at + k) 0)
    → ((i : ℕ) → at + n ≤ i → get_or a i 0 ≡ get_or b i 0) → a ≡ b
same_by at n a b l below inside above = ext_get_or 0 a b l (λ i h. go i (dec_lt i at) (dec_lt i (at + n)))
  where
    go : (i : ℕ) → Dec (i < at) → Dec (i < at + n) → get_or a i 0 ≡ get_or b i 0
    go i (yes h) g = below i h
    go i (no h) (yes g) =
        let e : at + (i - at) ≡ i = omega arith in
        ap (λ (x : ℕ). get_or a x 0) (sym e) ∙ inside (i - at) (omega arith) ∙ ap (λ (x : ℕ). get_or b x 0) e
    go i (no h) (no g) = above i (omega arith)

pub length_part : (at n : ℕ) (l : List ℕ) → at + n ≤ length l → length (part at n l) ≡ n
unfolding part
length_part at n l fits = length-take-le n (drop at l) (omega (arith, length-drop at l))

pub get_d_part : (at n : ℕ) (l : List ℕ) (k : ℕ) → k < n → get_or (part at n l) k 0 ≡ get_or l (at + k) 0
unfolding part
get_d_part at n l k h = get_or-take n (drop at l) k 0 h ∙ get_or-drop at l k 0

module _ (at : ℕ) (v l : List ℕ) where
  pub length-lay : length (lay at v l) ≡ length l
  unfolding lay
  length-lay = length-patch at (λ k. get_or v k 0) l (length v)

  pub get_or-lay : (k : ℕ) → k < length v → at + length v ≤ length l → get_or (lay at v l) (at + k) 0 ≡ get_or v k 0
  unfolding lay
  get_or-lay k h fits = get_or-patch at (λ k. get_or v k 0) l (length v) k 0 h fits

  pub get_or-lay_below : (i : ℕ) → i < at → get_or (lay at v l) i 0 ≡ get_or l i 0
  unfolding lay
  get_or-lay_below i h = get_or-patch_below at (λ k. get_or v k 0) l (length v) i 0 h

  pub get_or-lay_above : (i : ℕ) → at + length v ≤ i → get_or (lay at v l) i 0 ≡ get_or l i 0
  unfolding lay
  get_or-lay_above i h = get_or-patch_above at (λ k. get_or v k 0) l (length v) i 0 h

  pub part-lay : at + length v ≤ length l → part at (length v) (lay at v l) ≡ v
  part-lay fits =
      let size : length (part at (length v) (lay at v l)) ≡ length v = length_part at (length v) (lay at v l) (rw length-lay fits) in
      ext_get_or 0 _ v size (λ k h. get_d_part at (length v) (lay at v l) k (omega arith) ∙ get_or-lay k (omega arith) fits)

pub lay_none : (at : ℕ) (l : List ℕ) → lay at [] l ≡ l
unfolding lay patch
lay_none at l = refl

pub patch_is_lay : (at n : ℕ) (f : ℕ → ℕ) (v l : List ℕ) → length v ≡ n → ((k : ℕ) → k < n → f k ≡ get_or v k 0)
    → patch at n f l ≡ lay at v l
unfolding lay
patch_is_lay at n f v l e h = rw e (patch_cong at n f (λ k. get_or v k 0) l h)

-- a list that agrees with l outside a row, and has the row, is l with the row
pub is_lay : (at : ℕ) (v l s : List ℕ) → at + length v ≤ length l → length s ≡ length l
    → ((i : ℕ) → i < at → get_or s i 0 ≡ get_or l i 0)
    → ((k : ℕ) → k < length v → get_or s (at + k) 0 ≡ get_or v k 0)
    → ((i : ℕ) → at + length v ≤ i → get_or s i 0 ≡ get_or l i 0) → s ≡ lay at v l
is_lay at v l s fits e below inside above =
    same_by at (length v) s (lay at v l) (e ∙ sym (length-lay at v l))
    (λ i h. below i h ∙ sym (get_or-lay_below at v l i h))
    (λ k h. inside k h ∙ sym (get_or-lay at v l k h fits))
    (λ i h. above i h ∙ sym (get_or-lay_above at v l i h))

pub lay-part : (at n : ℕ) (l : List ℕ) → at + n ≤ length l → lay at (part at n l) l ≡ l
lay-part at n l fits =
    let size : length (part at n l) ≡ n = length_part at n l fits in
    sym (is_lay at (part at n l) l l (omega arith) refl (λ i h. refl) (λ k h. sym (get_d_part at n l k (omega arith))) (λ i h. refl))

pub lay-again : (at : ℕ) (v w l : List ℕ) → length v ≤ length w → at + length w ≤ length l → lay at w (lay at v l) ≡ lay at w l
lay-again at v w l h fits =
    is_lay at w l (lay at w (lay at v l)) fits (length-lay at w (lay at v l) ∙ length-lay at v l)
    (λ i k. get_or-lay_below at w (lay at v l) i k ∙ get_or-lay_below at v l i k)
    (λ i k. get_or-lay at w (lay at v l) i k (rw length-lay fits))
    (λ i k. get_or-lay_above at w (lay at v l) i k ∙ get_or-lay_above at v l i (omega arith))

pub lay_end : (at : ℕ) (v l : List ℕ) → at + length v ≡ length l → take at l ++ v ≡ lay at v l
lay_end at v l e =
    let size : length (take at l) ≡ at = length-take-le at l (omega arith) in
    is_lay at v l (take at l ++ v) (omega arith) (length-append (take at l) v ∙ omega arith)
    (λ i h. get_or-append (take at l) v 0 i (omega arith) ∙ get_or-take at l i 0 h)
    (λ k h. ap (λ (x : ℕ). get_or (take at l ++ v) (x + k) 0) (sym size) ∙ get_or-append-add (take at l) v k 0)
    (λ i h. get_or-eq_default (take at l ++ v) 0 (omega (arith, length-append (take at l) v))
    ∙ sym (get_or-eq_default l 0 (omega arith)))

pub lay_cons : (at c : ℕ) (v l : List ℕ) → at + suc (length v) ≤ length l → lay (at + 1) v (set l at c) ≡ lay at (c ∷ v) l
lay_cons at c v l fits =
    let size : length (set l at c) ≡ length l = length-set l at c in
    is_lay at (c ∷ v) l (lay (at + 1) v (set l at c)) fits (length-lay (at + 1) v (set l at c) ∙ size)
    (λ i h. get_or-lay_below (at + 1) v (set l at c) i (omega arith) ∙ get_or-set_other l at i c 0 (omega arith))
    (λ k h. inside k h)
    (λ i h. get_or-lay_above (at + 1) v (set l at c) i (omega arith) ∙ get_or-set_other l at i c 0 (omega arith))
  where
    inside : (k : ℕ) → k < suc (length v) → get_or (lay (at + 1) v (set l at c)) (at + k) 0 ≡ get_or (c ∷ v) k 0
    inside zero h =
        ap (λ (x : ℕ). get_or (lay (at + 1) v (set l at c)) x 0) (add-zero at)
        ∙ get_or-lay_below (at + 1) v (set l at c) at (omega arith) ∙ get_or-set_same l at c 0 (omega arith)
    inside (suc k) h =
        ap (λ (x : ℕ). get_or (lay (at + 1) v (set l at c)) x 0) (omega arith)
        ∙ get_or-lay (at + 1) v (set l at c) k (omega arith) (rw length-set (omega arith))

module _ (at : ℕ) (v l : List ℕ) (fits : at + length v ≤ length l) where
  set-lay : (i a : ℕ) → i < length v → set (lay at v l) (at + i) a ≡ lay at (set v i a) l
  set-lay i a h =
      let size : length (set v i a) ≡ length v = length-set v i a in
      is_lay at (set v i a) l (set (lay at v l) (at + i) a) (omega arith) (length-set (lay at v l) (at + i) a ∙ length-lay at v l)
      (λ j k. get_or-set_other (lay at v l) (at + i) j a 0 (omega arith) ∙ get_or-lay_below at v l j k)
      (λ j k. go j (omega arith) (ℕ_discrete j i))
      (λ j k. get_or-set_other (lay at v l) (at + i) j a 0 (omega arith) ∙ get_or-lay_above at v l j (omega arith))
    where
      go : (j : ℕ) → j < length v → Dec (j ≡ i) → get_or (set (lay at v l) (at + i) a) (at + j) 0 ≡ get_or (set v i a) j 0
      go j k (yes e) =
          rw e (get_or-set_same (lay at v l) (at + i) a 0 (rw length-lay (omega arith)) ∙ sym (get_or-set_same v i a 0 h))
      go j k (no e) =
          get_or-set_other (lay at v l) (at + i) (at + j) a 0 (omega arith)
          ∙ get_or-lay at v l j k fits ∙ sym (get_or-set_other v i j a 0 e)

pub patch-lay : (at j m : ℕ) (f : ℕ → ℕ) (v l : List ℕ) → j + m ≤ length v → at + length v ≤ length l
    → patch (at + j) m f (lay at v l) ≡ lay at (patch j m f v) l
unfolding patch
patch-lay at j zero f v l h fits = refl
patch-lay at j (suc m) f v l h fits =
    let size : length (patch j m f v) ≡ length v = length-patch j f v m in
    ap (λ (t : List ℕ). set t (at + j + m) (f m)) (patch-lay at j m f v l (omega arith) fits)
    ∙ rw add_assoc (set-lay at (patch j m f v) l (omega arith) (j + m) (f m) (omega arith))

pub lay-append : (at : ℕ) (v w l : List ℕ) → at + length (v ++ w) ≤ length l
    → lay (at + length v) w (lay at v l) ≡ lay at (v ++ w) l
lay-append at v w l fits =
    let size : length (v ++ w) ≡ length v + length w = length-append v w in
    let long : length (lay at v l) ≡ length l = length-lay at v l in
    is_lay at (v ++ w) l (lay (at + length v) w (lay at v l)) fits (length-lay (at + length v) w (lay at v l) ∙ long)
    (λ i h. get_or-lay_below (at + length v) w (lay at v l) i (omega arith) ∙ get_or-lay_below at v l i h)
    (λ k h. inside k (omega arith) (omega arith) (dec_lt k (length v)))
    (λ i h. get_or-lay_above (at + length v) w (lay at v l) i (omega arith) ∙ get_or-lay_above at v l i (omega arith))
  where
    inside : (k : ℕ) → k < length v + length w → at + (length v + length w) ≤ length l → Dec (k < length v)
        → get_or (lay (at + length v) w (lay at v l)) (at + k) 0 ≡ get_or (v ++ w) k 0
    inside k h f (yes g) =
        get_or-lay_below (at + length v) w (lay at v l) (at + k) (omega arith)
        ∙ get_or-lay at v l k g (omega arith) ∙ sym (get_or-append v w 0 k g)
    inside k h f (no g) =
        let long : length (lay at v l) ≡ length l = length-lay at v l in
        let e : at + k ≡ at + length v + (k - length v) = omega arith in
        let e' : length v + (k - length v) ≡ k = omega arith in
        ap (λ (i : ℕ). get_or (lay (at + length v) w (lay at v l)) i 0) e
        ∙ get_or-lay (at + length v) w (lay at v l) (k - length v) (omega arith) (omega arith)
        ∙ sym (get_or-append-add v w (k - length v) 0)
        ∙ ap (λ (i : ℕ). get_or (v ++ w) i 0) e'

-- a row laid at the front of what lies from a place on, as a slice that is lent from there on is given back
pub lay_rest : (at : ℕ) (v l : List ℕ) {s : List ℕ} → at + length v ≤ length l → s ≡ lay 0 v (take (length l - at) (drop at l))
    → take at l ++ (s ++ drop (length l - at) (drop at l)) ≡ lay at v l
lay_rest at v l {s} fits is = is_lay at v l (take at l ++ (s ++ none)) fits whole below inside above
  where
    rest : List ℕ
    rest = take (length l - at) (drop at l)

    none : List ℕ
    none = drop (length l - at) (drop at l)

    front : length (take at l) ≡ at
    front = length-take-le at l (omega arith)

    left : length rest ≡ length l - at
    left = length-take-le (length l - at) (drop at l) (omega (arith, length-drop at l))

    size : length s ≡ length l - at
    size = ap length is ∙ length-lay 0 v rest ∙ left

    whole : length (take at l ++ (s ++ none)) ≡ length l
    whole =
        let back : length none ≡ 0 = omega (arith, length-drop (length l - at) (drop at l), length-drop at l) in
        omega (arith, length-append (take at l) (s ++ none), length-append s none, front, size)

    below : (i : ℕ) → i < at → get_or (take at l ++ (s ++ none)) i 0 ≡ get_or l i 0
    below i h = get_or-append (take at l) (s ++ none) 0 i (omega (arith, front)) ∙ get_or-take at l i 0 h

    -- behind the front, as far as the list goes
    behind_front : (k : ℕ) → k < length l - at → get_or (take at l ++ (s ++ none)) (at + k) 0 ≡ get_or (lay 0 v rest) k 0
    behind_front k h =
        ap (λ (j : ℕ). get_or (take at l ++ (s ++ none)) (j + k) 0) (sym front)
        ∙ get_or-append-add (take at l) (s ++ none) k 0
        ∙ get_or-append s none 0 k (omega (arith, size))
        ∙ ap (λ (t : List ℕ). get_or t k 0) is

    inside : (k : ℕ) → k < length v → get_or (take at l ++ (s ++ none)) (at + k) 0 ≡ get_or v k 0
    inside k h = behind_front k (omega arith) ∙ ap (λ (j : ℕ). get_or (lay 0 v rest) j 0) (sym (zero-add k))
        ∙ get_or-lay 0 v rest k h (omega (arith, left))

    above : (i : ℕ) → at + length v ≤ i → get_or (take at l ++ (s ++ none)) i 0 ≡ get_or l i 0
    above i h = go (dec_lt i (length l))
      where
        go : Dec (i < length l) → get_or (take at l ++ (s ++ none)) i 0 ≡ get_or l i 0
        go (yes g) =
            let e : at + (i - at) ≡ i = omega arith in
            ap (λ (j : ℕ). get_or (take at l ++ (s ++ none)) j 0) (sym e)
            ∙ behind_front (i - at) (omega arith)
            ∙ get_or-lay_above 0 v rest (i - at) (omega arith)
            ∙ get_or-take (length l - at) (drop at l) (i - at) 0 (omega arith)
            ∙ get_or-drop at l (i - at) 0
            ∙ ap (λ (j : ℕ). get_or l j 0) e
        go (no g) = get_or-eq_default (take at l ++ (s ++ none)) 0 (omega (arith, whole)) ∙ sym (get_or-eq_default l 0 (omega arith))

pub take-lay : (v l : List ℕ) {n : ℕ} {s : List ℕ} → s ≡ lay 0 v l → length v ≡ n → n ≤ length l → take n s ≡ v
unfolding part
take-lay v l is size fits = rw (is, ← size) (part-lay 0 v l (omega arith))

-- what is laid at a place, and then the rest behind it
pub lay_behind : (at : ℕ) (v w l : List ℕ) {n : ℕ} {s : List ℕ} → length v ≡ n → s ≡ lay at v l → at + length (v ++ w) ≤ length l
    → lay (at + n) w s ≡ lay at (v ++ w) l
lay_behind at v w l e is fits = rw (← e, is) (lay-append at v w l fits)

pub take_copied : (v l : List ℕ) {s : List ℕ} → s ≡ take (length v) v ++ drop (length v) l → take (length v) s ≡ v
take_copied v l e = rw (e, take-length) (take-append_seam v (drop (length v) l))
