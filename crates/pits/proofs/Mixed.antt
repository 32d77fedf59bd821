-- The lines to which multiples of the pivot's line w are added: what becomes of each, and of each of its slots.
--
--   mixed_pivot, mixed-zero, mixed_other    the pivot; a line whose value is zero; any other
--   slot_mixed j a b      what becomes of a in a slot of line j, where the pivot has b
--   slot_pivot, slot_zero, slot_other    so in the three cases; slot_in, it is a symbol
--   length-lines         the memory is as long as before
--   lines_none, lines_more    no line; one line more
--   lines_at             what is in the slots of the lines that were mixed
-- Assumes nothing.
use mathlib.Core.Path.{◌≡◌, refl, ap, ◌∙◌}
use mathlib.Core.List.{List}
use mathlib.Core.Bool.{false}
use Prim.Native.Nat.{ℕ, zero, suc, ◌+◌, ◌*◌, ◌^◌, ◌≤◌, ◌<◌}
use native.Mathlib.Decide.{ℕ_discrete}
use native.Mathlib.Numerals.{add-one}
use native.Mathlib.Omega.{arith}
use lib.ListN.{length, get_or}
use Rattle.patch.proofs.Laws.{length-patch, get_or-patch}
use Rattle.field.specs.Symbols.{plus, times, over}
use Rattle.refusal.specs.Refusal.{bad_degree}
use Rattle.field.proofs.Instance.{field}
use Rattle.lists.specs.Working.Lists.{added, added_at}
use Rattle.pits.specs.Working.Table.{line_mixed_by, line_mixed, lines_mixed}
use Rattle.pits.proofs.Slots.{line_below, patch_other}

-- ---- A slot.

module _ (d : ℕ) (ds : List ℕ) (p : ℕ) where
  unfoldable pub slot_mixed_by : (j a b : ℕ) → Dec (j ≡ p) → Dec (get_or ds j 0 ≡ 0) → ℕ
  slot_mixed_by j a b (yes h) z = a
  slot_mixed_by j a b (no h) (yes z) = a
  slot_mixed_by j a b (no h) (no z) = plus a (times d b (over d (get_or ds j 0) (get_or ds p 0)))

  unfoldable pub slot_mixed : (j a b : ℕ) → ℕ
  slot_mixed j a b = slot_mixed_by j a b (ℕ_discrete j p) (ℕ_discrete (get_or ds j 0) 0)

  module _ (j a b : ℕ) where
    slot_pivot_by : (t : Dec (j ≡ p)) (z : Dec (get_or ds j 0 ≡ 0)) → j ≡ p → slot_mixed_by j a b t z ≡ a
    unfolding slot_mixed_by
    slot_pivot_by (yes h) z e = refl
    slot_pivot_by (no h) z e = absurd (h e)

    slot_zero_by : (t : Dec (j ≡ p)) (z : Dec (get_or ds j 0 ≡ 0)) → get_or ds j 0 ≡ 0 → slot_mixed_by j a b t z ≡ a
    unfolding slot_mixed_by
    slot_zero_by (yes h) z e = refl
    slot_zero_by (no h) (yes z) e = refl
    slot_zero_by (no h) (no z) e = absurd (z e)

    slot_other_by : (t : Dec (j ≡ p)) (z : Dec (get_or ds j 0 ≡ 0)) → (j ≡ p → ⊥) → (get_or ds j 0 ≡ 0 → ⊥)
        → slot_mixed_by j a b t z ≡ plus a (times d b (over d (get_or ds j 0) (get_or ds p 0)))
    unfolding slot_mixed_by
    slot_other_by (yes h) z n m = absurd (n h)
    slot_other_by (no h) (yes z) n m = absurd (m z)
    slot_other_by (no h) (no z) n m = refl

    slot_in_by : (t : Dec (j ≡ p)) (z : Dec (get_or ds j 0 ≡ 0)) → bad_degree d ≡ false → a < 2 ^ d → slot_mixed_by j a b t z < 2 ^ d
    unfolding slot_mixed_by
    slot_in_by (yes h) z good ha = ha
    slot_in_by (no h) (yes z) good ha = ha
    slot_in_by (no h) (no z) good ha = (field d good).plus_in a _ ha ((field d good).times_in b _)

    pub slot_pivot : j ≡ p → slot_mixed j a b ≡ a
    unfolding slot_mixed
    slot_pivot = slot_pivot_by (ℕ_discrete j p) (ℕ_discrete (get_or ds j 0) 0)

    pub slot_zero : get_or ds j 0 ≡ 0 → slot_mixed j a b ≡ a
    unfolding slot_mixed
    slot_zero = slot_zero_by (ℕ_discrete j p) (ℕ_discrete (get_or ds j 0) 0)

    pub slot_other : (j ≡ p → ⊥) → (get_or ds j 0 ≡ 0 → ⊥) → slot_mixed j a b ≡ plus a (times d b (over d (get_or ds j 0) (get_or ds p 0)))
    unfolding slot_mixed
    slot_other = slot_other_by (ℕ_discrete j p) (ℕ_discrete (get_or ds j 0) 0)

    pub slot_in : bad_degree d ≡ false → a < 2 ^ d → slot_mixed j a b < 2 ^ d
    unfolding slot_mixed
    slot_in = slot_in_by (ℕ_discrete j p) (ℕ_discrete (get_or ds j 0) 0)

-- ---- A line, and all lines.

module _ (d : ℕ) (ds : List ℕ) (p : ℕ) (w : List ℕ) where
  -- a line, by what decides

  module _ (j : ℕ) (l : List ℕ) where
    pivot_by : (t : Dec (j ≡ p)) (z : Dec (get_or ds j 0 ≡ 0)) → j ≡ p → line_mixed_by d ds p w j l t z ≡ l
    unfolding line_mixed_by
    pivot_by (yes h) z e = refl
    pivot_by (no h) z e = absurd (h e)

    zero_by : (t : Dec (j ≡ p)) (z : Dec (get_or ds j 0 ≡ 0)) → get_or ds j 0 ≡ 0 → line_mixed_by d ds p w j l t z ≡ l
    unfolding line_mixed_by
    zero_by (yes h) z e = refl
    zero_by (no h) (yes z) e = refl
    zero_by (no h) (no z) e = absurd (z e)

    other_by : (t : Dec (j ≡ p)) (z : Dec (get_or ds j 0 ≡ 0)) → (j ≡ p → ⊥) → (get_or ds j 0 ≡ 0 → ⊥)
        → line_mixed_by d ds p w j l t z ≡ added_at d (over d (get_or ds j 0) (get_or ds p 0)) w l (length w * j)
    unfolding line_mixed_by
    other_by (yes h) z n m = absurd (n h)
    other_by (no h) (yes z) n m = absurd (m z)
    other_by (no h) (no z) n m = refl

    pub mixed_pivot : j ≡ p → line_mixed d ds p w j l ≡ l
    unfolding line_mixed
    mixed_pivot = pivot_by (ℕ_discrete j p) (ℕ_discrete (get_or ds j 0) 0)

    pub mixed-zero : get_or ds j 0 ≡ 0 → line_mixed d ds p w j l ≡ l
    unfolding line_mixed
    mixed-zero = zero_by (ℕ_discrete j p) (ℕ_discrete (get_or ds j 0) 0)

    pub mixed_other : {c : ℕ} {t : List ℕ} → (j ≡ p → ⊥) → (get_or ds j 0 ≡ 0 → ⊥) → c ≡ over d (get_or ds j 0) (get_or ds p 0)
        → t ≡ added_at d c w l (length w * j) → line_mixed d ds p w j l ≡ t
    unfolding line_mixed
    mixed_other n m e made = rw (made, e) (other_by (ℕ_discrete j p) (ℕ_discrete (get_or ds j 0) 0) n m)

    length_by : (t : Dec (j ≡ p)) (z : Dec (get_or ds j 0 ≡ 0)) → length (line_mixed_by d ds p w j l t z) ≡ length l
    unfolding line_mixed_by
    length_by (yes h) z = refl
    length_by (no h) (yes z) = refl
    length_by (no h) (no z) = length-patch (length w * j) _ l (length w)

    -- the slots of another line, and its own

    else-by : (t : Dec (j ≡ p)) (z : Dec (get_or ds j 0 ≡ 0)) (k i : ℕ) → (k ≡ j → ⊥) → i < length w
        → get_or (line_mixed_by d ds p w j l t z) (length w * k + i) 0 ≡ get_or l (length w * k + i) 0
    unfolding line_mixed_by
    else-by (yes h) z k i other lt = refl
    else-by (no h) (yes z) k i other lt = refl
    else-by (no h) (no z) k i other lt = patch_other (length w) j _ l k i other lt

    own_by : (t : Dec (j ≡ p)) (z : Dec (get_or ds j 0 ≡ 0)) (i : ℕ) → i < length w → length w * j + length w ≤ length l
        → get_or (line_mixed_by d ds p w j l t z) (length w * j + i) 0 ≡ slot_mixed_by d ds p j (get_or l (length w * j + i) 0) (get_or w i 0) t z
    unfolding line_mixed_by slot_mixed_by added
    own_by (yes h) z i lt fits = refl
    own_by (no h) (yes z) i lt fits = refl
    own_by (no h) (no z) i lt fits = get_or-patch (length w * j) _ l (length w) i 0 lt fits

  -- all lines

  pub length-lines : (n : ℕ) (l : List ℕ) → length (lines_mixed d ds p w n l) ≡ length l
  unfolding lines_mixed line_mixed
  length-lines zero l = refl
  length-lines (suc n) l = length_by n (lines_mixed d ds p w n l) (ℕ_discrete n p) (ℕ_discrete (get_or ds n 0) 0) ∙ length-lines n l

  pub lines_none : (l : List ℕ) → lines_mixed d ds p w 0 l ≡ l
  unfolding lines_mixed
  lines_none l = refl

  pub lines_more : (n : ℕ) (l : List ℕ) {s t : List ℕ} → s ≡ lines_mixed d ds p w n l → t ≡ line_mixed d ds p w n s
      → t ≡ lines_mixed d ds p w (n + 1) l
  unfolding lines_mixed
  lines_more n l is e = rw add-one (e ∙ ap (line_mixed d ds p w n) is)

  lines_later : (n : ℕ) (l : List ℕ) (k i : ℕ) → n ≤ k → i < length w
      → get_or (lines_mixed d ds p w n l) (length w * k + i) 0 ≡ get_or l (length w * k + i) 0
  unfolding lines_mixed line_mixed
  lines_later zero l k i le lt = refl
  lines_later (suc n) l k i le lt =
      else-by n (lines_mixed d ds p w n l) (ℕ_discrete n p) (ℕ_discrete (get_or ds n 0) 0) k i (omega arith) lt
      ∙ lines_later n l k i (omega arith) lt

  pub lines_at : (n : ℕ) (l : List ℕ) → length w * n ≤ length l → (k i : ℕ) → k < n → i < length w
      → get_or (lines_mixed d ds p w n l) (length w * k + i) 0 ≡ slot_mixed d ds p k (get_or l (length w * k + i) 0) (get_or w i 0)
  unfolding lines_mixed line_mixed slot_mixed
  lines_at zero l fits k i lt h = absurd (omega arith)
  lines_at (suc n) l fits k i lt h = go (ℕ_discrete k n)
      (λ below. lines_at n l (omega (arith, line_below (length w) (suc n) n (omega arith))) k i below h)
    where
      before : List ℕ
      before = lines_mixed d ds p w n l

      go : Dec (k ≡ n) → (k < n → get_or before (length w * k + i) 0 ≡ slot_mixed d ds p k (get_or l (length w * k + i) 0) (get_or w i 0))
          → get_or (line_mixed d ds p w n before) (length w * k + i) 0 ≡ slot_mixed d ds p k (get_or l (length w * k + i) 0) (get_or w i 0)
      go (yes e) rest =
          rw e (own_by n before (ℕ_discrete n p) (ℕ_discrete (get_or ds n 0) 0) i h
          (omega (arith, length-lines n l, line_below (length w) (suc n) n (omega arith)))
          ∙ ap (λ (a : ℕ). slot_mixed d ds p n a (get_or w i 0)) (lines_later n l n i (omega arith) h))
      go (no e) rest = else-by n before (ℕ_discrete n p) (ℕ_discrete (get_or ds n 0) 0) k i e h ∙ rest (omega arith)
