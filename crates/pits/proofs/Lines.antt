-- Lines that are laid one after the other, each the one before it times the symbols of ys.
--
--   grown_none, grown_more, length-grown, grown_in    the line that comes next
--   grown-at         its values
--   lines_none, lines_more, length-lines              the table so far
--   laid_at          what is in the slots of the lines that were laid
--   laid_other       what is in those of the others
-- Assumes nothing.
use mathlib.Core.Path.{◌≡◌, refl, sym, ap, ap₂, ◌∙◌}
use mathlib.Core.Bool.{false}
use mathlib.Core.List.{List}
use Prim.Native.Nat.{ℕ, zero, suc, ◌+◌, ◌*◌, ◌≤◌, ◌<◌}
use native.Mathlib.Nat.{zero-add}
use native.Mathlib.Numerals.{add-one}
use native.Mathlib.Decide.{ℕ_discrete}
use native.Mathlib.Omega.{arith}
use lib.ListN.{length, get_or, take}
use lib.Seq.{get_or-take, length-take-le}
use Rattle.refusal.specs.Refusal.{bad_degree}
use Rattle.patch.specs.Parts.{lay}
use Rattle.patch.proofs.Laws.{length-patch, get_or-patch}
use Rattle.patch.proofs.Parts.{length-lay, get_or-lay}
use Rattle.field.specs.Symbols.{plus, times}
use Rattle.field.specs.Arithmetic.{gf}
use Rattle.field.proofs.Instance.{field}
use Rattle.poly.proofs.Ring.{plus-zero}
use Rattle.lists.specs.Working.Lists.{multiplied, multiplied_at}
use Rattle.pits.specs.Working.Table.{Symbols}
use Rattle.pits.specs.Working.Rings.{grown, lines_laid}
use Rattle.pits.proofs.Slots.{line_below, patch_other}

module _ (d : ℕ) (ys w : List ℕ) where
  abbrev n : ℕ
  n = length ys

  pub grown_none : grown d ys w 0 ≡ w
  unfolding grown
  grown_none = refl

  pub grown_more : (j : ℕ) {v u : List ℕ} → v ≡ grown d ys w j → u ≡ multiplied_at d ys 0 v 0 0 → u ≡ grown d ys w (j + 1)
  unfolding grown
  grown_more j is e = rw add-one (e ∙ ap (λ (v : List ℕ). multiplied_at d ys 0 v 0 0) is)

  pub length-grown : (j : ℕ) → length (grown d ys w j) ≡ length w
  unfolding grown
  length-grown zero = refl
  length-grown (suc j) = length-patch 0 _ (grown d ys w j) n ∙ length-grown j

  module _ (good : bad_degree d ≡ false) (enough : length ys ≤ length w) where
    pub grown_next : (j i : ℕ) → i < length ys → get_or (grown d ys w (suc j)) i 0 ≡ times d (get_or ys i 0) (get_or (grown d ys w j) i 0)
    unfolding grown multiplied
    grown_next j i lt =
        ap (λ (k : ℕ). get_or (multiplied_at d ys 0 (grown d ys w j) 0 0) k 0) (sym (zero-add i))
        ∙ get_or-patch 0 _ (grown d ys w j) n i 0 lt (omega (arith, enough, length-grown j))
        ∙ ap (λ (k : ℕ). times d (plus (get_or ys i 0) 0) (plus (get_or (grown d ys w j) k 0) 0)) (zero-add i)
        ∙ ap₂ (times d) (plus-zero (gf d) (field d good) (get_or ys i 0)) (plus-zero (gf d) (field d good) (get_or (grown d ys w j) i 0))

    pub grown_in : Symbols d (length ys) w → (j : ℕ) → Symbols d (length ys) (grown d ys w j)
    grown_in h zero i lt = unfold grown in h i lt
    grown_in h (suc j) i lt = rw (grown_next j i lt) ((field d good).times_in _ _)

  module _ (first : ℕ) where
    pub lines_none : (l : List ℕ) → lines_laid d ys w first 0 l ≡ l
    unfolding lines_laid
    lines_none l = refl

    pub lines_more : (j : ℕ) (l : List ℕ) {v s t : List ℕ} → v ≡ grown d ys w j → s ≡ lines_laid d ys w first j l
        → t ≡ lay (length ys * (first + j)) (take (length ys) v) s → t ≡ lines_laid d ys w first (j + 1) l
    unfolding lines_laid
    lines_more j l grew is e = rw add-one (e ∙ ap₂ (λ (v s : List ℕ). lay (n * (first + j)) (take n v) s) grew is)

    pub length-lines : (j : ℕ) (l : List ℕ) → length (lines_laid d ys w first j l) ≡ length l
    unfolding lines_laid
    length-lines zero l = refl
    length-lines (suc j) l = length-lay _ _ (lines_laid d ys w first j l) ∙ length-lines j l

    module _ (enough : length ys ≤ length w) where
      front : (j : ℕ) → length (take n (grown d ys w j)) ≡ n
      front j = length-take-le n (grown d ys w j) (omega (arith, enough, length-grown j))

      lay_other : (v l : List ℕ) (j k i : ℕ) → length v ≡ n → (k ≡ j → ⊥) → i < n
          → get_or (lay (n * j) v l) (n * k + i) 0 ≡ get_or l (n * k + i) 0
      unfolding lay
      lay_other v l j k i e other lt = rw e (patch_other n j _ l k i other lt)

      pub laid_other : (m : ℕ) (l : List ℕ) (k i : ℕ) → ((j : ℕ) → j < m → k ≡ first + j → ⊥) → i < length ys
          → get_or (lines_laid d ys w first m l) (length ys * k + i) 0 ≡ get_or l (length ys * k + i) 0
      unfolding lines_laid
      laid_other zero l k i other lt = refl
      laid_other (suc m) l k i other lt =
          lay_other (take n (grown d ys w m)) (lines_laid d ys w first m l) (first + m) k i (front m) (other m (omega arith)) lt
          ∙ laid_other m l k i (λ j h. other j (omega arith)) lt

      pub laid_at : (m : ℕ) (l : List ℕ) (j i : ℕ) → j < m → i < length ys → length ys * (first + m) ≤ length l
          → get_or (lines_laid d ys w first m l) (length ys * (first + j) + i) 0 ≡ get_or (grown d ys w j) i 0
      unfolding lines_laid
      laid_at zero l j i lj lt room = absurd (omega arith)
      laid_at (suc m) l j i lj lt room = go (ℕ_discrete j m) (λ below. laid_at m l j i below lt (omega (arith, fits)))
        where
          before : List ℕ
          before = lines_laid d ys w first m l

          fits : n * (first + m) + n ≤ n * (first + suc m)
          fits = line_below n (first + suc m) (first + m) (omega arith)

          go : Dec (j ≡ m) → (j < m → get_or before (n * (first + j) + i) 0 ≡ get_or (grown d ys w j) i 0)
              → get_or (lay (n * (first + m)) (take n (grown d ys w m)) before) (n * (first + j) + i) 0 ≡ get_or (grown d ys w j) i 0
          go (yes e) rest =
              rw e (get_or-lay (n * (first + m)) (take n (grown d ys w m)) before i (omega (arith, front m, lt))
              (omega (arith, front m, fits, room, length-lines m l))
              ∙ get_or-take n (grown d ys w m) i 0 lt)
          go (no e) rest =
              lay_other (take n (grown d ys w m)) before (first + m) (first + j) i (front m) (λ same. e (omega arith)) lt
              ∙ rest (omega arith)
