-- The answers, one after the other, print what the program promises. The bytes at hand are p, and rest is what follows them in
-- the input; the line is at the front of the buffer.
--
--   prints_end     nothing is left
--   prints_last    reading stops: as many bytes are at hand as are wanted, or all that are left
--   prints_next    it goes on behind the record: no more bytes are at hand than are wanted
--   none_answered, some_answered    only where nothing is left there is no line, and none goes on
-- Assumes nothing.
use mathlib.Core.Path.{◌≡◌, refl, sym, ap, ap₂, ◌∙◌, subst}
use mathlib.Core.Logic.{◌⊎◌, inl, inr}
use mathlib.Core.List.{List, [], ◌∷◌, ◌++◌, append-nil}
use Prim.Native.Nat.{ℕ, suc, ◌≤◌}
use native.Mathlib.Omega.{arith}
use lib.ListN.{length, take}
use Rattle.patch.specs.Parts.{part, lay}
use Rattle.patch.proofs.Parts.{length-lay, part-lay}
use Rattle.refusal.specs.Keeping.{Keeps}
use Rattle.refusal.specs.Meaning.{Meaning, number_of, detail_of}
use Rattle.refusal.proofs.Keeping.{told}
use Rattle.record.specs.Records.{stop_checks, stop_of, wanted}
use Rattle.record.specs.Promises.{LineOf, record_in, fresh, refused_line, meaning, laid, Answers, Prints, ends, stops, goes}
use Rattle.record.specs.declared.Reply.TheVariants.{End, Last, Next}
use Rattle.record.proofs.Replies.{Line, stopped}
use Rattle.record.proofs.Enough.{same_answer, all_held, rest_of}

front : (v lent : List ℕ) → length v ≤ length lent → take (length v) (lay 0 v lent) ≡ v
unfolding part
front v lent h = part-lay 0 v lent (omega arith)

nonempty : {y : ℕ} {ys : List ℕ} → y ∷ ys ≡ [] → ⊥
nonempty e = let z : ◌≡◌ {A = ℕ} 0 1 = cc in omega arith

pub none_answered : (number : ℕ) (p lent left : List ℕ) → Answers number p lent End left → p ≡ []
none_answered number [] lent left h = refl
none_answered number (x ∷ p) lent left h =
    absurd (told (stop_checks (x ∷ p)) (stopped number lent) (Line number lent (x ∷ p)) (meaning End, left) h
    (λ none (line, is, e). omega (arith, ap (λ (l : Meaning × List ℕ). number_of l.0) e))
    (λ k e d. omega (arith, ap (λ (l : Meaning × List ℕ). number_of l.0) d)))

pub some_answered : (number n : ℕ) (p lent left : List ℕ) → Answers number p lent (Next n) left → 1 ≤ length p
some_answered number n [] lent left h = absurd (omega (arith, ap number_of h.0))
some_answered number n (x ∷ p) lent left h = omega arith

pub prints_end : (number : ℕ) → Prints number [] []
prints_end number = ends refl refl

module _ (number n : ℕ) (lent left : List ℕ) (room : n ≤ length left) where
  -- the line is at the front of the buffer
  line_front : {i j : ℕ} (line : List ℕ) → ((i, n ∷ []), left) ≡ laid j line lent → take n left ≡ line
  line_front line e =
      let size : n ≡ length line = ap (λ (l : Meaning × List ℕ). detail_of l.0) e in
      let held : left ≡ lay 0 line lent = ap (λ (l : Meaning × List ℕ). l.1) e in
      let fits : length line ≤ length lent = omega (arith, ap length held, length-lay 0 line lent) in
      ap₂ take size held ∙ front line lent fits

  number_of_lem : {i j : ℕ} (line : List ℕ) → ((i, n ∷ []), left) ≡ laid j line lent → i ≡ j
  number_of_lem line e = ap (λ (l : Meaning × List ℕ). number_of l.0) e

  last_by : (b : List ℕ) → Keeps (stop_checks b) (stopped number lent) (Line number lent b) (meaning (Last n), left)
      → (k : ℕ) × (stop_of b ≡ suc k) × (take n left ≡ refused_line number (suc k))
  unfolding stop_of
  last_by b h = told (stop_checks b) (stopped number lent) (Line number lent b) (meaning (Last n), left) h
      (λ none (line, is, e). absurd (omega (arith, number_of_lem line e)))
      (λ k e d. (k, sym e, line_front (refused_line number (suc k)) d))

  pub prints_last : (p rest : List ℕ) → (wanted p ≤ length p) ⊎ (rest ≡ []) → Answers number p lent (Last n) left
      → Prints number (p ++ rest) (take n left)
  prints_last [] rest w h = absurd (omega (arith, ap number_of h.0))
  prints_last (x ∷ p) rest (inl w) h =
      let l = last_by (x ∷ p) h in
      stops {k = l.0} nonempty ((same_answer (x ∷ p) w rest).0 ∙ l.1) l.2
  prints_last (x ∷ p) rest (inr w) h =
      let l = last_by (x ∷ p) h in
      let e : x ∷ p ++ rest ≡ x ∷ p = ap (λ (r : List ℕ). x ∷ p ++ r) w ∙ append-nil (x ∷ p) in
      stops {k = l.0} nonempty (ap stop_of e ∙ l.1) l.2

  next_by : (b : List ℕ) → Keeps (stop_checks b) (stopped number lent) (Line number lent b) (meaning (Next n), left)
      → (stop_of b ≡ 0) × LineOf number (record_in fresh b) (take n left)
  unfolding stop_of
  next_by b h = told (stop_checks b) (stopped number lent) (Line number lent b) (meaning (Next n), left) h
      (λ none (line, is, e). (sym none, subst (LineOf number (record_in fresh b)) (sym (line_front line e)) is))
      (λ k e d. absurd (omega (arith, number_of_lem (refused_line number (suc k)) d)))

  pub prints_next : (p rest out : List ℕ) → length p ≤ wanted p → Answers number p lent (Next n) left → Prints (suc number) rest out
      → Prints number (p ++ rest) (take n left ++ out)
  prints_next [] rest out w h more = absurd (omega (arith, ap number_of h.0))
  prints_next (x ∷ p) rest out w h more =
      let l = next_by (x ∷ p) h in
      let same = same_answer (x ∷ p) (all_held (x ∷ p) l.0) rest in
      goes {number = number} {b = x ∷ p ++ rest} {line = take n left} {rest = out} nonempty (same.0 ∙ l.0) (rw (same.1 l.0) l.1)
      (subst (λ (b : List ℕ). Prints (suc number) b out) (sym (rest_of (x ∷ p) l.0 rest w)) more) refl
