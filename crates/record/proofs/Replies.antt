-- The promise of an answer, case by case.
--
--   meaning_faithful    no two replies mean the same
--   answers_end         nothing is left
--   answers_stop        a reason to stop applies
--   answers_next        none does, and the line was written
-- Assumes nothing.
use mathlib.Core.Path.{◌≡◌, refl, sym, ap, ap₂, ◌∙◌, subst}
use mathlib.Core.List.{List, [], ◌∷◌}
use Prim.Native.Nat.{ℕ}
use native.Mathlib.Nat.{zero-add}
use native.Mathlib.Omega.{arith}
use lib.ListN.{length}
use Rattle.refusal.specs.Keeping.{Keeps}
use Rattle.refusal.specs.Meaning.{Meaning, number_of, detail_of}
use Rattle.refusal.specs.Numbers as reasons
use Rattle.refusal.specs.declared.Refusal.{Refusal}
use Rattle.refusal.proofs.Keeping.{does}
use Rattle.refusal.proofs.Numbers.{refused_as}
use Rattle.ending.specs.declared.Ending.TheVariants.{Refused}
use Rattle.record.specs.Records.{stop_checks, stop_of}
use Rattle.record.specs.Lines.{line_of}
use Rattle.record.specs.Promises.{LineOf, record_in, fresh, refused_line, meaning, laid, Answers}
use Rattle.record.specs.Working.{Puts}
use Rattle.record.specs.declared.Reply.{Reply}
use Rattle.record.specs.declared.Reply.TheVariants.{End, Last, Next}

pub meaning_faithful : (r r' : Reply) → meaning r ≡ meaning r' → r ≡ r'
meaning_faithful End End e = refl
meaning_faithful End (Last n) e = absurd (omega (arith, ap number_of e))
meaning_faithful End (Next n) e = absurd (omega (arith, ap number_of e))
meaning_faithful (Last n) End e = absurd (omega (arith, ap number_of e))
meaning_faithful (Last n) (Last m) e = ap Last (ap detail_of e)
meaning_faithful (Last n) (Next m) e = absurd (omega (arith, ap number_of e))
meaning_faithful (Next n) End e = absurd (omega (arith, ap number_of e))
meaning_faithful (Next n) (Last m) e = absurd (omega (arith, ap number_of e))
meaning_faithful (Next n) (Next m) e = ap Next (ap detail_of e)

module _ (number : ℕ) (lent : List ℕ) where
  pub answers_end : (b : List ℕ) → length b ≡ 0 → Answers number b lent End lent
  answers_end [] h = (refl, refl)
  answers_end (x ∷ b) h = absurd (omega arith)

  -- what was put is the reply with that line
  put_is : (n : ℕ) (line : List ℕ) {left : List ℕ} {r : ℕ} → Puts lent 0 line left r → laid n line lent ≡ ((n, r ∷ []), left)
  put_is n line p = sym (ap₂ (λ (r : ℕ) (o : List ℕ). ((n, r ∷ []), o)) (p.behind ∙ zero-add _) p.laid)

  -- a whole record's line
  abbrev pub Line : List ℕ → Meaning × List ℕ → Type 0
  Line b l = (line : List ℕ) × LineOf number (record_in fresh b) line × (l ≡ laid 2 line lent)

  abbrev pub stopped : ℕ → Meaning × List ℕ
  stopped k = laid 1 (refused_line number k) lent

  pub answers_stop : (b : List ℕ) (s : Refusal) {left : List ℕ} {r : ℕ} → (length b ≡ 0 → ⊥) → reasons.number s ≡ stop_of b
      → Puts lent 0 (line_of number (Refused s) []) left r → Answers number b lent (Last r) left
  unfolding stop_of
  answers_stop [] s h e p = absurd (h refl)
  answers_stop (x ∷ b) s h e p =
      subst (Keeps (stop_checks (x ∷ b)) stopped (Line (x ∷ b))) (put_is 1 (line_of number (Refused s) []) p)
      (refused_as (stop_checks (x ∷ b)) (λ s. laid 1 (line_of number (Refused s) []) lent) (Line (x ∷ b)) s e)

  pub answers_next : (b line : List ℕ) {left : List ℕ} {r : ℕ} → (length b ≡ 0 → ⊥) → stop_of b ≡ 0
      → LineOf number (record_in fresh b) line → Puts lent 0 line left r → Answers number b lent (Next r) left
  unfolding stop_of
  answers_next [] line h e l p = absurd (h refl)
  answers_next (x ∷ b) line h e l p =
      does (stop_checks (x ∷ b)) stopped (Line (x ∷ b)) _ (sym e) (line, l, sym (put_is 2 line p))
