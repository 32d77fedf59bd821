-- No two distinct outcomes satisfy the promise of an answer, and no two outputs that of the program.
--
--   line_unique      a record's number and bytes fix its line
--   unique           the number and the bytes that are left fix the reply and the buffer
--   prints_unique    the input fixes the output
-- Assumes nothing.
use mathlib.Core.Path.{◌≡◌, sym, ap, ap₂, ◌∙◌}
use mathlib.Core.List.{List, [], ◌∷◌, ◌++◌}
use Prim.Native.Nat.{ℕ}
use native.Mathlib.Omega.{arith}
use Rattle.refusal.specs.Meaning.{Meaning}
use Rattle.refusal.proofs.Keeping as keeping
use Rattle.joint.specs.Promises.{Given, Left, buffers, left}
use Rattle.joint.proofs.Unique as joint
use Rattle.record.specs.Records.{stop_checks}
use Rattle.record.specs.Lines.{line_of}
use Rattle.record.specs.Promises.{LineOf, record_in, fresh, refused_line, meaning, laid, Answers, Prints, ends, stops, goes}
use Rattle.record.specs.declared.Reply.{Reply}
use Rattle.record.proofs.Replies.{meaning_faithful, Line, stopped}

module _ (number : ℕ) where
  pub line_unique : (g : Given) (l l' : List ℕ) → LineOf number g l → LineOf number g l' → l ≡ l'
  line_unique g l l' h h' =
      let same = joint.unique g (left h.ending (buffers h.array h.flags) h.space)
      (left h'.ending (buffers h'.array h'.flags) h'.space) h.decodes h'.decodes in
      h.written ∙ ap (λ (x : Left). line_of number x.ending x.buffers.flags) same ∙ sym h'.written

  pub unique : (b lent : List ℕ) (r r' : Reply) (o o' : List ℕ) → Answers number b lent r o → Answers number b lent r' o'
      → (r ≡ r') × (o ≡ o')
  unique [] lent r r' o o' h h' = (meaning_faithful r r' (h.0 ∙ sym h'.0), h.1 ∙ sym h'.1)
  unique (x ∷ b) lent r r' o o' h h' =
      let same = keeping.unique (stop_checks (x ∷ b)) (stopped number lent) (Line number lent (x ∷ b))
      (λ none l l' (line, is, e) (line', is', e').
      e ∙ ap (λ (v : List ℕ). laid 2 v lent) (line_unique (record_in fresh (x ∷ b)) line line' is is') ∙ sym e')
      (meaning r, o) (meaning r', o') h h' in
      (meaning_faithful r r' (ap (λ (l : Meaning × List ℕ). l.0) same), ap (λ (l : Meaning × List ℕ). l.1) same)

pub prints_unique : {number : ℕ} {b out out' : List ℕ} → Prints number b out → Prints number b out' → out ≡ out'
prints_unique (ends e o) (ends e' o') = o ∙ sym o'
prints_unique (ends e o) (stops some' s' o') = absurd (some' e)
prints_unique (ends e o) (goes some' s' l' p' o') = absurd (some' e)
prints_unique (stops some s o) (ends e' o') = absurd (some e')
prints_unique {number} (stops some s o) (stops some' s' o') = o ∙ ap (λ (k : ℕ). refused_line number k) (sym s ∙ s') ∙ sym o'
prints_unique (stops some s o) (goes some' s' l' p' o') = absurd (omega arith)
prints_unique (goes some s l p o) (ends e' o') = absurd (some e')
prints_unique (goes some s l p o) (stops some' s' o') = absurd (omega arith)
prints_unique {number} {b} (goes {line = line} some s l p o) (goes {line = line'} some' s' l' p' o') =
    o ∙ ap₂ ◌++◌ (line_unique number (record_in fresh b) line line' l l') (prints_unique p p') ∙ sym o'
