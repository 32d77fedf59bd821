-- No two distinct outcomes satisfy the promise of a tray's decoding.
--
--   unique    what a call leaves is fixed by what it is given: outcome, answers, arrays, flags and working space
-- Assumes nothing.
use mathlib.Core.Path.{◌≡◌, sym, ap, ◌∙◌}
use mathlib.Core.List.{List}
use Prim.Native.Nat.{ℕ, ◌<◌}
use native.Mathlib.Omega.{arith}
use lib.Seq.{ext_get_or}
use Rattle.refusal.proofs.Keeping as keeping
use Rattle.codes.specs.Code.{columns}
use Rattle.mark.specs.Promises.{success}
use Rattle.ending.specs.Endings.{Buffers}
use Rattle.ending.specs.declared.Ending.{Ending}
use Rattle.ending.specs.declared.Ending.TheVariants.{Nothing}
use Rattle.joint.specs.Promises.{Left, left, cleared}
use Rattle.joint.proofs.Unique as single
use Rattle.tray.specs.Promises.{GivenTray, LeftTray, refused_tray, Alone, Fills, DecodesTray, alone, cells, mark_of, checks_tray}
use Rattle.tray.proofs.Places.{same_rows}
use Rattle.tray.proofs.Filled.{marks, HasPassed, has_passed}

module _ {A : Type 0} (say : Ending → A) (g : GivenTray A) where
  -- one mark
  module _ (s s' : List A) (b b' : Buffers) (k : ℕ) (h : Alone say g s b k) (h' : Alone say g s' b' k) where
    same_mark : left h.ending (mark_of g.description.code k b) h.space ≡ left h'.ending
        (mark_of g.description.code k b') h'.space
    same_mark = single.unique (alone g k) _ _ h.decodes h'.decodes

  -- all of them
  module _ (p : HasPassed g) (s s' : List A) (b b' : Buffers) (h : Fills say g s b) (h' : Fills say g s' b') where
    same_answers : s ≡ s'
    same_answers = ext_get_or (say Nothing) s s' (h.count ∙ sym h'.count) (λ k r.
        let q : k < marks g = omega (arith, h.count) in
        (h.marks k q).answer ∙ ap (λ (l : Left). say l.ending) (same_mark s s' b b' k (h.marks k q) (h'.marks k q))
        ∙ sym (h'.marks k q).answer)

    same_arrays : b.array ≡ b'.array
    same_arrays = same_rows (cells g.description.code) (marks g) b.array b'.array (h.arrays ∙ p.arrays) (h'.arrays ∙ p.arrays)
        (λ k q. ap (λ (l : Left). l.buffers.array) (same_mark s s' b b' k (h.marks k q) (h'.marks k q)))

    same_flags : b.flags ≡ b'.flags
    same_flags = same_rows (columns g.description.code) (marks g) b.flags b'.flags (h.flags ∙ p.flags) (h'.flags ∙ p.flags)
        (λ k q. ap (λ (l : Left). l.buffers.flags) (same_mark s s' b b' k (h.marks k q) (h'.marks k q)))

  pub unique : (l l' : LeftTray A) → DecodesTray say g l → DecodesTray say g l' → l ≡ l'
  unique = keeping.unique (checks_tray g) (refused_tray g)
      (λ l. (l.outcome ≡ success) × Fills say g l.answers l.buffers × (l.space ≡ cleared g.space))
      (λ none l l' h h'.
      let p = has_passed g none in
      let b = l.buffers in
      let b' = l'.buffers in
      λ i. record {
        outcome = (h.0 ∙ sym h'.0) i;
        answers = same_answers p l.answers l'.answers b b' h.1 h'.1 i;
        buffers = record {
          array = same_arrays p l.answers l'.answers b b' h.1 h'.1 i;
          flags = same_flags p l.answers l'.answers b b' h.1 h'.1 i;
        };
        space = (h.2 ∙ sym h'.2) i;
      })
