-- `lent_refusal` gives the first of the checks 5, 6, 23 and 7 of decoding that applies.
use Rattle.std.proofs.Common.{◌≡◌, ℕ, Bool, not, ◌||◌, List, length, refl, sym, ap, ◌∙◌, nat_eq, nat_lt}
use mathlib.Core.Path.{ap₂}
use Rattle.refusal.proofs.Ladders.{hit, miss}
use Rattle.codes.specs.Checks.{wrong_length, space_bytes}
use Rattle.codes.proofs.Passed.{as_tested}
use Rattle.array_checks.proofs.lent_refusal.Goals.{Start}
use Rattle.array_checks.proofs.lent_refusal.Goals as goal

-- the five lengths, as the code tests them and as the definition does, for buffers of the lengths that the code was given
module _ (s : Start) (a f w : List ℕ) (p : length a ≡ s.args.answer) (q : length f ≡ s.args.flags)
    (h : length w ≡ s.args.space) where
  abbrev n : ℕ
  n = length s.args.points.now

  abbrev cells : ℕ
  cells = s.args.cells

  lengths_are :
      (wrong_length cells s.args.received.now || wrong_length cells a || wrong_length n f || nat_lt (length w) space_bytes
      || wrong_length n s.args.factors.now)
      ≡ (not (nat_eq (length s.args.received.now) cells) || not (nat_eq s.args.answer cells)
      || not (nat_eq s.args.flags n) || nat_lt s.args.space space_bytes || not (nat_eq (length s.args.factors.now) n))
  lengths_are = ap (λ (b : Bool). b || wrong_length n s.args.factors.now) (ap₂ ◌||◌
      (ap₂ ◌||◌
      (ap (λ (b : Bool). wrong_length cells s.args.received.now || b) (as_tested a p refl))
      (as_tested f q refl))
      (ap (λ (l : ℕ). nat_lt l space_bytes) h))

pub returns-then-received-cells : goal.returns-then-received-cells
returns-then-received-cells c ks a f w p q h =
    sym (hit _ _ _ (lengths_are (goal.at.returns-then-received-cells c).Start a f w p q h ∙ c.if-received-cells.true))

pub returns : goal.returns
returns c ks a f w p q h = c.contents_refusal.ensures
    ∙ sym (miss _ _ _ (lengths_are (goal.at.returns c).Start a f w p q h ∙ c.if-received-cells.false))
