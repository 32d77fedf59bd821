-- `code_refusal` gives the first of the checks 1, 2, 3, 21, 4 and 18 that applies.
use Rattle.std.proofs.Common.{◌≡◌, true, false, ℕ, Bool, nat_lt, sym, ap, ◌∙◌, arith}
use Rattle.refusal.specs.Refusal.{first, bad_degree, outside, some_outside}
use Rattle.refusal.specs.Numbers.{number}
use Rattle.refusal.specs.declared.Refusal.TheVariants.{Columns}
use Rattle.refusal.proofs.Numbers.{same_reason}
use Rattle.codes.specs.Code.{Code, code_of, columns, rows}
use Rattle.codes.specs.Checks.{shape_checks, unchecked}
use Rattle.listing.specs.Checks.{code_checks}
use Rattle.listing.proofs.Passed.{above_sixteen, other, third, twenty_first}
use Rattle.listing.proofs.code_refusal.Goals as goal

-- the checks of a code of at most 16 points, and with 21 for more, by the one that applies first of those
module _ (c : Code) {k : ℕ} (is : k ≡ first (shape_checks 16 c)) where
  abbrev b₃ : Bool
  b₃ = outside 1 96 (columns c)

  same : (k ≡ 3 → ⊥) → k ≡ first (code_checks c)
  same = other (bad_degree c.degree) (outside 1 4 (rows c)) b₃ (nat_lt 16 (columns c)) (some_outside 1 (columns c) c.lengths) (unchecked c)
      (above_sixteen (columns c)) is

  no_columns : k ≡ 3 → b₃ ≡ true → 3 ≡ first (code_checks c)
  no_columns = third (bad_degree c.degree) (outside 1 4 (rows c)) b₃ (nat_lt 16 (columns c)) (some_outside 1 (columns c) c.lengths)
      (unchecked c) (outside 1 16 (columns c)) is

  many_columns : k ≡ 3 → b₃ ≡ false → 21 ≡ first (code_checks c)
  many_columns = twenty_first (bad_degree c.degree) (outside 1 4 (rows c)) b₃ (nat_lt 16 (columns c))
      (some_outside 1 (columns c) c.lengths) (unchecked c) (above_sixteen (columns c)) is

pub returns-in_default : goal.returns-in_default
returns-in_default c = same (code_of c.args.degree c.args.points.now c.args.lengths.now) c.in_default.ensures (λ e. omega (arith, e))

pub returns-then-outside : goal.returns-then-outside
returns-then-outside c = no_columns (code_of c.args.degree c.args.points.now c.args.lengths.now) c.in-Err.ensures
    (ap number c.in-Columns.is) (sym c.outside.ensures ∙ c.if-outside.true)

pub returns-else-outside : goal.returns-else-outside
returns-else-outside c = many_columns (code_of c.args.degree c.args.points.now c.args.lengths.now) c.in-Err.ensures
    (ap number c.in-Columns.is) (sym c.outside.ensures ∙ c.if-outside.false)

pub returns-in_default-refused : goal.returns-in_default-refused
returns-in_default-refused c = same (code_of c.args.degree c.args.points.now c.args.lengths.now) c.in-Err.ensures
    (λ e. c.in_default-refused.not-Columns (same_reason c.in-Err.refused Columns e))
