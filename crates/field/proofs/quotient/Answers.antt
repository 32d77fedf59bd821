-- `field::quotient` answers what it promises.
use Rattle.std.proofs.Common.{◌≡◌, ap, sym, ◌∙◌}
use Rattle.std.proofs.lemmas.Result.{err_from_is_err_and}
use Rattle.refusal.specs.Refusal.{first}
use Rattle.refusal.specs.Numbers.{refused}
use Rattle.refusal.proofs.Ladders.{front_passed}
use Rattle.refusal.proofs.Numbers.{in_turn}
use Rattle.field.specs.Values.{checks, quotient_checks}
use Rattle.field.proofs.Promised.{Operands, operands, nonzero, refuses, gives}
use Rattle.field.proofs.quotient.Goals.{After-and, In_ok-and}
use Rattle.field.proofs.quotient.Goals as goal

-- the first check of a quotient that applies
checked : (c : After-and) → refused c.and.result ≡ first (quotient_checks c.args.degree c.args.a c.args.b)
checked c = ap refused c.and.ensures ∙ in_turn _ _ _ _ tt c.first_refusal.ensures c.divisor_refusal.ensures

-- where none applies
none : (c : In_ok-and) → 0 ≡ first (quotient_checks c.args.degree c.args.a c.args.b)
none c = sym (ap refused c.in_ok-and.was) ∙ checked (goal.at.new-field-requires c).After-and

known : (c : In_ok-and) → Operands c.args.degree c.args.a c.args.b
known c = operands _ _ _ (front_passed (checks c.args.degree c.args.a c.args.b) _ tt (none c))

pub returns-in_err-and : goal.returns-in_err-and
returns-in_err-and c = let e = err_from_is_err_and c.from_residual.result c.from_residual.ensures.1 in
    rw (e.1, e.2) (refuses _ _ _ (sym (ap refused c.in_err-and.was) ∙ checked (goal.at.returns-in_err-and c).After-and))

pub new-field-requires : goal.new-field-requires
new-field-requires c = (known c).degree

pub quotient-requires : goal.quotient-requires
quotient-requires c = let k = (goal.at.quotient-requires c).In_ok-and in let ok = known k in record {
  left = rw c.new-field.ensures ok.left;
  right = rw c.new-field.ensures ok.right;
  nonzero = nonzero c.args.degree c.args.a c.args.b (none k);
}

pub returns : goal.returns
returns c = gives _ _ (none (goal.at.returns c).In_ok-and) (rw c.new-field.ensures at c.quotient.ensures)
