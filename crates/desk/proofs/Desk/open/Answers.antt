-- `Desk::open` hands over what opening promises.
use Rattle.std.proofs.Common.{◌≡◌, Ok, Err}
use Rattle.refusal.proofs.Numbers.{positive}
use Rattle.codes.specs.Factors.{description_of}
use Rattle.mark.proofs.Handing.{hands, hands_not}
use Rattle.desk.specs.Desk.{open_checks, zero_desk, spare, opened}
use Rattle.desk.proofs.Sound.{passed, few_factors}
use Rattle.desk.proofs.Desk.open.Goals as goal

pub returns-in-Err-clause-made : goal.returns-in-Err-clause-made
returns-in-Err-clause-made c = let D = description_of c.args.degree c.args.points.now c.args.factors.now c.args.lengths.now in
    opened D (record { outcome = Err c.in-Err.refused; next = c.zero.result })
    (hands_not (open_checks D) (λ d. d ≡ zero_desk D) (zero_desk spare) c.in-Err.ensures (positive _) c.zero.ensures)

pub zero-requires-2-clause-points_len_bound : goal.zero-requires-2-clause-points_len_bound
zero-requires-2-clause-points_len_bound c = (passed _ c.in_default.ensures).most_columns

pub zero-requires-2-clause-factors_len_bound : goal.zero-requires-2-clause-factors_len_bound
zero-requires-2-clause-factors_len_bound c = few_factors _ (passed _ c.in_default.ensures)

pub zero-requires-2-clause-lengths_len_bound : goal.zero-requires-2-clause-lengths_len_bound
zero-requires-2-clause-lengths_len_bound c = (passed _ c.in_default.ensures).most_rows

pub returns-clause-made : goal.returns-clause-made
returns-clause-made c = let D = description_of c.args.degree c.args.points.now c.args.factors.now c.args.lengths.now in
    opened D (record { outcome = Ok tt; next = c.zero-2.result })
    (hands (open_checks D) (λ d. d ≡ zero_desk D) (zero_desk spare) c.in_default.ensures c.zero-2.ensures)
