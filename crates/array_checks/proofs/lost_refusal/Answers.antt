-- `lost_refusal` gives the first check of decoding with lost columns that applies.
use Rattle.std.proofs.Common.{refl, sym, ◌∙◌}
use Rattle.std.proofs.lemmas.Result.{err_from_is_err_and}
use Rattle.refusal.proofs.Ladders.{passed_on}
use Rattle.refusal.proofs.Numbers.{handed_on}
use Rattle.codes.specs.Factors.{Description, description_of}
use Rattle.codes.proofs.Proper.{lengths_test}
use Rattle.codes.proofs.Passed.{Counts, counts_of_array}
use Rattle.array_checks.proofs.lost_refusal.Goals.{Start, In_ok-array_refusal}
use Rattle.array_checks.proofs.lost_refusal.Goals as goal

abbrev described : Start → Description
described s = description_of s.args.degree s.args.points.now s.args.factors.now s.args.lengths.now

pub returns-in_err-array_refusal : goal.returns-in_err-array_refusal
returns-in_err-array_refusal c a f w p q s = let e = err_from_is_err_and c.from_residual.result c.from_residual.ensures.1 in
    rw (e.1, e.2) (handed_on _ _ _ (c.in_err-array_refusal.ensures a f w p q s))

pub returns : goal.returns
returns c a f w p q s = c.remaining_refusal.ensures c.args.degree
    ∙ sym (passed_on _ _ tt (c.in_ok-array_refusal.ensures a f w p q s) refl)

counts : (c : In_ok-array_refusal) → Counts (described (goal.at.remaining_refusal-requires-clause-in_bounds c).Start).code
counts c = counts_of_array (described (goal.at.remaining_refusal-requires-clause-in_bounds c).Start) c.args.received.now
    c.in_ok-array_refusal.ensures refl

pub remaining_refusal-requires-clause-lengths_len_bound : goal.remaining_refusal-requires-clause-lengths_len_bound
remaining_refusal-requires-clause-lengths_len_bound c = (counts c).most_rows

pub remaining_refusal-requires-clause-in_bounds : goal.remaining_refusal-requires-clause-in_bounds
remaining_refusal-requires-clause-in_bounds c = ((counts c).some_columns, (counts c).most_columns)

pub remaining_refusal-requires-clause-lengths_value : goal.remaining_refusal-requires-clause-lengths_value
remaining_refusal-requires-clause-lengths_value c = (lengths_test 1 _ c.args.lengths.now).1 (counts c).lengths
