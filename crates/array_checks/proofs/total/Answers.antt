-- The lengths are summed up.
use Rattle.std.proofs.Common.{ℕ, refl, rules}
use Rattle.std.proofs.lemmas.List.Recursion.{is_sum_by}
use Rattle.codes.specs.Code.{total}
use Rattle.array_checks.proofs.total.Goals as goal

pub returns : goal.returns
unfolding total
returns c = rw (is_sum_by total (λ (k : ℕ). k) refl (λ k ks. refl) c.args.lengths.now) (search rules)
