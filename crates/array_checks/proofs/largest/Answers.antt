-- The largest so far, from 0 on.
use Rattle.std.proofs.Common.{◌≡◌, ℕ, List, [], ◌∷◌, arith, max, rules, ◌∙◌}
use Rattle.std.specs.List.{fold}
use Rattle.codes.specs.Code.{largest}
use Rattle.array_checks.proofs.largest.Goals as goal

fold-max : (ks : List ℕ) (k : ℕ) → fold max k ks ≡ max k (largest ks)
unfolding largest
fold-max [] k = omega arith
fold-max (x ∷ ks) k = fold-max ks (max k x) ∙ omega arith

largest_is : (ks : List ℕ) → largest ks ≡ fold max 0 ks
largest_is ks = omega (arith, fold-max ks 0)

pub returns : goal.returns
returns c = rw (largest_is c.args.lengths.now) (search rules)
