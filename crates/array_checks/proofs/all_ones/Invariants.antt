-- The bits in which the factors passed differ from one, and the factors that are left, decide.
use Rattle.std.proofs.Common.{◌≡◌, ◌↔◌, ℕ, drop}
use Rattle.poly.specs.Poly.{All}
use Rattle.array_checks.proofs.all_ones.Given as goal

abbrev pub invariant-loop-f : goal.invariant-loop-f
invariant-loop-f l =
    ((l.bits ≡ 0) × All (λ (f : ℕ). f ≡ 1) (drop l.f-index l.factors)) ↔ All (λ (f : ℕ). f ≡ 1) l.factors
