-- `conditions::rows_conditions` lays the conditions of each row behind those of the row before.
use Rattle.std.proofs.Common.{◌≡◌, ℕ, ◌+◌, length, drop}
use Rattle.patch.specs.Parts.{lay}
use Rattle.conditions.specs.Working.{reduced_points, reduced_values}
use Rattle.conditions.proofs.Places.{Left}
use Rattle.conditions.proofs.rows_conditions.Given as goal

-- row i, which comes next, begins at symbol q
abbrev pub invariant-loop-k : goal.invariant-loop-k
invariant-loop-k l =
    (i : ℕ) × (q : ℕ)
    × Left (length l.points) l.lengths l.received i q l.k-iterator.a.rest.now l.k-iterator.b.rest.now l.k-iterator.b.size
    × (l.at + length (reduced_points l.points (drop i l.lengths)) ≡ length (reduced_points l.points l.lengths))
    × (lay l.at (reduced_values l.field.degree l.points (drop i l.lengths) (drop q l.received)) l.us
    ≡ lay 0 (reduced_values l.field.degree l.points l.lengths l.received) l.fn.us)
    × (lay l.at (reduced_points l.points (drop i l.lengths)) l.xs ≡ lay 0 (reduced_points l.points l.lengths) l.fn.xs)
