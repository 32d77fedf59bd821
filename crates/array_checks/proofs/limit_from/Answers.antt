-- `limit_from` is the joint limit: the lengths are up to n, so that neither difference wraps.
use Rattle.std.proofs.Common.{◌≡◌, ℕ, ◌+◌, ◌-◌, ◌*◌, ◌/◌, min, ◌∙◌, arith}
use native.Mathlib.Numerals.{add-one}
use Rattle.codes.specs.Code.{Code, code_of, columns, rows, total, largest, joint_limit}
use Rattle.codes.proofs.Passed.{total-most, largest-most}
use Rattle.array_checks.proofs.limit_from.Goals as goal

least : (c : Code) {u k m : ℕ} → u ≡ rows c * columns c → k ≡ total c.lengths → m ≡ largest c.lengths
    → min ((u - k) / (rows c + 1)) (columns c - m) ≡ joint_limit c
unfolding joint_limit
least c p q s = rw (p, q, s, add-one)

pub overflow_sub-spare : goal.overflow_sub-spare
overflow_sub-spare c = omega (arith, total-most _ c.args.lengths.now c.requires.sizes.lengths)

pub overflow_sub-short : goal.overflow_sub-short
overflow_sub-short c = omega (arith, c.requires.most_value, largest-most _ c.args.lengths.now c.requires.sizes.lengths)

pub returns : goal.returns
returns c d = c.min.ensures
    ∙ least (code_of d c.args.points.now c.args.lengths.now) c.cells.ensures c.total.ensures c.requires.most_value
