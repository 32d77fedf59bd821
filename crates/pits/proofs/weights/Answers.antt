-- There are at most 64 points, and the L of a line lies in the table.
use Rattle.std.proofs.Common.{◌≤◌, ◌+◌, ◌*◌, length, replicate, refl, arith}
use Rattle.solver.proofs.Lowest.{all_marked}
use Rattle.pits.specs.Working.Table.{Least}
use Rattle.pits.proofs.Lowest.{least_found}
use Rattle.hermitian.proofs.Sizes.{sides}
use Rattle.pits.proofs.Answered.{weights_room, weighed}
use Rattle.pits.proofs.weights.Goals.{Start, After-least}
use Rattle.pits.proofs.weights.Goals as goal

few : (c : Start) → length c.args.ring.now ≤ 64
few c = omega (arith, c.requires.ring.count, sides c.args.field.now.degree c.args.field.now.degree c.requires.size refl)

pub shared_ref_as_front-solve : goal.shared_ref_as_front-solve
shared_ref_as_front-solve c = few (goal.at.shared_ref_as_front-solve c).Start

-- the line that is taken is one of least lead
taken : (c : After-least) → Least c.solve.new.leads (2 * c.args.field.now.degree) c.least.result
taken c =
    let n = sides c.args.field.now.degree c.args.field.now.degree c.requires.size refl in
    least_found (replicate 8 1) _ _ _ (λ j lt. all_marked 8 j (omega (arith, n.side))) (c.least.ensures.1 (omega (arith, n.some)))

room : (c : After-least) → 2 * length c.args.ring.now * c.least.result + length c.args.ring.now + length c.args.ring.now ≤ 1024
room c = weights_room c.args.field.now.degree c.args.m c.args.ring.now c.requires.size c.requires.ring c.least.result (taken c).below

pub least-requires : goal.least-requires
least-requires c =
    let n = sides c.args.field.now.degree c.args.field.now.degree c.requires.size refl in
    omega (arith, n.side)

pub overflow_mul-at-2 : goal.overflow_mul-at-2
overflow_mul-at-2 c = omega (arith, room (goal.at.overflow_mul-at-2 c).After-least)

pub overflow_add-at : goal.overflow_add-at
overflow_add-at c = omega (arith, room (goal.at.overflow_add-at c).After-least)

pub overflow_add-at-2 : goal.overflow_add-at-2
overflow_add-at-2 c = omega (arith, room (goal.at.overflow_add-at-2 c).After-least)

pub slice_bounds-copy_from_slice-end-2 : goal.slice_bounds-copy_from_slice-end-2
slice_bounds-copy_from_slice-end-2 c = omega (arith, room (goal.at.slice_bounds-copy_from_slice-end-2 c).After-least)

pub returns-clause-weighs : goal.returns-clause-weighs
returns-clause-weighs c = let l = (goal.at.returns-clause-weighs c).After-least in
    weighed c.args.field.now.degree c.args.m c.args.ring.now c.requires.size c.requires.ring _ c.solve.ensures.slots_len_unchanged _
    (taken l).below _ _ c.solve.ensures.solved (taken l) c.copy_from_slice.ensures.after
