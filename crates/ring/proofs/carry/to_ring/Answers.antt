-- `to_ring` takes the field, and the y of the points.
use Rattle.std.proofs.Common.{◌≤◌, length, sym, arith}
use lib.Seq.{length-take-le}
use Rattle.hermitian.proofs.Sizes.{tested}
use Rattle.ring_checks.proofs.Ordinates.{y_room}
use Rattle.ring.proofs.carry.to_ring.Goals.{After-ordinates-ys}
use Rattle.ring.proofs.carry.to_ring.Goals as goal

room : (c : After-ordinates-ys) → length c.args.array.now ≤ length c.ordinates-ys.result
room c = omega (arith, y_room c.args.q c.requires.size c.ordinates-ys.result c.ordinates-ys.ensures, c.requires.array.count)

pub new-field-requires : goal.new-field-requires
new-field-requires c = (tested c.args.q c.requires.size).degree

pub slice_bounds-ys-end : goal.slice_bounds-ys-end
slice_bounds-ys-end c = room (goal.at.slice_bounds-ys-end c).After-ordinates-ys

pub slice_bounds-carry_rows-end : goal.slice_bounds-carry_rows-end
slice_bounds-carry_rows-end c = sym (length-take-le _ _ (room (goal.at.slice_bounds-carry_rows-end c).After-ordinates-ys))
