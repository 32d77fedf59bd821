-- `turn` mixes the pivot into the other lines, and then raises it.
use Rattle.std.proofs.Common.{◌≡◌, ◌+◌, ◌-◌, length, arith}
use Rattle.solver.proofs.Raising.{pointed, points_behind, between_same, between_raisable}
use Rattle.solver.proofs.turns.turn.Goals as goal

pub raise-requires-clause-pointed : goal.raise-requires-clause-pointed
raise-requires-clause-pointed c =
    let a = c.args in
    let (points, padded) = c.requires.points in
    let (here, few, narrow, line, lines, space, room) = c.requires.i_in_bounds in
    let (values, nonzero, raisable) = c.requires.symbols_at in
    let behind : a.i + 1 + (length a.points.now - (a.i + 1)) ≡ length a.points.now = omega (arith, here) in
    (rw behind (pointed _ points padded), between_raisable _ _ _ _ _ _ _ _ line c.mix_others.ensures.0 raisable)

pub raise-requires-clause-in_bounds : goal.raise-requires-clause-in_bounds
raise-requires-clause-in_bounds c =
    let (here, few, narrow, line, lines, space, room) = c.requires.i_in_bounds in
    let same = between_same _ _ _ _ _ _ _ _ line c.mix_others.ensures.0 in
    (omega (arith, room, c.mix_others.auto), rw same c.mix_others.ensures.1)

pub returns : goal.returns
returns c =
    let (here, few, narrow, line, lines, space, room) = c.requires.i_in_bounds in
    record {
      between = _;
      mixes = c.mix_others.ensures.0;
      raises = rw (← (points_behind (c.args.i + 1) c.requires.points.1 few (omega (arith, here)))) at c.raise.ensures;
    }
