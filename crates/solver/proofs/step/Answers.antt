-- `step` finds the pivot, and mixes and raises it.
use Rattle.std.proofs.Common.{arith}
use lib.ListN.{replicate}
use Rattle.solver.proofs.Pivoted.{ready, raisable, heads_at}
use Rattle.solver.proofs.Stepped.{step-none, step-some}
use Rattle.solver.proofs.step.Goals as goal

pub turn-requires-clause-symbols_at : goal.turn-requires-clause-symbols_at
turn-requires-clause-symbols_at c =
    let (here, short, some, most, room, copy) = c.requires.i_in_bounds in
    let (es, held) = c.requires.holds_some in
    let good = c.args.field.now.degree_value in
    let read = heads_at c.args.space.now c.args.i c.args.lines (replicate 5 0) most c.heads.ensures in
    let (is, lt) = rw c.in-Some.is at c.pivot.ensures in
    let known = ready _ _ _ _ here short held _ read _ is lt good some most in (
      known.values,
      known.nonzero,
      raisable _ _ _ _ here short held _ read _ is lt good _ known.above known.within (omega (arith, lt, room)),
    )

pub returns-in-Some : goal.returns-in-Some
returns-in-Some c =
    let (here, short, some, most, room, copy) = c.requires.i_in_bounds in
    let (es, held) = c.requires.holds_some in
    let good = c.args.field.now.degree_value in
    let read = heads_at c.args.space.now c.args.i c.args.lines (replicate 5 0) most c.heads.ensures in
    let (is, lt) = rw c.in-Some.is at c.pivot.ensures in
    let known = ready _ _ _ _ here short held _ read _ is lt good some most in
    λ es h. step-some _ c.args.points.now _ _ here short h _ read _ is lt room good _ known.above known.within c.turn.ensures

pub returns-in_default : goal.returns-in_default
returns-in_default c =
    let (here, short, some, most, room, copy) = c.requires.i_in_bounds in
    let read = heads_at c.args.space.now c.args.i c.args.lines (replicate 5 0) most c.heads.ensures in
    let (is, lt) = rw c.in_default.is at c.pivot.ensures in
    λ es h. step-none _ c.args.points.now _ _ here short h _ read is
