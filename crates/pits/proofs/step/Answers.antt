-- `step` finds the pivot, mixes and multiplies it, and raises its lead.
use Rattle.std.proofs.Common.{◌≡◌, length, sym}
use Rattle.pits.specs.Working.Table.{heads}
use Rattle.pits.proofs.Stepped.{turning, stepped_none, stepped_some}
use Rattle.pits.proofs.step.Goals.{After-heads}
use Rattle.pits.proofs.step.Goals as goal

-- the values at the condition, as they were read
read : (c : After-heads) → c.heads.new.ds ≡ heads (length c.args.xs.now) c.args.i c.args.lines c.args.slots.now
unfolding heads
read c = c.heads.ensures

pub turn-requires : goal.turn-requires
turn-requires c =
    let same = read (goal.at.turn-requires c).After-heads in
    let (is, lt) = rw (same, c.in-Some.is) at c.pivot.ensures in
    turning _ _ _ _ (c.args.leads.now, c.args.slots.now) c.requires.laid c.requires.here same _ (sym is)

pub returns-in-Some : goal.returns-in-Some
returns-in-Some c =
    let same = read (goal.at.returns-in-Some c).After-heads in
    let (is, lt) = rw (same, c.in-Some.is) at c.pivot.ensures in
    sym (stepped_some _ _ _ _ (c.args.leads.now, c.args.slots.now) same _ (sym is) c.turn.ensures)

pub returns-in_default : goal.returns-in_default
returns-in_default c =
    let same = read (goal.at.returns-in_default c).After-heads in
    let (is, lt) = rw (same, c.in_default.is) at c.pivot.ensures in
    sym (stepped_none _ _ _ _ (c.args.leads.now, c.args.slots.now) (sym is))
