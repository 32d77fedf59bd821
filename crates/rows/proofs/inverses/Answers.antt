-- `inverses` takes the inverses, one after the other.
use Rattle.std.proofs.Common.{◌+◌, ◌-◌, ◌<◌, arith, length}
use Rattle.std.proofs.lemmas.List.{take_rest, length-drop, get_or-drop}
use Rattle.patch.proofs.Loops.{filling, turn}
use Rattle.field.specs.Symbols.{plus}
use Rattle.field.proofs.Instance.{field}
use Rattle.rows.specs.Working.Rows.{inverse}
use Rattle.rows.proofs.Rounds.{divisor, divisor_symbol}
use Rattle.rows.proofs.inverses.Goals.{In-loop-i}
use Rattle.rows.proofs.inverses.Goals as goal

-- a turn's point is one of those behind the j-th
behind : (c : In-loop-i) → c.loop-i.i < length c.args.points.now - (c.args.j + 1)
behind c = rw (take_rest, length-drop) at c.loop-i-test.true

pub loop-i-init : goal.loop-i-init
loop-i-init c = filling

pub quotient-requires : goal.quotient-requires
unfolding plus
quotient-requires c =
    let given = c.requires in
    let good = c.args.field.now.degree_value in
    let h = behind (goal.at.quotient-requires c).In-loop-i in
    let later : c.args.j + 1 + c.loop-i.i < length c.args.points.now = omega (arith, h) in
    rw (take_rest, get_or-drop) record {
      left = (field _ good).one_in;
      right = divisor_symbol _ good _ _ _ given.points given.place later;
      nonzero = divisor _ good _ _ _ given.points (omega arith) later;
    }

pub loop-i-preserved : goal.loop-i-preserved
unfolding plus inverse
loop-i-preserved c =
    turn c.loop-i.invariant (behind (goal.at.loop-i-preserved c).In-loop-i) (rw (take_rest, get_or-drop) at c.quotient.ensures)
