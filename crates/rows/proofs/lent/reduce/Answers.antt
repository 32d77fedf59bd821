-- `reduce` multiplies by the inverses that it is lent, one round after the other; what it does behind the row is cut off.
use Rattle.rows.proofs.Sharing.{Sharing, none_shared, one_shared}
use Rattle.rows.proofs.lent.reduce.Goals as goal

pub loop-j-init : goal.loop-j-init
loop-j-init c = none_shared _ _ _ c.requires.symbols_at.0

pub loop-j-preserved : goal.loop-j-preserved
loop-j-preserved c =
    let r = c.requires in
    let given : Sharing c.args.field.now.degree c.args.points.now c.args.k c.args.ws.now c.args.s.now = record {
      points = r.points;
      rounds = r.k_in_bounds.0;
      few = r.k_in_bounds.1;
      room = r.k_in_bounds.2;
      symbols = r.symbols_at.0;
      inverses = r.symbols_at.1;
    } in
    let m = c.next_multiple_of-whole in
    one_shared c.args.field.now.degree_value given c.loop-j.invariant c.loop-j-test.true m.result m.ensures.lower_bound m.ensures.upper_bound m.ensures.multiple
    c.multiply.ensures
