-- A turn stores the line that w is, and multiplies w by the symbols of ys.
use Rattle.std.proofs.Common.{sym}
use native.Mathlib.Nat.{zero-add}
use Rattle.pits.proofs.Lines.{grown_none, grown_more, grown_in, lines_none, lines_more}
use Rattle.pits.proofs.lay_lines.Goals as goal

pub loop-j-init : goal.loop-j-init
loop-j-init c = record { next = sym (grown_none _ _ _); laid = sym (lines_none _ _ _ _ _) }

pub multiply-requires-clause-symbols_at : goal.multiply-requires-clause-symbols_at
multiply-requires-clause-symbols_at c =
    let pre = c.requires in (
      λ k h. rw zero-add (pre.factors k h),
      λ k h. rw (zero-add, c.loop-j.invariant.next) (grown_in _ _ _ c.args.field.now.degree_value pre.enough pre.symbols c.loop-j.j k h),
    )

pub loop-j-preserved : goal.loop-j-preserved
loop-j-preserved c =
    let turn = c.loop-j in
    record {
      next = grown_more _ _ _ turn.j turn.invariant.next c.multiply.ensures;
      laid = lines_more _ _ _ _ turn.j _ turn.invariant.next turn.invariant.laid c.store.ensures;
    }
