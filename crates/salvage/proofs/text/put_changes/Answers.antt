-- `text::put_changes` writes the changed symbols, one after the other.
use Rattle.std.proofs.Common.{inl, inr, rules, arith}
use Rattle.salvage.proofs.Lines.{changed_begin, changed_same, changed_put, changed_end, next_symbol, all_read}
use Rattle.salvage.proofs.text.put_changes.Goals as goal

pub loop-i-init : goal.loop-i-init
loop-i-init c =
    let begun = changed_begin c.requires.symbols in
    (rw (c.into_iter-i-iterator.ensures.into_iter_gives, c.enumerate-i-items.ensures.count) begun, search rules, search rules)

pub loop-i-preserved-then-a-b : goal.loop-i-preserved-then-a-b
loop-i-preserved-then-a-b c =
    let own = c.loop-i in
    let step = c.in-Some.ensures.steps in
    let a = next_symbol c.args.old.now own.i-iterator.count own.invariant.1 step.0.0 in
    let b = next_symbol c.args.new.now own.i-iterator.count own.invariant.2 step.0.1 in
    rw step.2 (
      changed_put c.requires.symbols own.invariant.0 a.0 (rw (a.1, b.1) c.if-a-b.true) c.requires.at_in_bounds
          (rw (a.1, b.1, ← step.1) c.put_change-end.ensures),
      a.2,
      b.2,
    )

pub loop-i-preserved : goal.loop-i-preserved
loop-i-preserved c =
    let own = c.loop-i in
    let step = c.in-Some.ensures.steps in
    let a = next_symbol c.args.old.now own.i-iterator.count own.invariant.1 step.0.0 in
    let b = next_symbol c.args.new.now own.i-iterator.count own.invariant.2 step.0.1 in
    rw step.2 (changed_same c.requires.symbols own.invariant.0 a.0 (rw (a.1, b.1) c.if-a-b.false), a.2, b.2)

pub returns : goal.returns
returns c =
    let own = c.loop-i in
    changed_end c.requires.symbols own.invariant.0 (elim c.in-None.ensures.steps.0 [
      | inl w ↦ all_read c.args.old.now own.i-iterator.count own.invariant.1 w.1.0
      | inr w ↦ omega (arith, all_read c.args.new.now own.i-iterator.count own.invariant.2 w.1.0, c.requires.symbols.same)
    ])
