-- `text::put_changes` writes the changed symbols, one after the other.
use Rattle.std.proofs.Common.{◌≡◌, drop}
use Rattle.salvage.proofs.Lines.{Changed}
use Rattle.salvage.proofs.text.put_changes.Given as goal

abbrev pub invariant-loop-i : goal.invariant-loop-i
invariant-loop-i l =
    let at = l.i-iterator.count in
    Changed l.n l.old l.new l.fn.out l.at l.out l.end at × (l.i-iterator.iter.a.rest.now ≡ drop at l.old)
    × (l.i-iterator.iter.b.rest.now ≡ drop at l.new)
