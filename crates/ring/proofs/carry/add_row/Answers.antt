-- A place of the ring holds what was lent until its turn.
use Rattle.std.proofs.Common.{◌≡◌, ◌+◌, ℕ, List, get_or, ap, sym, arith, ◌∙◌}
use mathlib.Core.Path.{ap₂}
use Rattle.patch.proofs.Laws.{patch_none, patch_front, get_or-patch_above}
use Rattle.field.specs.Symbols.{plus}
use Rattle.ring.specs.Working.{column_added}
use Rattle.ring.proofs.carry.add_row.Goals as goal

pub loop-i-init : goal.loop-i-init
loop-i-init c = sym (patch_none 0 _ _)

pub loop-i-preserved : goal.loop-i-preserved
unfolding plus column_added
loop-i-preserved c =
    let a = c.args in
    let turn = c.loop-i in
    let f = column_added a.q a.array.now a.at a.ring.now in
    let stood : get_or turn.ring turn.i 0 ≡ get_or a.ring.now turn.i 0 =
    ap (λ (l : List ℕ). get_or l turn.i 0) turn.invariant ∙ get_or-patch_above 0 f a.ring.now turn.i turn.i 0 (omega arith) in
    patch_front turn.i f a.ring.now turn.invariant
    (ap₂ plus stood (ap (λ (k : ℕ). get_or a.array.now (a.at + k) 0) c.sector_of.ensures))
