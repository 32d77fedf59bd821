-- `keep` lays the array behind the others if there is room for it.
use Rattle.std.proofs.Common.{List, ℕ, sym, ap, ◌∙◌, arith}
use Rattle.fitting.specs.Working.{kept}
use Rattle.fitting.proofs.Placed.{kept_in, kept_out}
use Rattle.fitting.proofs.keep.Goals as goal

pub returns-then-at-array : goal.returns-then-at-array
returns-then-at-array c = let a = c.args in
    c.store.ensures
    ∙ sym (kept_in a.count c.multiply.new.array a.room.now c.if-at-array.true)
    ∙ ap (λ (v : List ℕ). kept a.count v a.room.now) c.multiply.ensures

pub returns-else-at-array : goal.returns-else-at-array
returns-else-at-array c = let a = c.args in
    sym (kept_out a.count c.multiply.new.array a.room.now (λ h. omega (arith, c.if-at-array.false)))
    ∙ ap (λ (v : List ℕ). kept a.count v a.room.now) c.multiply.ensures
