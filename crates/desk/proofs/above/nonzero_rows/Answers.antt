-- `nonzero_rows` counts the rows that are not all zero, one after the other.
use Rattle.std.proofs.Common.{◌≡◌, ◌↔◌, ◌+◌, ◌*◌, ℕ, List, ap, subst, sym, true, ◌∙◌}
use native.Mathlib.Nat.{add-zero}
use Rattle.patch.specs.Parts.{part}
use Rattle.poly.specs.Poly.{All}
use Rattle.desk.specs.Desk.{nonzero_rows}
use Rattle.desk.proofs.Raising.{row_part, flag_none, flag_some, counts-again, counts_end}
use Rattle.desk.proofs.above.nonzero_rows.Goals.{then-not-all_zero, else-not-all_zero}
use Rattle.desk.proofs.above.nonzero_rows.Goals as goal

pub loop-l-preserved : goal.loop-l-preserved
loop-l-preserved c =
    let turn = c.loop-l in
    let looked : List ℕ = part (turn.l * c.args.n) c.args.n c.args.above.now in
    let said : (c.all_zero.result ≡ true) ↔ All (λ (a : ℕ). a ≡ 0) looked =
    subst (λ (t : List ℕ). (c.all_zero.result ≡ true) ↔ All (λ (a : ℕ). a ≡ 0) t) (row_part c.args.n turn.l c.args.above.now)
    c.all_zero.ensures in
    counts-again turn.invariant c.loop-l-test.true (elim c.if-not-all_zero.branch [
      | then-not-all_zero w ↦ w.count-is ∙ ap (◌+◌ turn.count) (sym (flag_some looked said w.if-not-all_zero.true))
      | else-not-all_zero w ↦ w.count-is ∙ sym (ap (◌+◌ turn.count) (flag_none looked said w.if-not-all_zero.false) ∙ add-zero _)
    ])

pub returns : goal.returns
unfolding nonzero_rows
returns c = counts_end c.loop-l.invariant c.loop-l-test.false
