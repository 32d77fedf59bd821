-- `all_ones` tells whether all factors are one.
use Rattle.std.proofs.Common.{◌≡◌, ◌↔◌, ◌+◌, ℕ, add-one, ap, arith, drop, drop-cons, eq-eqb, eqb-true, get_or, refl, sym, ◌∙◌}
use lib.Bits.{bit_or, bit_xor, or_add_and, and_le_l, and_le_r}
use Rattle.std.proofs.lemmas.List.{drop_all}
use Rattle.field.specs.Symbols.{plus}
use Rattle.field.proofs.Sums.{plus_assoc, plus_self, plus-zero, plus_comm}
use Rattle.poly.specs.Poly.{All}
use Rattle.array_checks.proofs.all_ones.Goals as goal

xor_one : (f : ℕ) → (bit_xor f 1 ≡ 0) ↔ (f ≡ 1)
unfolding plus
xor_one f = (
  λ e. sym (plus-zero f) ∙ ap (plus f) (sym (plus_self 1)) ∙ sym (plus_assoc f 1 1) ∙ ap (λ (x : ℕ). plus x 1) e ∙ plus_comm 0 1
      ∙ plus-zero 1,
  λ e. ap (λ (x : ℕ). plus x 1) e ∙ plus_self 1,
)

or-none : (a b : ℕ) → (bit_or a b ≡ 0) ↔ ((a ≡ 0) × (b ≡ 0))
or-none a b = (
  λ e. (omega (arith, or_add_and a b, and_le_r a b), omega (arith, or_add_and a b, and_le_l a b)),
  λ (p, q). omega (arith, or_add_and a b),
)

pub loop-f-init : goal.loop-f-init
loop-f-init c = (λ z. z.1, λ z. (refl, z))

pub loop-f-preserved : goal.loop-f-preserved
loop-f-preserved c =
    let turn = c.loop-f in
    let s = c.args.factors.now in
    let f = get_or s turn.f-index 0 in
    let cut : All (λ (f : ℕ). f ≡ 1) (drop turn.f-index s) ↔ ((f ≡ 1) × All (λ (f : ℕ). f ≡ 1) (drop (turn.f-index + 1) s)) =
    rw (add-one, drop-cons s turn.f-index 0 (omega arith)) (λ z. z, λ z. z) in
    let bits = or-none turn.bits (bit_xor f 1) in (
      λ (z, rest). turn.invariant.0 ((bits.0 z).0, cut.1 ((xor_one f).0 (bits.0 z).1, rest)),
      λ h. let (z, rest) = turn.invariant.1 h in (bits.1 (z, (xor_one f).1 (cut.0 rest).0), (cut.0 rest).1),
    )

pub returns : goal.returns
returns c =
    let turn = c.loop-f in
    let none : All (λ (f : ℕ). f ≡ 1) (drop turn.f-index c.args.factors.now) =
    rw (drop_all _ c.args.factors.now c.loop-f-test.false) tt in
    (λ e. turn.invariant.0 (eqb-true turn.bits 0 e, none), λ h. eq-eqb turn.bits 0 (turn.invariant.1 h).0)
