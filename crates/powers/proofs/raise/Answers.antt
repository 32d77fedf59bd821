-- `raise` writes a power after the other, each the one before times the row.
use Rattle.std.proofs.Common.{ℕ, replicate, zero-add, arith}
use Rattle.std.proofs.lemmas.List.{length-replicate}
use Rattle.field.specs.Symbols.{IsSymbol}
use Rattle.codes.proofs.Parts.{all-at}
use Rattle.powers.proofs.Raising.{raised-first, power_symbols, raised_next, raised_all}
use Rattle.powers.proofs.raise.Goals as goal

pub loop-init : goal.loop-init
loop-init c = raised-first c.args.field.now.degree_value c.requires (replicate 96 0) (length-replicate {A = ℕ} 96 0) c.store.ensures

pub multiply-requires-clause-symbols_at : goal.multiply-requires-clause-symbols_at
multiply-requires-clause-symbols_at c =
    let p = c.requires in (
      λ k h. rw (zero-add k) (all-at (IsSymbol c.args.field.now.degree) c.args.row.now k 0 h p.symbols),
      power_symbols c.args.field.now.degree_value p c.loop.invariant,
    )

pub loop-preserved : goal.loop-preserved
loop-preserved c =
    raised_next c.args.field.now.degree_value c.requires c.loop.invariant c.loop-test.true c.store-in-loop.ensures c.multiply.ensures

pub returns : goal.returns
returns c = raised_all c.loop.invariant (λ q. omega (arith, c.loop-test.false))
