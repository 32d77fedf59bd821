-- `contents_refusal` gives the first of the checks 6, 23 and 7 that applies.
use Rattle.std.proofs.Common.{◌∙◌, ap}
use Rattle.refusal.specs.Numbers.{refused}
use Rattle.refusal.proofs.Numbers.{in_turn}
use Rattle.array_checks.proofs.contents_refusal.Goals as goal

pub returns : goal.returns
returns c = ap refused c.and.ensures
    ∙ in_turn _ _ _ _ tt c.known_refusal-of_columns.ensures c.symbols_refusal-of_symbols.ensures
