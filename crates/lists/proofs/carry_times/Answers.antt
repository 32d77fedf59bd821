-- `carry_times` adds a constant times the symbol behind each, combined from its doublings.
use Rattle.std.proofs.Common.{◌+◌, get_or, rules}
use Rattle.field.specs.Symbols.{plus}
use Rattle.lists.specs.Working.Lists.{carried}
use Rattle.lists.proofs.Combined.{short, products}
use Rattle.lists.proofs.carry_times.Goals as goal

pub carry_combined-requires-clause-short : goal.carry_combined-requires-clause-short
carry_combined-requires-clause-short c = short _ _ c.args.field.now.degree_value c.doublings-r.ensures

pub returns : goal.returns
unfolding carried
returns c =
    let a = c.args in
    let l = a.s.now in
    products a.field.now.degree a.c c.doublings-r.ensures (λ k v. plus (get_or l (a.at + k) 0) v) (λ k. get_or l (a.at + (k + 1)) 0)
    (λ k. search rules) a.at a.n l c.carry_combined.ensures
