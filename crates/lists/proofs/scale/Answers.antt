-- `scale` takes a constant times the symbols of a part, combined from its doublings.
use Rattle.std.proofs.Common.{◌+◌, get_or, rules}
use Rattle.lists.specs.Working.Lists.{scaled}
use Rattle.lists.proofs.Combined.{short, products}
use Rattle.lists.proofs.scale.Goals as goal

pub combine_all-requires-clause-short : goal.combine_all-requires-clause-short
combine_all-requires-clause-short c = short _ _ c.args.field.now.degree_value c.doublings-r.ensures

pub returns : goal.returns
unfolding scaled
returns c =
    let a = c.args in
    let l = a.s.now in
    products a.field.now.degree a.c c.doublings-r.ensures (λ k v. v) (λ k. get_or l (a.at + k) 0) (λ k. search rules) a.at a.n l
    c.combine_all.ensures
