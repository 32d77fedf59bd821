-- `add_times` adds a constant times the symbols of a list, combined from its doublings.
use Rattle.std.proofs.Common.{◌+◌, length, get_or}
use Rattle.field.specs.Symbols.{plus}
use Rattle.lists.specs.Working.Lists.{added}
use Rattle.lists.proofs.Combined.{short, products}
use Rattle.lists.proofs.add_times.Goals as goal

pub add_combined-requires-clause-short : goal.add_combined-requires-clause-short
add_combined-requires-clause-short c = short _ _ c.args.field.now.degree_value c.doublings-r.ensures

pub returns : goal.returns
unfolding added
returns c =
    let a = c.args in
    products a.field.now.degree a.c c.doublings-r.ensures (λ k v. plus (get_or a.s.now (a.at + k) 0) v) (λ k. get_or a.w.now k 0)
    (λ k. (c.type_inv.w k).fits) a.at (length a.w.now) a.s.now c.add_combined.ensures
