-- `bad_factors` answers its test: factors of one pass.
use Rattle.std.proofs.Common.{sym}
use Rattle.field.proofs.Instance.{field}
use Rattle.codes.proofs.Factors.{ones_pass}
use Rattle.array_checks.proofs.bad_factors.Goals as goal

pub returns-then-ones : goal.returns-then-ones
returns-then-ones c = let d = c.args.degree in
    sym (ones_pass d (field d c.requires.degree_value) c.args.factors.now (c.requires.all c.if-ones.true))
