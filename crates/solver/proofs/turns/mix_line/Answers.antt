-- `mix_line` changes the slots of its line, if need be.
use Rattle.std.proofs.Common.{◌∙◌}
use Rattle.field.proofs.Instance.{field}
use Rattle.solver.proofs.Slots.{only_none}
use Rattle.solver.proofs.Factors.{factor_over}
use Rattle.solver.proofs.Mixing.{mixed_pivot, mixed-zero, mixed_only}
use Rattle.solver.proofs.turns.mix_line.Goals as goal

pub returns-then-j-p : goal.returns-then-j-p
returns-then-j-p c = only_none _ _ _ (mixed_pivot _ _ _ _ _ _ _ c.if-j-p.true)

pub returns-then-ds-j-eq0 : goal.returns-then-ds-j-eq0
returns-then-ds-j-eq0 c = only_none _ _ _ (mixed-zero _ _ _ _ _ _ _ c.if-ds-j-eq0.true)

pub add_times-requires-clause-c_bound : goal.add_times-requires-clause-c_bound
add_times-requires-clause-c_bound c =
    rw (c.requires.factors c.args.j c.requires.p_bound.1) ((field _ c.args.field.now.degree_value).times_in _ _)

pub returns : goal.returns
returns c =
    let (few, line, left, right, nonzero) = c.requires.p_bound in
    let (within, fits) = c.requires.w_bound in
    mixed_only _ _ _ _ _ _ _ c.if-j-p.false c.if-ds-j-eq0.false within fits
    (c.requires.factors c.args.j line ∙ factor_over _ c.args.field.now.degree_value left right nonzero) c.add_times.ensures
