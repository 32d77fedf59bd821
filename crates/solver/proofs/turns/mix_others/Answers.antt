-- `mix_others` copies the pivot, and changes the lines by the copy and zeros behind it.
use Rattle.std.proofs.Common.{arith}
use Rattle.patch.proofs.Parts.{length_part}
use Rattle.solver.specs.Working.Slots.{slots}
use Rattle.solver.proofs.Slots.{slots_length}
use Rattle.solver.proofs.Mixing.{each_mixed}
use Rattle.solver.proofs.turns.mix_others.Goals as goal

pub returns : goal.returns
returns c =
    let a = c.args in
    let (line, lines, values, nonzero) = c.requires.p_lt_lines in
    let (within, space, room) = c.requires.n_bound in
    let made = c.copy_line.ensures in
    let whole = c.whole-m.ensures in
    let size = length_part a.at a.n (slots a.p a.space.now) (omega (arith, within, slots_length a.p a.space.now (omega (arith, space, line)))) in (
      each_mixed _ a.field.now.degree_value _ _ made _ (omega (arith, whole, size)) (omega (arith, whole, size))
          (omega (arith, whole, room, c.copy_line.auto)) _ _ _ _ _ _ c.mix_lines.ensures,
      made,
    )
