-- `size` is the number of symbols.
use Rattle.std.proofs.Common.{arith}
use native.Mathlib.Nat.{one-mul, mod-eq_of_lt}
use Rattle.refusal.proofs.Laws.{up_to_eight, field_size}
use Rattle.field.proofs.Field.size.Goals as goal

pub overflow_shl-result : goal.overflow_shl-result
overflow_shl-result c = omega (arith, up_to_eight c.args.degree c.requires)

pub returns : goal.returns
returns c = rw one-mul (mod-eq_of_lt (omega (arith, field_size c.args.degree c.requires)))
