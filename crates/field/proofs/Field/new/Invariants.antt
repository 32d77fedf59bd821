-- The powers so far and their inverses stand in the table, each at the place of the other.
use Rattle.std.proofs.Common.{◌≡◌, length}
use Rattle.field.proofs.Inverting.{Paired, Inverted}
use Rattle.field.proofs.Field.new.Given as goal

abbrev pub invariant-loop : goal.invariant-loop
invariant-loop l = (length l.inverses ≡ 256) × Paired l.degree l.counter l.power l.inverse × Inverted l.degree l.counter l.inverses
