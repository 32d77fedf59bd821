-- The bits of a from the i-th on are taken.
use Rattle.std.proofs.Common.{◌≡◌, ◌-◌, ◌/◌, ◌^◌, ◌<◌}
use Rattle.field.specs.Symbols.{times_low}
use Rattle.field.proofs.bits.product.Given as goal

abbrev pub invariant-loop-i : goal.invariant-loop-i
invariant-loop-i l = (l.r ≡ times_low l.degree (l.degree - l.i) (l.a / 2 ^ l.i) l.b) × (l.r < 2 ^ l.degree)
