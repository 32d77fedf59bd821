-- The bits of the symbols passed and the rest of the list decide.
use Rattle.std.proofs.Common.{◌≡◌, drop}
use mathlib.Core.Bool.{◌||◌}
use Rattle.refusal.specs.Refusal.{outside_field, some_outside_field}
use Rattle.refusal.proofs.some_outside_field.Given as goal

abbrev pub invariant-loop-a : goal.invariant-loop-a
invariant-loop-a l =
    outside_field l.degree l.bits || some_outside_field l.degree (drop l.a-index l.s) ≡ some_outside_field l.degree l.s
