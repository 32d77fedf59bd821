-- The symbols so far are flagged and counted.
use Rattle.std.proofs.Common.{◌≡◌, ◌≤◌}
use Rattle.patch.specs.Patch.{patch}
use Rattle.codes.specs.Code.{flag, flags_from, total}
use Rattle.hermitian.specs.Pits.{wrong_at}
use Rattle.scattered.proofs.flag_wrong.Given as goal

abbrev pub invariant-loop-i : goal.invariant-loop-i
invariant-loop-i l = record {
  most : l.count ≤ l.i;
  counted : l.count ≡ total (flags_from (wrong_at l.v l.w) 0 l.i);
  written : l.flags ≡ patch 0 l.i (λ k. flag (wrong_at l.v l.w k)) l.initial.flags;
}
