-- When every symbol is flagged, the flags are those of the two rings, and their count is their sum.
use Rattle.std.proofs.Common.{◌≡◌, ◌+◌, length, sym, refl, arith, ◌∙◌}
use Rattle.patch.proofs.Laws.{patch_none, patch_front}
use Rattle.codes.specs.Code.{flag, flags_from, total}
use Rattle.hermitian.specs.Pits.{wrong_at}
use Rattle.scattered.proofs.Flagged.{all_flagged, count_more, count_most, flag_byte}
use Rattle.scattered.proofs.flag_wrong.Goals as goal

pub loop-i-init : goal.loop-i-init
unfolding total flags_from
loop-i-init c = record { most = omega arith; counted = refl; written = sym (patch_none 0 _ _) }

pub loop-i-preserved : goal.loop-i-preserved
loop-i-preserved c =
    let turn = c.loop-i in
    let f = wrong_at c.args.v.now c.args.w.now in
    let counted : turn.count + c.from-count.result ≡ total (flags_from f 0 (turn.i + 1)) =
    omega (arith, count_more f turn.i, flag_byte (f turn.i)) in
    record {
      most = omega (arith, count_most f 0 (turn.i + 1));
      counted = counted;
      written = patch_front turn.i (λ k. flag (f k)) _ turn.invariant.written (c.from.ensures ∙ flag_byte (f turn.i));
    }

pub returns : goal.returns
returns c =
    let f = wrong_at c.args.v.now c.args.w.now in
    let end : c.loop-i.i ≡ length c.args.v.now = omega arith in
    let written = all_flagged f _ c.args.flags.now (rw end at c.loop-i.invariant.written) c.requires.1 in
    (written, c.loop-i.invariant.counted ∙ rw (end, ← written) refl)
