-- A read that gave bytes puts them behind those that are there, and an interrupted one leaves them.
use Rattle.std.proofs.Common.{rules, ◌-◌, length, take, sym, ap, ◌∙◌, subst, le_refl}
use Rattle.std.proofs.lemmas.Slice.{take-put_mid_below}
use Rattle.std.specs.Io.KnownBytes.{Consumes}
use Rattle.std.proofs.KnownBytes.{Consumes-trans, Consumes-kept}
use borrow.Rule.Slice.PartMut.{put_mid, post_of}
use Rattle.reading.proofs.Placed.{front_then}
use Rattle.reading.proofs.read_full.Goals as goal
use Rattle.reading.proofs.read_full.Goals.{in-Ok, in-Err}

pub loop-preserved : goal.loop-preserved
loop-preserved g c =
    let from = c.loop.done in
    let buf = c.loop.buf in
    let room = length buf - from in
    let got = c.read.new.buf in
    let left = put_mid from room buf got in
    let within = c.loop.invariant.1 in
    let before = c.loop.invariant.2 in
    elim c.match-read.branch [
      | in-Ok w ↦ (
        search rules,
        search rules,
        subst (Consumes _ _)
            (sym (ap (λ n. take n left) w.done-is ∙ front_then buf got (post_of from room buf) from w.in-Ok.n within w.in-Ok.ensures.bound.0))
            (Consumes-trans _ _ _ _ _ before w.in-Ok.ensures.bytes.0),
      )
      | in-Err w ↦ (
        search rules,
        search rules,
        subst (Consumes _ _)
            (sym (ap (λ n. take n left) w.done-is ∙ take-put_mid_below _ _ _ _ _ (le_refl _) within))
            (Consumes-kept _ _ _ _ before w.in-Err.ensures.bytes),
      )
    ]
