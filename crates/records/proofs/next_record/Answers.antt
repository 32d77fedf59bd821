-- What is read goes behind the bytes that are held.
use Rattle.std.proofs.Common.{rules, arith, ◌≡◌, ◌+◌, ◌-◌, take, sym, ap, ◌∙◌, subst}
use Rattle.std.specs.Io.KnownBytes.{Consumes}
use Rattle.std.proofs.KnownBytes.{Consumes-trans}
use borrow.Rule.Slice.PartMut.{put_mid, post_of}
use Rattle.reading.proofs.Placed.{front_then}
use Rattle.records.proofs.Reading.{read_on}
use Rattle.records.proofs.next_record.Goals as goal

pub returns-then-more-want-clause-held : goal.returns-then-more-want-clause-held
returns-then-more-want-clause-held g c =
    let t = c.loop-got in
    let want = c.wanted-want.ensures in
    let more = c.in_ok-more.ensures.count.0 in
    record {
      most = omega (arith, want.most, c.if-more-want.true);
      no_more = read_on t.held c.read_full.new.buf (post_of t.got (c.wanted-want.result - t.got) t.held) t.got (t.got + c.in_ok-more.more)
          (omega arith) (omega arith) (omega (arith, want.is, c.if-more-want.true)) (omega (arith, more));
    }

pub returns-then-more-want-clause-bytes : goal.returns-then-more-want-clause-bytes
returns-then-more-want-clause-bytes g c =
    let t = c.loop-got in
    let more = c.in_ok-more.ensures.count.0 in
    subst (Consumes _ _)
    (sym (front_then t.held c.read_full.new.buf (post_of t.got (c.wanted-want.result - t.got) t.held) t.got c.in_ok-more.more (omega arith) more))
    (Consumes-trans _ _ _ _ _ t.invariant.2 c.in_ok-more.ensures.bytes)

pub loop-got-preserved : goal.loop-got-preserved
loop-got-preserved g c =
    let t = c.loop-got in
    let want = c.wanted-want.ensures in
    let more = c.in_ok-more.ensures.count.0 in
    let end = c.wanted-want.result in
    let left = put_mid t.got (end - t.got) t.held c.read_full.new.buf in
    let whole : t.got + c.in_ok-more.more ≡ end = omega (arith, more, c.if-more-want.false, c.if-want-got.false) in (
      search rules,
      record {
        most = want.most;
        no_more = read_on t.held c.read_full.new.buf (post_of t.got (end - t.got) t.held) t.got end (omega arith)
            (omega (arith, c.if-want-got.false)) (omega (arith, want.is)) (omega arith);
      },
      subst (Consumes _ _)
          (sym (front_then t.held c.read_full.new.buf (post_of t.got (end - t.got) t.held) t.got c.in_ok-more.more (omega arith) more)
          ∙ ap (λ n. take n left) whole)
          (Consumes-trans _ _ _ _ _ t.invariant.2 c.in_ok-more.ensures.bytes),
    )
