-- The bytes that are left stand at the buffer's front, before those that are read.
use Rattle.std.proofs.Common.{rules, arith, ◌≡◌, ◌+◌, ◌-◌, length, subst}
use borrow.Rule.Slice.PartMut.{put_mid, post_of}
use Rattle.salvages.specs.Held.{Moved}
use Rattle.salvages.proofs.Moving.{moved}
use Rattle.salvages.proofs.refill.Goals as goal

pub returns-in_err-more-clause-kept : goal.returns-in_err-more-clause-kept
returns-in_err-more-clause-kept g c =
    let n = c.args.got - c.args.from in
    let mid = c.store-2.new.s in
    let room = length mid - n in
    let ys = c.read_full.new.buf in
    let none : n + 0 ≡ n = omega arith in
    let front : Moved c.args.held.now c.args.from c.args.got (put_mid n room mid ys) n =
    subst (Moved c.args.held.now c.args.from c.args.got (put_mid n room mid ys)) none
    (moved c.requires c.store.ensures c.store-2.ensures ys (post_of n room mid) 0 (omega arith)) in
    search rules

pub returns-clause-moved : goal.returns-clause-moved
returns-clause-moved g c =
    let n = c.args.got - c.args.from in
    let mid = c.store-2.new.s in
    moved c.requires c.store.ensures c.store-2.ensures c.read_full.new.buf (post_of n (length mid - n) mid) c.in_ok-more.more c.in_ok-more.ensures.count.0
