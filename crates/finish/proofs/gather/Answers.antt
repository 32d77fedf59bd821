-- `gather` takes one column after the other.
use Rattle.std.proofs.Common.{◌≡◌, ◌≤◌, ◌<◌, ◌+◌, ◌∙◌, ℕ, sym, ap, refl, arith, length, drop, get_or, set}
use Rattle.std.proofs.lemmas.List.{length_push}
use Rattle.std.proofs.lemmas.Slice.Zip.{zip_turn, zip_end}
use Rattle.patch.proofs.Parts.{lay_none}
use Rattle.codes.specs.Lost.{right}
use Rattle.finish.proofs.Marks.{right-most, right_none, gathered_in, gathered_out}
use Rattle.finish.proofs.gather.Goals.{In-Some}
use Rattle.finish.proofs.gather.Goals as goal

-- the column of a turn, its flag and its entry
module _ (c : In-Some) where
  abbrev i : ℕ
  i = length c.loop-flag.yielded

  turn : (i < length c.args.flags.now) × (get_or c.args.flags.now i 0 ≡ c.in-Some.flag.now)
      × (c.in-Some.entry.now ≡ get_or c.args.row.now i 0)
  turn =
      let t = zip_turn c.args.flags.now c.args.row.now c.loop-flag.yielded
      c.into_iter-flag-iterator.result c.loop-flag.flag-iterator c.next.new.self _ (cc) (cc) c.loop-flag.yielded_by _ c.in-Some.is
      c.next.ensures.steps in
      (t.0, sym (t.2 0), t.3 0)

  fits : c.loop-flag.j + length (right (drop i c.args.flags.now) (drop i c.args.row.now)) ≤ length c.loop-flag.s
  fits = omega (arith, right-most c.args.flags.now c.args.row.now)

pub loop-flag-preserved-then-flag-eq0 : goal.loop-flag-preserved-then-flag-eq0
loop-flag-preserved-then-flag-eq0 c =
    let s = (goal.at.loop-flag-preserved-then-flag-eq0 c).In-Some in
    let l = c.loop-flag in
    let (more, flag, entry) = turn s in
    let one = gathered_in c.args.flags.now c.args.row.now (i s) more c.requires.0 l.s l.j (fits s) (flag ∙ c.if-flag-eq0.true)
    (ap (set l.s l.j) entry) refl in
    rw length_push (omega (arith, one.small), one.counted ∙ l.invariant.1, one.laid ∙ l.invariant.2)

pub loop-flag-preserved : goal.loop-flag-preserved
loop-flag-preserved c =
    let s = (goal.at.loop-flag-preserved c).In-Some in
    let l = c.loop-flag in
    let (more, flag, entry) = turn s in
    let one = gathered_out c.args.flags.now c.args.row.now (i s) more c.requires.0 l.s l.j (fits s) (λ e. c.if-flag-eq0.false (sym flag ∙ e))
    refl refl in
    rw length_push (omega (arith, one.small), one.counted ∙ l.invariant.1, one.laid ∙ l.invariant.2)

pub returns : goal.returns
returns c =
    let l = c.loop-flag in
    let all = zip_end c.args.flags.now c.args.row.now l.yielded
    c.into_iter-flag-iterator.result c.loop-flag.flag-iterator c.next.new.self _ (cc) (cc) l.yielded_by c.in-None.is c.next.ensures.steps in
    let none = right_none c.args.flags.now c.args.row.now (length l.yielded) (omega arith) in
    (omega (arith, ap length none, l.invariant.1), sym (lay_none l.j l.s) ∙ rw none at l.invariant.2)
