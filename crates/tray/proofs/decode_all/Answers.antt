-- `decode_all` fills the answers one mark after another.
use Rattle.std.proofs.Common.{◌≡◌, arith, refl}
use Rattle.refusal.specs.Refusal.{first}
use Rattle.codes.specs.Factors.{description_of}
use Rattle.joint.specs.Promises.{buffers}
use Rattle.tray.specs.Promises.{GivenTray, checks_tray, given_tray}
use Rattle.tray.proofs.Filled.{waits_first, told_first, lies, waits_next, told_next, filled}
use Rattle.tray.proofs.decode_all.Given.{Over}
use Rattle.tray.proofs.decode_all.Goals.{In_ok-open}
use Rattle.tray.proofs.decode_all.Goals as goal

-- where the tray is not refused
module _ (g : Over) (c : In_ok-open g) where
  abbrev tray : GivenTray g.row.A.Denot
  tray = let a = c.args in given_tray (description_of a.degree a.points.now a.factors.now a.lengths.now) a.limit a.received.now
      a.answers.now (buffers a.arrays.now a.flags.now) a.space.now

  none : 0 ≡ first (checks_tray tray)
  none = c.in_ok-open.ensures.0 c.args.received.now c.args.arrays.now c.args.flags.now refl refl refl

pub loop-k-init : goal.loop-k-init
loop-k-init g c =
    (waits_first (tray g c) (none g c) c.open.new.space c.in_ok-open.ensures.1, λ tell h. told_first (tray g c) tell)

pub decode_mark-requires : goal.decode_mark-requires
decode_mark-requires g c = let o = (goal.at.decode_mark-requires g c).In_ok-open in
    lies (tray g o) (none g o) c.loop-k.k (buffers c.loop-k.arrays c.loop-k.flags) c.loop-k.space c.loop-k.invariant.0 c.loop-k-test.true

pub loop-k-preserved : goal.loop-k-preserved
loop-k-preserved g c =
    let o = (goal.at.loop-k-preserved g c).In_ok-open in
    let l = c.loop-k in
    let b = buffers l.arrays l.flags in
    let m = c.decode_mark in
    let b' = buffers m.new.arrays m.new.flags in (
      waits_next (tray g o) (none g o) l.k b l.space l.invariant.0 c.loop-k-test.true m.result b' m.new.space m.ensures,
      λ tell h. told_next (tray g o) (none g o) l.k b l.space l.invariant.0 c.loop-k-test.true m.result b' m.new.space m.ensures
          tell l.answers (l.invariant.1 tell h) c.say.result (h m.result c.say.result c.say.ensures),
    )

pub returns : goal.returns
returns g c tell h = let o = (goal.at.returns g c).In_ok-open in
    filled (tray g o) (none g o) c.loop-k.k (buffers c.loop-k.arrays c.loop-k.flags) c.loop-k.space c.loop-k.invariant.0
    (λ more. omega (arith, c.loop-k-test.false)) tell c.loop-k.answers (c.loop-k.invariant.1 tell h)
