-- `choose` tries the sets that go on with the next column, and then those that do not.
use Rattle.std.proofs.Common.{◌<◌, List, ℕ, arith, length, subst}
use Rattle.codes.specs.Factors.{description_of}
use Rattle.fitting.specs.Working.{Turned}
use Rattle.fitting.proofs.Placed.{turned_few}
use Rattle.fitting.proofs.Chosen.{set_here, last_turn, no_column, with_next, without_next, both_turns}
use Rattle.fitting.proofs.+choose.Goals.{Else-next-n}
use Rattle.fitting.proofs.+choose.Goals as goal

-- a column is left
inside : {t : ℕ} (c : Else-next-n t) → c.args.next < length c.args.points.now
inside c = omega (arith, c.requires.next, c.if-next-n.false)

pub try_set-requires : goal.try_set-requires
try_set-requires t c = set_here c.requires c.if-more-eq0.true

pub returns-then-more-eq0 : goal.returns-then-more-eq0
returns-then-more-eq0 t c =
    let a = c.args in
    subst
    (λ (l : List (List ℕ)). Turned (description_of a.field.now.degree a.points.now a.factors.now a.lengths.now) a.array.now l a.count a.room.now
    c.try_set.result c.try_set.new.room)
    (last_turn c.requires c.if-more-eq0.true) c.try_set.ensures

pub returns-then-next-n : goal.returns-then-next-n
returns-then-next-n t c = no_column c.requires c.if-more-eq0.false c.if-next-n.true c.args.room.now

pub choose-found-requires : goal.choose-found-requires
choose-found-requires t c = let i = inside (goal.at.choose-found-requires t c).Else-next-n in
    (omega (arith, c.decreases, i), with_next c.requires c.if-more-eq0.false i)

pub choose-requires : goal.choose-requires
choose-requires t c = let i = inside (goal.at.choose-requires t c).Else-next-n in
    (omega (arith, c.decreases, i), without_next c.requires c.if-more-eq0.false i (turned_few c.choose-found.ensures))

pub returns : goal.returns
returns t c = both_turns c.requires c.if-more-eq0.false (inside (goal.at.returns t c).Else-next-n) c.choose-found.ensures c.choose.ensures
