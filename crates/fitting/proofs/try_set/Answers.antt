-- `try_set` has the array that fits at the set, if there is one, laid in the room.
use Rattle.std.proofs.Common.{List, [], ◌∷◌, ℕ, ◌≤◌, length, sym, ◌∙◌, arith}
use mathlib.Core.Bool.{true≢false}
use lib.Seq.{length-take-le}
use Rattle.codes.specs.Factors.{Description, description_of, multiplied}
use Rattle.codes.proofs.Messages.{code_array}
use Rattle.factors.proofs.Rows.{striking}
use Rattle.ending.proofs.Model.{filled}
use Rattle.fitting.specs.Working.{PlainFit}
use Rattle.fitting.proofs.Tried.{one_turn, no_turn}
use Rattle.fitting.proofs.Placed.{placed_one, placed_none}
use Rattle.fitting.proofs.try_set.Goals.{Then-fits}
use Rattle.fitting.proofs.try_set.Goals as goal

-- where the array that is filled in fits
module _ (c : Then-fits) where
  abbrev D : Description
  D = description_of c.args.field.now.degree c.args.points.now c.args.factors.now c.args.lengths.now

  abbrev made : List ℕ
  made = filled D.code c.args.array.now c.args.set.now

  fitting : PlainFit D.code c.args.array.now c.args.set.now made
  fitting = c.fits.ensures.told.0 c.if-fits.true

pub keep-requires : goal.keep-requires
keep-requires c =
    let t = (goal.at.keep-requires c).Then-fits in
    let q = c.requires.quotient in
    let n = length c.args.array.now in
    let cells : n ≤ 384 = omega (arith, q.received.count, q.checked.counts.cells) in
    record {
      striking = striking {D = D t} q.checked.counts q.factors
          (rw c.fits.ensures.front (code_array q.checked.proper (fitting t).code));
      cells = omega (arith, length-take-le n c.fits.new.own (omega (arith, cells, c.fits.ensures.long)), cells);
      before = omega (arith, c.requires.before);
    }

pub returns-then-fits : goal.returns-then-fits
returns-then-fits c =
    let t = (goal.at.returns-then-fits c).Then-fits in
    let p = c.requires in record {
      arrays = multiplied (D t) (made t) ∷ [];
      turns = one_turn p.quotient p.set p.room (fitting t);
      total = omega arith;
      left = rw c.fits.ensures.front at c.keep.ensures ∙ sym (placed_one c.args.count (multiplied (D t) (made t)) c.args.room.now);
    }

pub returns : goal.returns
returns c = let p = c.requires in record {
  arrays = [];
  turns = no_turn p.quotient p.set p.room (λ h. true≢false (sym (c.fits.ensures.told.1 h) ∙ c.if-fits.false));
  total = omega arith;
  left = sym (placed_none c.args.count c.args.room.now);
}
