-- `divide` multiplies all rows of an array by the inverses of the factors, unless all factors are one.
use Rattle.std.proofs.Common.{◌≡◌, ℕ, ◌≤◌, List, length, take, refl, sym, ap, ◌∙◌, arith}
use Rattle.patch.specs.Parts.{part}
use Rattle.patch.proofs.Parts.{part-lay, take-lay}
use Rattle.field.proofs.Instance.{field}
use Rattle.factors.specs.Working.{inverses}
use Rattle.factors.proofs.Rows.{ones_divide, multiplying, multiplied_front, length-inverses, inverses_in, by_inverses}
use Rattle.factors.proofs.divide.Goals.{After-store, After-inverses}
use Rattle.factors.proofs.divide.Goals as goal

-- where the array is at the front of s
module _ (c : After-store) where
  abbrev a : List ℕ
  a = c.args.array.now

  room : length a ≤ length c.store.new.s
  room = omega (arith, c.store.auto.s, c.requires.array_in_bounds)

  front : part 0 (length a) c.store.new.s ≡ a
  front = ap (part 0 (length a)) c.store.ensures ∙ part-lay 0 a c.args.s.now (omega (arith, c.requires.array_in_bounds))

pub returns-then-all_ones : goal.returns-then-all_ones
returns-then-all_ones c =
    take-lay c.args.array.now c.args.s.now c.store.ensures refl c.requires.array_in_bounds
    ∙ sym (ones_divide c.requires.striking (c.all_ones.ensures.0 c.if-all_ones.true))

-- where the factors are inverted
module _ (c : After-inverses) where
  abbrev fs : List ℕ
  fs = c.args.factors.now

  abbrev w : List ℕ
  w = take (length fs) c.inverses.new.w

  inverted : w ≡ inverses c.args.degree fs
  inverted = take-lay (inverses c.args.degree fs) _ (rw c.new-field.ensures at c.inverses.ensures) (length-inverses c.args.degree fs)
      c.requires.striking.most

  same : length w ≡ length fs
  same = ap length inverted ∙ length-inverses c.args.degree fs

-- the inverses stand where the rows are multiplied
pub multiply_rows-requires : goal.multiply_rows-requires
multiply_rows-requires c =
    let i = (goal.at.multiply_rows-requires c).After-inverses in
    let d = c.args.degree in
    rw c.new-field.ensures (multiplying c.requires.striking (w i) c.store.new.s (same i) (room (goal.at.multiply_rows-requires c).After-store)
    (front (goal.at.multiply_rows-requires c).After-store)
    (rw (inverted i) (inverses_in d (field d c.requires.striking.degree) (fs i))))

pub returns : goal.returns
returns c =
    let i = (goal.at.returns c).After-inverses in
    let s = (goal.at.returns c).After-store in
    let d = c.args.degree in
    let h = c.requires.striking in
    multiplied_front h (w i) c.store.new.s (same i) (room s) (front s) (rw c.new-field.ensures at c.multiply_rows.ensures)
    ∙ rw (inverted i) (by_inverses d (field d h.degree) (fs i) c.args.r (a s) h.factors h.symbols)
