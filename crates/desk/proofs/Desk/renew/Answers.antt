-- `Desk::renew` raises the coefficients by what the column changes, and counts the rows in which some are nonzero.
use Rattle.std.proofs.Common.{ℕ, ◌*◌, refl, sym, take, ◌∙◌, arith}
use mathlib.Core.Path.{ap₂, subst}
use lib.ListN.{length-take}
use Rattle.field.specs.Arithmetic.{gf}
use Rattle.poly.specs.Poly.{Poly}
use Rattle.codes.proofs.Proper.{Within}
use Rattle.desk.specs.Desk.{desk_code}
use Rattle.desk.proofs.Sound.{sound}
use Rattle.desk.proofs.Coefficients.{basis_polynomial, basis_unit}
use Rattle.desk.proofs.Known.{factor_at, above_size, known_placed, known}
use Rattle.desk.proofs.Desk.renew.Goals.{After-basis-basis}
use Rattle.desk.proofs.Desk.renew.Goals as goal

pub new-field-requires : goal.new-field-requires
new-field-requires c = (sound c.requires.made).frame.degree

pub slice_bounds-points-end : goal.slice_bounds-points-end
slice_bounds-points-end c = let f = (sound c.requires.made).frame in omega (arith, f.points_size, f.most_columns)

pub slice_bounds-basis-end : goal.slice_bounds-basis-end
slice_bounds-basis-end c = sym (sound c.requires.made).frame.column-count

pub basis-basis-requires : goal.basis-basis-requires
basis-basis-requires c =
    let f = (sound c.requires.made).frame in
    rw c.new-field.ensures (record {
      points = record { symbols = f.proper.symbols; distinct = f.proper.distinct };
      few = omega (arith, f.column-count, f.most_columns);
      column = omega (arith, f.column-count, c.requires.can.column);
    })

-- where the column's polynomial is known
polynomial : (c : After-basis-basis) → Poly (gf c.args.self.degree) c.args.self.columns (take c.args.self.columns c.basis-basis.result)
polynomial c = basis_polynomial (sound c.requires.made).frame.column-count (rw c.new-field.ensures at c.basis-basis.ensures)

pub slice_bounds-basis-end-2 : goal.slice_bounds-basis-end-2
slice_bounds-basis-end-2 c =
    let n = c.args.self.columns in
    omega (arith, (polynomial (goal.at.slice_bounds-basis-end-2 c).After-basis-basis).count, length-take n c.basis-basis.result)

pub slice_bounds-raise-end-2 : goal.slice_bounds-raise-end-2
slice_bounds-raise-end-2 c = sym (polynomial (goal.at.slice_bounds-raise-end-2 c).After-basis-basis).count

pub bounds-factors-column : goal.bounds-factors-column
bounds-factors-column c =
    let f = (sound c.requires.made).frame in
    omega (arith, f.factors_size, f.most_columns, c.requires.can.column)

pub raise-requires : goal.raise-requires
raise-requires c =
    let h = sound c.requires.made in
    let f = h.frame in
    let can = c.requires.can in
    let count = (polynomial (goal.at.raise-requires c).After-basis-basis).count in
    rw c.new-field.ensures (record {
      lengths = subst (λ (m : ℕ). Within 1 m (desk_code c.args.self).lengths) (f.column-count ∙ sym count) f.proper.lengths;
      column = omega (arith, can.column, count);
      factor = factor_at h _ can.column;
      cells = omega (arith, f.cells, ap₂ ◌*◌ f.row_count count);
      array_size = h.array_size;
      array = h.symbols;
      count = can.count ∙ sym f.row_count;
      symbols = can.symbols;
      room = above_size (known c.requires.made);
    })

pub nonzero_rows-requires : goal.nonzero_rows-requires
nonzero_rows-requires c =
    omega (arith, c.raise.ensures.size, above_size (known c.requires.made), (sound c.requires.made).frame.cells)

pub returns : goal.returns
returns c =
    let h = sound c.requires.made in
    let basis = rw c.new-field.ensures at c.basis-basis.ensures in record {
      others = refl;
      known = known_placed c.args.self c.args.column _ (take c.args.self.columns c.basis-basis.result) _ _ h (known c.requires.made)
          c.requires.can (polynomial (goal.at.returns c).After-basis-basis) (basis_unit h.frame.column-count basis)
          (rw c.new-field.ensures at c.raise.ensures) c.nonzero_rows.ensures;
    }
