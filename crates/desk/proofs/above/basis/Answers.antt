-- `above::basis` reads the row that is 1 in the column and else 0, with as many coefficients as points.
use Rattle.std.proofs.Common.{List, ℕ, length, set, replicate, arith}
use lib.ListN.{length-set}
use lib.Seq.{length-take-le}
use Rattle.field.specs.Symbols.{IsSymbol}
use Rattle.field.proofs.Instance.{field}
use Rattle.rows.proofs.Symbols.{symbols_zeros}
use Rattle.codes.proofs.Parts.{all_take}
use Rattle.desk.proofs.Columns.{all_set}
use Rattle.desk.proofs.Coefficients.{unit_basis}
use Rattle.desk.proofs.above.basis.Goals as goal

pub all_inverses-requires-clause-all : goal.all_inverses-requires-clause-all
all_inverses-requires-clause-all c = symbols_zeros c.args.field.now.degree 1536

pub read_row-requires : goal.read_row-requires
read_row-requires c =
    let a = c.args in
    let d = a.field.now.degree in
    let p = c.requires in
    let n = length a.points.now in
    let unit : List ℕ = set (replicate 16 0) a.column 1 in record {
      row = record {
        points = p.points;
        most_points = omega (arith, p.few);
        length_in = omega arith;
        count = length-take-le n unit (omega (arith, p.few, length-set {A = ℕ} (replicate 16 0) a.column 1));
        symbols = all_take (IsSymbol d) n unit
            (all_set (IsSymbol d) (replicate 16 0) a.column 1 (field d a.field.now.degree_value).one_in (symbols_zeros d 16));
        inverses = c.all_inverses.ensures;
      };
      room = omega (arith, p.few);
    }

pub returns : goal.returns
returns c =
    let f = c.args.field.now in
    let p = c.requires in
    unit_basis (field f.degree f.degree_value) p.points p.few p.column c.read_row.ensures.polynomial
