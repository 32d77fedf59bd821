-- `reading::read_row` reduces a copy of the row; its front has the polynomial, and the rest is zero or not.
use Rattle.std.proofs.Common.{List, ℕ, ap, ◌∙◌}
use Rattle.patch.specs.Parts.{lay}
use Rattle.field.proofs.Instance.{field}
use Rattle.rows.proofs.Reduced.{reduced_newton}
use Rattle.mark.proofs.reading.read_row.Goals as goal

pub returns : goal.returns
returns c =
    let a = c.args in
    let d = a.field.now.degree in
    let p = c.requires.row in
    let reduced = c.reduce_row-good.ensures in
    record {
      zeros = reduced.zeros;
      polynomial = c.coefficients.ensures
          ∙ ap (λ (v : List ℕ). lay a.at v a.s.now)
          (reduced_newton d a.k a.points.now a.row.now _ p.count reduced.front (field d a.field.now.degree_value) p.length_in);
    }
