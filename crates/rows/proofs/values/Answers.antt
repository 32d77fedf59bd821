-- `values` takes the values from Newton's form with zeros for nodes.
use Rattle.std.proofs.Common.{ℕ, List, ap, ◌∙◌}
use Rattle.std.proofs.Math.ListN.{replicate}
use Rattle.patch.specs.Parts.{lay}
use Rattle.field.specs.Arithmetic.{gf}
use Rattle.field.proofs.Instance.{field}
use Rattle.rows.proofs.Evaluation.{zeros, plain_values}
use Rattle.rows.proofs.values.Goals as goal

pub returns : goal.returns
returns c =
    let a = c.args in
    let A = gf a.reducer.degree in
    let 𝓕 = field a.reducer.degree a.reducer.degree_value in
    c.evaluate.ensures
    ∙ ap (λ (v : List ℕ). lay a.at v a.s.now)
    (plain_values A 𝓕 (replicate 96 0) a.p.now a.xs.now (zeros A 𝓕 96) c.requires.p_nonzero.1)
