-- `mark::encode` leaves what it promises: the message's code array, multiplied by the factors.
use Rattle.std.proofs.Common.{◌≡◌, List, refl, sym, ap, ◌∙◌}
use mathlib.Core.Path.{subst}
use Rattle.std.proofs.lemmas.Result.{err_from_is_err_and}
use Rattle.refusal.specs.Refusal.{Check, first}
use Rattle.refusal.proofs.Keeping.{refuses}
use Rattle.refusal.proofs.Numbers.{positive}
use Rattle.codes.specs.Code.{IsArray}
use Rattle.codes.specs.Factors.{Description, description_of, encoded_by, multiplied}
use Rattle.codes.specs.Checks.{encode_checks}
use Rattle.codes.proofs.Passed.{PassedEncoding, encoding}
use Rattle.codes.proofs.Messages.{encoded_array}
use Rattle.codes.proofs.Factors.{Factors}
use Rattle.factors.proofs.Rows.{striking}
use Rattle.mark.proofs.Promised.{writes}
use Rattle.mark.proofs.encode.Goals.{In_ok-encode_refusal}
use Rattle.mark.proofs.encode.Goals as goal

pub returns-in_err-encode_refusal : goal.returns-in_err-encode_refusal
returns-in_err-encode_refusal c = let e = err_from_is_err_and c.from_residual.result c.from_residual.ensures.1 in
    rw (e.1, e.2) (refuses _ _ _ (c.in_err-encode_refusal.ensures c.args.array.now refl) (positive _))

-- where the checks let the call pass
module _ (c : In_ok-encode_refusal) where
  abbrev D : Description
  D = description_of c.args.degree c.args.points.now c.args.factors.now c.args.lengths.now

  abbrev checks : List Check
  checks = encode_checks D c.args.message.now c.args.array.now

  passes : 0 ≡ first checks
  passes = c.in_ok-encode_refusal.ensures c.args.array.now refl

  passed : PassedEncoding D.code c.args.message.now c.args.array.now × Factors D
  passed = encoding D c.args.message.now c.args.array.now passes

pub write_array-requires : goal.write_array-requires
write_array-requires c = (passed (goal.at.write_array-requires c).In_ok-encode_refusal).0

pub multiply-requires : goal.multiply-requires
multiply-requires c = let k = (goal.at.multiply-requires c).In_ok-encode_refusal in let p = passed k in
    striking {D = D k} p.0.counts p.1 (subst (IsArray (D k).code) (sym c.write_array.ensures) (encoded_array p.0.proper p.0.message))

pub returns : goal.returns
returns c = let k = (goal.at.returns c).In_ok-encode_refusal in
    writes (checks k) (encoded_by (D k) c.args.message.now) c.args.array.now (passes k)
    (c.multiply.ensures ∙ ap (multiplied (D k)) c.write_array.ensures)
