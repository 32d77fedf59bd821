-- `mark::read` leaves what it promises: the message of the array, divided by the factors.
use Rattle.std.proofs.Common.{◌≡◌, ℕ, ◌≤◌, List, length, take, refl, sym, ap, ◌∙◌, arith}
use mathlib.Core.Path.{subst}
use Rattle.std.proofs.lemmas.Result.{err_from_is_err_and}
use Rattle.refusal.specs.Refusal.{Check, first}
use Rattle.refusal.proofs.Keeping.{refuses}
use Rattle.refusal.proofs.Numbers.{positive}
use Rattle.codes.specs.Code.{IsArray, IsMessage, CodeArray}
use Rattle.codes.specs.Factors.{Description, description_of, encoded_by, multiplied, divided}
use Rattle.codes.specs.Checks.{read_checks}
use Rattle.codes.proofs.Passed.{PassedReading, reading}
use Rattle.codes.proofs.Factors.{Factors, is_divided, multiplied-divided, code_divided}
use Rattle.factors.proofs.Rows.{striking}
use Rattle.mark.proofs.Promised.{finds, finds_none}
use Rattle.mark.proofs.read.Goals.{In_ok-read_refusal}
use Rattle.mark.proofs.read.Goals as goal

pub returns-in_err-read_refusal : goal.returns-in_err-read_refusal
returns-in_err-read_refusal c = let e = err_from_is_err_and c.from_residual.result c.from_residual.ensures.1 in
    rw (e.1, e.2) (refuses _ _ _ (c.in_err-read_refusal.ensures c.args.message.now refl) (positive _))

-- where the checks let the call pass
module _ (c : In_ok-read_refusal) where
  abbrev D : Description
  D = description_of c.args.degree c.args.points.now c.args.factors.now c.args.lengths.now

  abbrev checks : List Check
  checks = read_checks D c.args.array.now c.args.message.now

  passes : 0 ≡ first checks
  passes = c.in_ok-read_refusal.ensures c.args.message.now refl

  passed : PassedReading D.code c.args.array.now c.args.message.now × Factors D
  passed = reading D c.args.array.now c.args.message.now passes

  room : length c.args.array.now ≤ 384
  room = omega (arith, passed.0.array.count, passed.0.counts.cells)

  -- the quotient
  module _ (s : List ℕ) (e : take (length c.args.array.now) s ≡ divided D c.args.array.now) where
    quotient_array : IsArray D.code (take (length c.args.array.now) s)
    quotient_array = subst (IsArray D.code) (sym e) (is_divided D passed.0.proper passed.1 passed.0.array)

    same : length (take (length c.args.array.now) s) ≡ length c.args.array.now
    same = quotient_array.count ∙ sym passed.0.array.count

pub divide-requires-clause-striking : goal.divide-requires-clause-striking
divide-requires-clause-striking c = let k = (goal.at.divide-requires-clause-striking c).In_ok-read_refusal in
    striking {D = D k} (passed k).0.counts (passed k).1 (passed k).0.array

pub divide-requires-clause-array_in_bounds : goal.divide-requires-clause-array_in_bounds
divide-requires-clause-array_in_bounds c = room (goal.at.divide-requires-clause-array_in_bounds c).In_ok-read_refusal

pub slice_bounds-plain-end : goal.slice_bounds-plain-end
slice_bounds-plain-end c = let k = (goal.at.slice_bounds-plain-end c).In_ok-read_refusal in omega (arith, c.divide.auto.s, room k)

pub slice_bounds-write_message-end : goal.slice_bounds-write_message-end
slice_bounds-write_message-end c = sym (same (goal.at.slice_bounds-write_message-end c).In_ok-read_refusal _ c.divide.ensures)

pub write_message-requires : goal.write_message-requires
write_message-requires c = let k = (goal.at.write_message-requires c).In_ok-read_refusal in let ok = (passed k).0 in
    record { counts = ok.counts; proper = ok.proper; array = quotient_array k _ c.divide.ensures; message = ok.message }

pub returns-then-not-write_message : goal.returns-then-not-write_message
returns-then-not-write_message c = let k = (goal.at.returns-then-not-write_message c).In_ok-read_refusal in
    let (ok, factors) = passed k in
    let (none, kept) = c.write_message.ensures.none c.if-not-write_message.true in
    finds_none (checks k) (IsMessage (D k).code) (encoded_by (D k)) c.args.array.now c.args.message.now (passes k)
    (λ h. none (subst (CodeArray (D k).code) (sym c.divide.ensures) ((code_divided (D k) ok.proper factors ok.array).0 h))) kept

pub returns : goal.returns
returns c = let k = (goal.at.returns c).In_ok-read_refusal in
    let (ok, factors) = passed k in
    let (message, codes) = c.write_message.ensures.found c.if-not-write_message.false in
    finds (checks k) (IsMessage (D k).code) (encoded_by (D k)) c.args.array.now c.args.message.now (passes k) message
    (ap (multiplied (D k)) (codes ∙ c.divide.ensures) ∙ multiplied-divided (D k) ok.proper factors ok.array)
