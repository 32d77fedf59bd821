-- `remaining_refusal` gives the first of the checks 16, 17 and 8 that applies: what is left is all less the
-- lost, so that as many points of the front serve for the limit.
use Rattle.std.proofs.Common.{◌≡◌, false, ℕ, ◌+◌, ◌-◌, ◌≤◌, List, length, take, drop, arith, sym, ◌∙◌, lt-ltb, le-ltb}
use lib.Seq.{length-take-le}
use Rattle.refusal.specs.Refusal.{bad_columns, first}
use Rattle.refusal.proofs.Ladders.{hit, miss, miss_last}
use Rattle.codes.specs.Code.{Code, code_of, columns, largest, joint_limit}
use Rattle.codes.specs.Lost.{core}
use Rattle.codes.specs.Checks.{remaining_checks}
use Rattle.codes.proofs.Proper.{lengths_test}
use Rattle.codes.proofs.Lost.{columns_test, core-columns, within_largest, joint_same}
use Rattle.array_checks.specs.Working.{Sizes}
use Rattle.array_checks.proofs.remaining_refusal.Goals.{Start, Else-bad_columns, Else-left-most, After-limit_from}
use Rattle.array_checks.proofs.remaining_refusal.Goals as goal

-- what the lengths and the points are
sizes : (s : Start) → Sizes s.args.lengths.now s.args.points.now
sizes s = record {
  most_rows = s.requires.lengths_len_bound;
  most_columns = s.requires.in_bounds.1;
  lengths = (lengths_test 1 _ s.args.lengths.now).0 s.requires.lengths_value;
}

-- where 16 does not apply
module _ (c : Else-bad_columns) where
  abbrev code : ℕ → Code
  code d = code_of d c.args.points.now c.args.lengths.now

  abbrev lost : List ℕ
  lost = c.args.lost.now

  abbrev left : ℕ
  left = length c.args.points.now - length lost

  abbrev remains : ℕ → Code
  remains d = core (code d) lost

  no_sixteen : bad_columns (length c.args.points.now) lost ≡ false
  no_sixteen = sym c.bad_columns.ensures ∙ c.if-bad_columns.false

  all : (d : ℕ) → columns (remains d) + length lost ≡ length c.args.points.now
  all d = core-columns (code d) lost ((columns_test _ lost c.requires.in_bounds.0).0 no_sixteen)

  front : length (take left c.args.points.now) ≡ left
  front = length-take-le left c.args.points.now (omega arith)

  abbrev Rest : ℕ → Type 0
  Rest k = (d : ℕ) → let cs = remaining_checks (code d) c.args.limit lost in first cs ≡ first (drop k cs)

  rest1 : Rest 1
  rest1 d = miss _ _ _ no_sixteen

-- where 17 does not either
module _ (c : Else-left-most) where
  abbrev sixteen : Else-bad_columns
  sixteen = (goal.at.limit_from-requires-clause-sizes c).Else-bad_columns

  enough : largest c.args.lengths.now ≤ left sixteen
  enough = omega (arith, c.largest-most.ensures, c.if-left-most.false)

  rest2 : Rest sixteen 2
  rest2 d = rest1 sixteen d ∙ miss _ _ _ (le-ltb (columns (remains sixteen d)) _ (omega (arith, all sixteen d, enough)))

-- the limit that the code works out, from as many points of the front
limit_is : (at : Else-bad_columns) (d : ℕ) {l : ℕ}
    → l ≡ joint_limit (code_of d (take (left at) at.args.points.now) at.args.lengths.now) → l ≡ joint_limit (remains at d)
limit_is at d e = e ∙ joint_same d d _ _ at.args.lengths.now (front at ∙ omega (arith, all at d))

pub returns-then-bad_columns : goal.returns-then-bad_columns
returns-then-bad_columns c d = sym (hit _ _ _ (sym c.bad_columns.ensures ∙ c.if-bad_columns.true))

pub overflow_sub-left : goal.overflow_sub-left
overflow_sub-left c = omega (arith, all c 0)

pub returns-then-left-most : goal.returns-then-left-most
returns-then-left-most c d = let at = (goal.at.returns-then-left-most c).Else-bad_columns in
    sym (rest1 at d ∙ hit _ _ _ (lt-ltb (columns (remains at d)) _
    (omega (arith, all at d, c.largest-most.ensures, c.if-left-most.true))))

pub limit_from-requires-clause-sizes : goal.limit_from-requires-clause-sizes
limit_from-requires-clause-sizes c =
    let at = sixteen c in
    let s = sizes (goal.at.limit_from-requires-clause-sizes c).Start in
    record {
      most_rows = s.most_rows;
      most_columns = omega (arith, front at, s.most_columns);
      lengths = rw (front at) (within_largest _ _ _ s.lengths (enough c));
    }

pub returns-then-limit_from-limit : goal.returns-then-limit_from-limit
returns-then-limit_from-limit c d =
    let seventeen = (goal.at.returns-then-limit_from-limit c).Else-left-most in
    let at = sixteen seventeen in
    sym (rest2 seventeen d ∙ hit _ _ _ (lt-ltb (joint_limit (remains at d)) _
    (omega (arith, limit_is at d (c.limit_from.ensures d), c.if-limit_from-limit.true))))

pub returns : goal.returns
returns c d =
    let seventeen = (goal.at.returns c).Else-left-most in
    let at = sixteen seventeen in
    sym (rest2 seventeen d ∙ miss_last _ _ (le-ltb (joint_limit (remains at d)) _
    (omega (arith, limit_is at d (c.limit_from.ensures d), c.if-limit_from-limit.false))))
