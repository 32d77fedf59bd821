-- `decide` decides as the model does, on what it reads off the memory.
use Rattle.std.proofs.Common.{◌+◌, ◌/◌, ◌≤◌, ◌∙◌, ℕ, sym, arith, length, get_or}
use native.Mathlib.Numerals.{add-one}
use Rattle.codes.specs.Code.{Code, code_of}
use Rattle.solver.proofs.Reading.{holds_leads}
use Rattle.ending.proofs.Model.{lines_of}
use Rattle.judging.proofs.Decisions.{Solved, number, lead_low, size_small, locator_count, locator_symbols}
use Rattle.judging.proofs.Decisions.{reads_none, reads_several, reads_alone}
use Rattle.judging.proofs.decide.Goals.{After-least-p}
use Rattle.judging.proofs.decide.Goals as goal

-- where the least line is found
module _ (c : After-least-p) where
  abbrev code : Code
  code = code_of c.args.field.now.degree c.args.points.now c.args.lengths.now

  abbrev t : ℕ
  t = (get_or c.args.leads.now c.least-p.result 0 + length c.args.lengths.now) / (length c.args.lengths.now + 1)

  solved : Solved code c.args.received.now c.args.limit c.args.count c.args.leads.now c.args.space.now c.least-p.result
  solved = record {
    counts = c.requires.ready.counts;
    proper = c.requires.ready.proper;
    received = c.requires.ready.received;
    limit = c.requires.limit_bound;
    few = c.requires.count_bound.0;
    room = c.requires.count_bound.1;
    held = c.requires.holds_lines;
    scanned = c.least-p.ensures.2 (lines_of code c.args.received.now) (c.requires.holds_lines.count ∙ sym (add-one _))
        (holds_leads c.requires.holds_lines);
  }

  few : t ≤ c.args.limit → t ≤ 96
  few small = omega (arith, size_small solved small, solved.counts.most_columns)

pub bounds-leads-p : goal.bounds-leads-p
bounds-leads-p c = let q = solved (goal.at.bounds-leads-p c).After-least-p in omega (arith, number q, q.counts.most_rows)

pub overflow_add-t : goal.overflow_add-t
overflow_add-t c = let q = solved (goal.at.overflow_add-t c).After-least-p in omega (arith, lead_low q, q.counts.most_rows)

pub returns-then-limit-t : goal.returns-then-limit-t
returns-then-limit-t c = reads_none (solved (goal.at.returns-then-limit-t c).After-least-p) c.if-limit-t.true

pub another_within-requires : goal.another_within-requires
another_within-requires c =
    let l = (goal.at.another_within-requires c).After-least-p in
    (omega (arith, (solved l).counts.most_rows), few l (omega (arith, c.if-limit-t.false)))

pub overflow_cast-result : goal.overflow_cast-result
overflow_cast-result c =
    omega (arith, few (goal.at.overflow_cast-result c).After-least-p (omega (arith, c.if-limit-t.false)))

pub returns-then-another_within : goal.returns-then-another_within
returns-then-another_within c =
    let q = solved (goal.at.returns-then-another_within c).After-least-p in
    reads_several q (omega (arith, c.if-limit-t.false))
    ((c.another_within.ensures _ (q.held.count ∙ sym (add-one _)) (holds_leads q.held)).0 c.if-another_within.true)

pub slice_bounds-divide-end : goal.slice_bounds-divide-end
slice_bounds-divide-end c =
    let l = (goal.at.slice_bounds-divide-end c).After-least-p in
    let small : t l ≤ c.args.limit = omega (arith, c.if-limit-t.false) in
    let q = solved l in
    omega (arith, number q, size_small q small, q)

pub divide-requires-clause-all : goal.divide-requires-clause-all
divide-requires-clause-all c =
    let l = (goal.at.divide-requires-clause-all c).After-least-p in
    let small : t l ≤ c.args.limit = omega (arith, c.if-limit-t.false) in
    let q = solved l in
    (locator_symbols q small, omega (arith, locator_count q small), omega (arith, locator_count q small, small, q.limit))

pub returns : goal.returns
returns c = λ lent.
    let l = (goal.at.returns c).After-least-p in
    let small : t l ≤ c.args.limit = omega (arith, c.if-limit-t.false) in
    let q = solved l in
    let alone = (c.another_within.ensures _ (q.held.count ∙ sym (add-one _)) (holds_leads q.held)).1 c.if-another_within.false in
    reads_alone q small alone lent ∙ c.divide.ensures lent _ (locator_count q small)
