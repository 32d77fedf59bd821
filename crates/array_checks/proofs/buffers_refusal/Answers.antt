-- `buffers_refusal` gives the first of the checks 1 to 7 that applies to a message and an array.
use Rattle.std.proofs.Common.{◌≡◌, ℕ, ◌*◌, Bool, not, ◌||◌, List, ◌++◌, length, refl, sym, ap, ◌∙◌, nat_eq}
use mathlib.Core.Path.{ap₂}
use Rattle.std.proofs.lemmas.Result.{err_from_is_err_and}
use Rattle.refusal.specs.Refusal.{first}
use Rattle.refusal.proofs.Ladders.{hit, miss, passed_on}
use Rattle.refusal.proofs.Numbers.{handed_on}
use Rattle.codes.specs.Code.{Code, columns, rows, total}
use Rattle.codes.specs.Factors.{Description, description_of}
use Rattle.codes.specs.Checks.{buffer_checks, code_checks, wrong_length}
use Rattle.codes.proofs.Passed.{Counts, as_tested, counts_of}
use Rattle.array_checks.proofs.Sizes.{sizes_of}
use Rattle.array_checks.proofs.buffers_refusal.Goals.{Start, In_ok-code_refusal, After-cells}
use Rattle.array_checks.proofs.buffers_refusal.Goals as goal

abbrev described : Start → Description
described s = description_of s.args.degree s.args.points.now s.args.factors.now s.args.lengths.now

abbrev code : Start → Code
code s = (described s).code

counts : (c : In_ok-code_refusal) → Counts (code (goal.at.total-requires c).Start)
counts c = counts_of (code (goal.at.total-requires c).Start) c.in_ok-code_refusal.ensures refl

pub returns-in_err-code_refusal : goal.returns-in_err-code_refusal
returns-in_err-code_refusal c m a p q = let e = err_from_is_err_and c.from_residual.result c.from_residual.ensures.1 in
    rw (e.1, e.2) (handed_on _ _ _ c.in_err-code_refusal.ensures)

pub total-requires : goal.total-requires
total-requires c = (counts c).most_rows

pub cells-requires : goal.cells-requires
cells-requires c = sizes_of (counts (goal.at.cells-requires c).In_ok-code_refusal)

pub contents_refusal-requires-clause-degree_value : goal.contents_refusal-requires-clause-degree_value
contents_refusal-requires-clause-degree_value c = (counts (goal.at.contents_refusal-requires-clause-degree_value c).In_ok-code_refusal).degree

module _ (c : After-cells) (m a : List ℕ) (p : length m ≡ c.args.message) (q : length a ≡ c.args.array) where
  abbrev of_code : Code
  of_code = (description_of c.args.degree c.args.points.now c.args.factors.now c.args.lengths.now).code

  -- that only the check of the lengths and those behind it are left
  code_passed : first (code_checks of_code ++ buffer_checks
      (description_of c.args.degree c.args.points.now c.args.factors.now c.args.lengths.now) m a c.args.symbols.now)
      ≡ first (buffer_checks (description_of c.args.degree c.args.points.now c.args.factors.now c.args.lengths.now) m a c.args.symbols.now)
  code_passed = passed_on (code_checks of_code) _ tt c.in_ok-code_refusal.ensures refl

  lengths_are : (wrong_length (total c.args.lengths.now) m || wrong_length (rows of_code * columns of_code) a
      || wrong_length (columns of_code) c.args.factors.now)
      ≡ (not (nat_eq c.args.message c.total.result) || not (nat_eq c.args.array c.cells.result)
      || not (nat_eq (length c.args.factors.now) (columns of_code)))
  lengths_are = ap (λ (b : Bool). b || wrong_length (columns of_code) c.args.factors.now)
      (ap₂ ◌||◌ (as_tested m p c.total.ensures) (as_tested a q c.cells.ensures))

pub returns-then-message-total : goal.returns-then-message-total
returns-then-message-total c m a p q = let k = (goal.at.returns-then-message-total c).After-cells in
    sym (code_passed k m a p q ∙ hit _ _ _ (lengths_are k m a p q ∙ c.if-message-total.true))

pub returns : goal.returns
returns c m a p q = let k = (goal.at.returns c).After-cells in
    c.contents_refusal.ensures ∙ sym (code_passed k m a p q ∙ miss _ _ _ (lengths_are k m a p q ∙ c.if-message-total.false))
