-- `tray_refusal` gives the first check of a tray that applies.
use Rattle.std.proofs.Common.{◌≡◌, true, false, ℕ, ◌+◌, ◌≤◌, ◌<◌, List, arith, drop, length, refl, sym, ◌∙◌}
use Rattle.std.proofs.lemmas.Result.{err_from_is_err_and}
use lib.Dec.{ltb}
use borrow.Author.Tests.{lt-ltb, le-ltb}
use Rattle.refusal.specs.Refusal.{first}
use Rattle.refusal.proofs.Laws.{within}
use Rattle.refusal.proofs.Ladders.{hit, miss, miss_last, passed_on}
use Rattle.refusal.proofs.Numbers.{handed_on}
use Rattle.codes.specs.Code.{code_of, joint_limit}
use Rattle.codes.specs.Factors.{description_of}
use Rattle.codes.specs.Checks.{code_checks}
use Rattle.codes.proofs.Passed.{Counts, counts_of}
use Rattle.array_checks.proofs.Sizes.{sizes_of}
use Rattle.tray.specs.Promises.{tray_checks, wrong_lengths}
use Rattle.tray.proofs.tray_refusal.Goals.{In_ok-code_refusal, After-wrong_lengths-size, Else-size, After-joint_limit}
use Rattle.tray.proofs.tray_refusal.Goals as goal

counts : (c : In_ok-code_refusal) → Counts (code_of c.args.degree c.args.points.now c.args.lengths.now)
counts c = counts_of (code_of c.args.degree c.args.points.now c.args.lengths.now) c.in_ok-code_refusal.ensures refl

-- the five lengths, as the code has them, where 15 does not apply
lengths_are : (c : After-wrong_lengths-size) (y a f w : List ℕ) → c.outside-count.result ≡ false → length y ≡ c.args.received
    → length a ≡ c.args.arrays → length f ≡ c.args.flags → length w ≡ c.args.space
    → c.wrong_lengths-size.result
    ≡ wrong_lengths (description_of c.args.degree c.args.points.now c.args.factors.now c.args.lengths.now) c.args.marks y a f w
lengths_are c y a f w few p q r t =
    c.wrong_lengths-size.ensures c.args.degree y a f w (within 1 64 _ (sym c.outside-count.ensures ∙ few)).1 p q r t

-- the checks of the code, 15 and 5 do not apply
lengths-passed : (c : Else-size) (y a f w : List ℕ)
    → c.wrong_lengths-size.result
    ≡ wrong_lengths (description_of c.args.degree c.args.points.now c.args.factors.now c.args.lengths.now) c.args.marks y a f w
    → let D = description_of c.args.degree c.args.points.now c.args.factors.now c.args.lengths.now in
    first (tray_checks D c.args.limit c.args.marks y a f w)
    ≡ first (drop (length (code_checks D.code) + 2) (tray_checks D c.args.limit c.args.marks y a f w))
lengths-passed c y a f w is =
    passed_on (code_checks (code_of c.args.degree c.args.points.now c.args.lengths.now)) _ tt c.in_ok-code_refusal.ensures refl
    ∙ (miss _ _ _ (sym c.outside-count.ensures ∙ c.if-count.false) ∙ miss _ _ _ (sym is ∙ c.if-size.false))

-- the limit, as the code tests it
module _ (c : After-joint_limit) where
  abbrev joint : ℕ
  joint = joint_limit (code_of c.args.degree c.args.points.now c.args.lengths.now)

  above : c.joint_limit.result < c.args.limit → ltb joint c.args.limit ≡ true
  above h = lt-ltb joint c.args.limit (omega (arith, c.joint_limit.ensures c.args.degree))

  not_above : c.args.limit ≤ c.joint_limit.result → ltb joint c.args.limit ≡ false
  not_above h = le-ltb joint c.args.limit (omega (arith, c.joint_limit.ensures c.args.degree))

pub returns-in_err-code_refusal : goal.returns-in_err-code_refusal
returns-in_err-code_refusal c y a f w p q r t = let e = err_from_is_err_and c.from_residual.result c.from_residual.ensures.1 in
    rw (e.1, e.2) (handed_on _ _ _ c.in_err-code_refusal.ensures)

pub wrong_lengths-size-requires : goal.wrong_lengths-size-requires
wrong_lengths-size-requires c = sizes_of (counts (goal.at.wrong_lengths-size-requires c).In_ok-code_refusal)

pub returns-then-count : goal.returns-then-count
returns-then-count c y a f w p q r t = let s = c.args in
    sym (passed_on (code_checks (code_of s.degree s.points.now s.lengths.now)) _ tt c.in_ok-code_refusal.ensures refl
    ∙ hit _ _ _ (sym c.outside-count.ensures ∙ c.if-count.true))

pub returns-then-size : goal.returns-then-size
returns-then-size c y a f w p q r t =
    let s = c.args in
    let is = lengths_are (goal.at.returns-then-size c).After-wrong_lengths-size y a f w c.if-count.false p q r t in
    sym (passed_on (code_checks (code_of s.degree s.points.now s.lengths.now)) _ tt c.in_ok-code_refusal.ensures refl
    ∙ (miss _ _ _ (sym c.outside-count.ensures ∙ c.if-count.false) ∙ hit _ _ _ (sym is ∙ c.if-size.true)))

pub columns_refusal-requires : goal.columns_refusal-requires
columns_refusal-requires c = (counts (goal.at.columns_refusal-requires c).In_ok-code_refusal).degree

pub returns-in_err-columns_refusal : goal.returns-in_err-columns_refusal
returns-in_err-columns_refusal c y a f w p q r t =
    let at = goal.at.returns-in_err-columns_refusal c in
    let e = err_from_is_err_and c.from_residual-in_err-columns_refusal.result c.from_residual-in_err-columns_refusal.ensures.1 in
    rw (e.1, e.2) (handed_on _ _ _ c.in_err-columns_refusal.ensures
    ∙ sym (lengths-passed at.Else-size y a f w (lengths_are at.After-wrong_lengths-size y a f w c.if-count.false p q r t)))

pub joint_limit-requires : goal.joint_limit-requires
joint_limit-requires c = sizes_of (counts (goal.at.joint_limit-requires c).In_ok-code_refusal)

pub returns-then-joint_limit-limit : goal.returns-then-joint_limit-limit
returns-then-joint_limit-limit c y a f w p q r t =
    let at = goal.at.returns-then-joint_limit-limit c in
    sym (lengths-passed at.Else-size y a f w (lengths_are at.After-wrong_lengths-size y a f w c.if-count.false p q r t)
    ∙ (passed_on _ _ tt c.in_ok-columns_refusal.ensures refl
    ∙ hit _ _ _ (above at.After-joint_limit c.if-joint_limit-limit.true)))

pub returns : goal.returns
returns c y a f w p q r t =
    let at = goal.at.returns c in
    sym (lengths-passed at.Else-size y a f w (lengths_are at.After-wrong_lengths-size y a f w c.if-count.false p q r t)
    ∙ (passed_on _ _ tt c.in_ok-columns_refusal.ensures refl
    ∙ miss_last _ _ (not_above at.After-joint_limit c.if-joint_limit-limit.false)))
