-- `better` takes a turn of the scan.
use Rattle.std.proofs.Common.{sym, arith, rules}
use Rattle.solver.proofs.Scanned.{passed, first, lower, kept}
use Rattle.solver.proofs.scan.better.Goals as goal

pub returns-then-marks-j-eq0 : goal.returns-then-marks-j-eq0
returns-then-marks-j-eq0 c = (sym (passed _ _ _ _ _ c.if-marks-j-eq0.true), search rules)

pub returns-in-Some : goal.returns-in-Some
returns-in-Some c = (rw c.in-Some.is (sym (kept _ _ _ _ _ c.if-marks-j-eq0.false (omega (arith, c.if-leads-b.true)))), search rules)

pub returns-in_default : goal.returns-in_default
returns-in_default c =
    (rw c.in-Some.is (sym (lower _ _ _ _ _ c.if-marks-j-eq0.false (omega (arith, c.if-leads-b.false)))), omega arith)

pub returns-in_default-2 : goal.returns-in_default-2
returns-in_default-2 c = (rw c.in_default.is (sym (first _ _ _ _ c.if-marks-j-eq0.false)), omega arith)
