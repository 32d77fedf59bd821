-- `Report::rank` compares the two fractions by their cross products.
use Rattle.std.proofs.Common.{arith}
use native.Mathlib.Nat.{mul-le-mul}
use Rattle.report.proofs.History.{corrected-most, wrong_most}
use Rattle.report.proofs.Report.rank.Goals as goal

pub overflow_mul-first : goal.overflow_mul-first
overflow_mul-first c = let fits = mul-le-mul (wrong_most c.requires.made) (corrected-most c.requires.made_2) in omega (arith, fits)

pub overflow_mul-second : goal.overflow_mul-second
overflow_mul-second c = let fits = mul-le-mul (wrong_most c.requires.made_2) (corrected-most c.requires.made) in omega (arith, fits)
