-- Suppliers ranked: 02, 2026-14, 'Two suppliers are ranked by wrong columns per corrected mark, as exact fractions; one with no
-- corrected mark comes last, and two such rank equal.'

--   corrected r    how many marks of the report r are corrected
--   Before r s     the supplier of r comes before that of s
--   meaning        a number for each ranking: the number of the supplier that comes first, 0 for none
--   Ranks r s o    the ranking o of the two reports
use Rattle.std.specs.Prelude.{◌≡◌, ◌⊎◌, ◌↔◌, [], ℕ, ◌*◌, ◌<◌, get_or}
use Rattle.refusal.specs.Meaning.{Meaning, number_of}
use Rattle.report.specs.declared.Report.{Report}
use Rattle.report.specs.declared.Ranking.{Ranking}
use Rattle.report.specs.declared.Ranking.TheVariants.{Equal, First, Second}

abbrev pub corrected : Report → ℕ
corrected r = get_or r.endings 1 0

-- 'one with no corrected mark comes last'; else the smaller fraction comes first: a/b is below c/d when a·d is below c·b
pub record Before (r s : Report) : Type 0 where
  pub some : 0 < corrected r
  pub less : (corrected s ≡ 0) ⊎ (r.wrong * corrected s < s.wrong * corrected r)

abbrev pub meaning : Ranking → Meaning
meaning Equal = (0, [])
meaning First = (1, [])
meaning Second = (2, [])

-- where neither comes before the other they rank equal
pub record Ranks (r s : Report) (o : Ranking) : Type 0 where
  pub first : (number_of (meaning o) ≡ 1) ↔ Before r s
  pub second : (number_of (meaning o) ≡ 2) ↔ Before s r
