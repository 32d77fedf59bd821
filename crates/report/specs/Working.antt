-- What the functions inside the report's calls ask, and what they leave. No promise cites these.
--
--   Adding r m         what the checks of entering leave: the mark m can be counted in the report r
--   added r m          the report r with the mark m counted
--   Flagging each fs   the counts have room for the flags fs
--   flagged each fs i  the count of column i, one more where its flag is 1; with_flags each fs, the counts so
use Rattle.std.specs.Prelude.{◌≡◌, true, cond, List, ℕ, ◌+◌, ◌*◌, ◌≤◌, ◌<◌, max, eqb, length, get_or, set}
use Rattle.patch.specs.Patch.{patch}
use Rattle.codes.specs.Code.{flag}
use Rattle.report.specs.Report.{Mark, is_corrected, wrong_flags}
use Rattle.report.specs.declared.Report.{Report}

pub record Flagging (each fs : List ℕ) : Type 0 where
  pub few : length fs ≤ 96
  pub room : (i : ℕ) → get_or each i 0 < 1000000

abbrev pub flagged : (each fs : List ℕ) → ℕ → ℕ
flagged each fs i = get_or each i 0 + flag (eqb (get_or fs i 0) 1)

unfoldable pub with_flags : List ℕ → List ℕ → List ℕ
with_flags each fs = patch 0 (length fs) (flagged each fs) each

pub record Adding (r : Report) (m : Mark) : Type 0 where
  pub below : r.marks < 1000000
  pub ending : m.ending < 5
  pub room : get_or r.endings m.ending 0 < 1000000
  pub wrong : r.wrong ≤ 96 * 1000000
  pub flagging : Flagging r.each m.flags
  pub detail : is_corrected m ≡ true → wrong_flags m.flags ≡ m.detail

abbrev pub added : Report → Mark → Report
added r m = record {
  columns = r.columns;
  marks = r.marks + 1;
  endings = set r.endings m.ending (get_or r.endings m.ending 0 + 1);
  wrong = r.wrong + cond (is_corrected m) m.detail 0;
  each = cond (is_corrected m) (with_flags r.each m.flags) r.each;
  most = max r.most (cond (is_corrected m) m.detail 0);
}
