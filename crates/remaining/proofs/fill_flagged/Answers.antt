-- `fill_flagged` turns the flags into marks and flags of the columns to fill in, and has these filled in.
use Rattle.std.proofs.Common.{◌≡◌, ◌≤◌, List, ℕ, ap, ◌∙◌, arith, length, take, replicate}
use Rattle.patch.specs.Parts.{lay}
use Rattle.patch.proofs.Parts.{take-lay}
use Rattle.finish.specs.Working.{zeros_in}
use Rattle.finish.proofs.Marks.{zeros-count}
use Rattle.remaining.specs.Working.{to_fill}
use Rattle.remaining.proofs.fill_flagged.Goals.{After-flag_zeros-2}
use Rattle.remaining.proofs.fill_flagged.Goals as goal

-- flags worked out at the front of 96
front : (n : ℕ) (ms : List ℕ) {s : List ℕ} → length ms ≡ n → n ≤ 96 → s ≡ lay 0 (zeros_in ms) (replicate 96 0) → take n s ≡ zeros_in ms
front n ms e h is = take-lay (zeros_in ms) (replicate 96 0) is (zeros-count ms ∙ e) (omega arith)

module _ (c : After-flag_zeros-2) where
  abbrev n : ℕ
  n = length c.args.points.now

  abbrev stay : List ℕ
  stay = c.flag_zeros.new.flags

  few : n ≤ 96
  few = c.requires.ready.counts.most_columns

  stays : take n stay ≡ zeros_in c.args.flags.now
  stays = front n c.args.flags.now c.requires.flags_len.0 few c.flag_zeros.ensures.1

  stay_size : length (take n stay) ≡ n
  stay_size = ap length stays ∙ zeros-count c.args.flags.now ∙ c.requires.flags_len.0

  fills : take n c.flag_zeros-2.new.flags ≡ zeros_in (take n stay)
  fills = front n (take n stay) stay_size few c.flag_zeros-2.ensures.1

  filled_flags : take n c.flag_zeros-2.new.flags ≡ to_fill c.args.flags.now
  unfolding to_fill
  filled_flags = fills ∙ ap zeros_in stays

pub fill-requires-clause-flags_value : goal.fill-requires-clause-flags_value
fill-requires-clause-flags_value c =
    let d = (goal.at.fill-requires-clause-flags_value c).After-flag_zeros-2 in
    (fills d, stay_size d, rw (filled_flags d) c.requires.flags_len.1)

pub returns : goal.returns
returns c = let d = (goal.at.returns c).After-flag_zeros-2 in rw (filled_flags d) at c.fill.ensures
