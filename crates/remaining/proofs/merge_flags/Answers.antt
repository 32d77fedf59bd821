-- `remaining::merge_flags` merges the flags of the remaining columns with twos.
use Rattle.std.proofs.Common.{◌≡◌, List, ℕ, sym, ap, ◌∙◌, arith, length, take, replicate}
use Rattle.std.proofs.lemmas.List.{length-replicate}
use lib.Seq.{length-take-le}
use Rattle.patch.proofs.Parts.{take-lay, length-lay}
use Rattle.codes.specs.Lost.{lost_flags}
use Rattle.codes.proofs.Lost.{lost_length}
use Rattle.finish.specs.Working.{put}
use Rattle.finish.proofs.Marks.{put_count}
use Rattle.remaining.specs.Working.{merged}
use Rattle.remaining.proofs.Fronts.{lost_front, same_front}
use Rattle.remaining.proofs.merge_flags.Goals.{After-lost_flags-gone}
use Rattle.remaining.proofs.merge_flags.Goals as goal

module _ (c : After-lost_flags-gone) where
  abbrev n : ℕ
  n = c.args.n

  abbrev gone : List ℕ
  gone = lost_flags n c.args.lost.now

  front : take n c.lost_flags-gone.result ≡ gone
  front = lost_front n c.args.lost.now c.requires.0 c.lost_flags-gone.ensures

  twos : take n (replicate {A = ℕ} 96 2) ≡ replicate (length gone) 2
  twos = same_front 2 n 96 c.requires.0 ∙ ap (λ (m : ℕ). replicate m 2) (sym (lost_length n c.args.lost.now))

  count : (b : ℕ) → length (take n (replicate 96 b)) ≡ n
  count b = length-take-le n (replicate 96 b) (omega (arith, c.requires.0, length-replicate {A = ℕ} 96 b))

pub merge-requires : goal.merge-requires
merge-requires c =
    let d = (goal.at.merge-requires c).After-lost_flags-gone in
    let long = lost_length (n d) c.args.lost.now in
    rw (front d) (omega (arith, c.requires.2), count d _ ∙ sym long, omega (arith, long, c.requires.0))

pub returns : goal.returns
unfolding merged
returns c =
    let d = (goal.at.returns c).After-lost_flags-gone in
    let whole = rw (front d, twos d) at c.merge.ensures in
    let fits : length (put (gone d) c.args.wrong.now (replicate (length (gone d)) 2)) ≡ n d =
    put_count (gone d) c.args.wrong.now (replicate (length (gone d)) 2) ∙ length-replicate {A = ℕ} (length (gone d)) 2
    ∙ lost_length (n d) c.args.lost.now in
    (ap length whole ∙ length-lay 0 _ (replicate 96 0), take-lay _ (replicate 96 0) whole fits (omega (arith, c.requires.0)))
