-- `is_code` answers whether reading, with factors of one, finds a message.
use Rattle.std.proofs.Common.{ℕ, List, take, replicate, sym, ◌∙◌, arith}
use lib.Seq.{length-take-le}
use Rattle.codes.proofs.Parts.{take-replicate}
use Rattle.mark.specs.Promises.{left}
use Rattle.mark.proofs.Promised.{is_done}
use Rattle.fitting.proofs.Tried.{is_code}
use Rattle.fitting.proofs.is_code.Goals as goal

pub returns : goal.returns
returns c =
    let blank : List ℕ = take c.total-k.result (replicate 384 0) in
    let sized = length-take-le c.total-k.result (replicate 384 0)
    (omega (arith, c.total-k.ensures, c.requires.counts.fits, c.requires.counts.cells)) in
    let (is, was) = is_done c.read.result in
    let (there, back) = is_code c.requires c.args.array.now blank (left c.read.result c.read.new.message) (sized ∙ c.total-k.ensures)
    (rw (take-replicate _ 96 1 c.requires.counts.most_columns) at c.read.ensures) in
    (λ e. there (is (sym c.is_ok.ensures.value ∙ e)), λ h. c.is_ok.ensures.value ∙ was (back h))
