-- The answer is to the bytes that were read, and its line is the one that is written.
use Rattle.std.proofs.Common.{arith, ◌≡◌, ℕ, ◌≤◌, List, length, take, length-take-le}
use Rattle.records.specs.Held.{Held}
use Rattle.records.proofs.Printing.{answered_end, answered_last, answered_next}
use Rattle.records.proofs.next_line.Goals as goal

size : (l : List ℕ) (n : ℕ) → Held l n → 490 ≤ length l → length (take n l) ≡ n
size l n h room = length-take-le n l (omega (arith, h.most))

pub returns-in-End-clause-answered : goal.returns-in-End-clause-answered
returns-in-End-clause-answered g c =
    let got = c.in_ok-got in
    let long = size c.next_record.new.held got.got got.ensures.held (omega (arith, c.next_record.auto, c.requires)) in
    answered_end c.args.number _ _ _ _ _ _ got.ensures.bytes (λ l. got.ensures.end (omega (arith, long))) c.in-End.ensures.answers

pub returns-in_ok-put-in-Last-clause-answered : goal.returns-in_ok-put-in-Last-clause-answered
returns-in_ok-put-in-Last-clause-answered g c =
    let got = c.in_ok-got in
    let long = size c.next_record.new.held got.got got.ensures.held (omega (arith, c.next_record.auto, c.requires)) in
    answered_last c.args.number c.in-Last.n _ _ _ _ _ _ _ c.in-Last.ensures.prefix_len.0 got.ensures.bytes c.in_ok-put-in-Last.ensures
    (λ l. got.ensures.end (omega (arith, long))) c.in-Last.ensures.answers

pub returns-in_ok-put-in-Next-clause-answered : goal.returns-in_ok-put-in-Next-clause-answered
returns-in_ok-put-in-Next-clause-answered g c =
    let got = c.in_ok-got in
    let long = size c.next_record.new.held got.got got.ensures.held (omega (arith, c.next_record.auto, c.requires)) in
    answered_next c.args.number c.in-Next.n _ _ _ _ _ _ _ c.in-Next.ensures.prefix_len.0 got.ensures.bytes c.in_ok-put-in-Next.ensures
    (omega (arith, long, got.ensures.held.no_more)) c.in-Next.ensures.answers
