-- The promises of the report's calls: no two answers keep them. For that of ranking see Order.
--
--   unique_opening     of opening
--   unique_entering    of entering a mark, in a report that came from opening and entering
-- Assumes nothing.
use mathlib.Core.Path.{◌≡◌, sym, ◌∙◌}
use mathlib.Core.List.{[]}
use Prim.Native.Nat.{ℕ}
use Rattle.mark.proofs.Handing.{hands_unique}
use Rattle.report.specs.Report.{Mark, figures, open_checks, enter_checks, Opens, Next, Enters, Made}
use Rattle.report.specs.declared.Report.{Report}
use Rattle.mark.specs.declared.Handed.{Handed}
use Rattle.report.proofs.History.{passed, held_of, next_added}

pub unique_opening : (n : ℕ) (o o' : Handed Report) → Opens n o → Opens n o' → o ≡ o'
unique_opening n o o' p q =
    let e = hands_unique (open_checks n) (λ r. r ≡ figures n []) (figures 1 []) (λ none r s p q. p ∙ sym q)
    o.outcome o'.outcome o.next o'.next p q in
    λ i. record { outcome = e.0 i; next = e.1 i }

pub unique_entering : (r : Report) (m : Mark) (e e' : Handed Report) → Made r → Enters r m e → Enters r m e' → e ≡ e'
unique_entering r m e e' (ms, came) p q =
    let few = (held_of came).most_columns in
    let one = hands_unique (enter_checks r m) (Next r m) r
    (λ none s t p q. let own = (passed r m none).1 in next_added few own p ∙ sym (next_added few own q))
    e.outcome e'.outcome e.next e'.next p q in
    λ i. record { outcome = one.0 i; next = one.1 i }
