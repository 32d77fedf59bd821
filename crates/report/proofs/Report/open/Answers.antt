-- `Report::open` hands over what opening promises.
use Rattle.std.proofs.Common.{◌≡◌, [], sym, ◌∙◌, Ok, Err, arith}
use Rattle.refusal.specs.declared.Refusal.TheVariants.{Columns}
use Rattle.refusal.proofs.Ladders.{hit, miss_last}
use Rattle.mark.proofs.Handing.{hands, hands_not}
use Rattle.report.specs.Report.{figures, open_checks, Opens, opened}
use Rattle.report.proofs.Report.open.Goals.{After-empty, After-empty-2}
use Rattle.report.proofs.Report.open.Goals as goal

refused : (c : After-empty) → Opens c.args.columns (record { outcome = Err Columns; next = c.empty.result })
refused c = let n = c.args.columns in
    hands_not (open_checks n) (λ e. e ≡ figures n []) (figures 1 []) (sym (hit 3 _ [] (sym c.outside.ensures ∙ c.if-outside.true)))
    (λ z. omega arith) c.empty.ensures

done : (c : After-empty-2) → Opens c.args.columns (record { outcome = Ok tt; next = c.empty-2.result })
done c = let n = c.args.columns in
    hands (open_checks n) (λ e. e ≡ figures n []) (figures 1 []) (sym (miss_last 3 _ (sym c.outside.ensures ∙ c.if-outside.false)))
    c.empty-2.ensures

pub returns-then-outside-clause-opens : goal.returns-then-outside-clause-opens
returns-then-outside-clause-opens c = refused c

pub returns-then-outside-clause-made : goal.returns-then-outside-clause-made
returns-then-outside-clause-made c = ([], opened c.args.columns (record { outcome = Err Columns; next = c.empty.result }) (refused c))

pub returns-clause-opens : goal.returns-clause-opens
returns-clause-opens c = done c

pub returns-clause-made : goal.returns-clause-made
returns-clause-made c = ([], opened c.args.columns (record { outcome = Ok tt; next = c.empty-2.result }) (done c))
