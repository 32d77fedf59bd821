-- The text that is put is the number's decimal digits.
use Rattle.std.proofs.Common.{◌+◌, ◌≤◌, List, ℕ, length, sym, ◌∙◌, subst}
use Rattle.record.specs.Working.{Puts}
use Rattle.record.proofs.Decimals.{printed_decimal}
use Rattle.record.proofs.text.put_number.Goals as goal

pub put_text-requires : goal.put_text-requires
put_text-requires c =
    let same = c.as_bytes.ensures.value ∙ c.format.ensures.text ∙ printed_decimal c.args.n c.ranges.n.fits in
    subst (λ (v : List ℕ). c.args.at + length v ≤ length c.args.out.now) (sym same) c.requires

pub returns : goal.returns
returns c =
    let same = c.as_bytes.ensures.value ∙ c.format.ensures.text ∙ printed_decimal c.args.n c.ranges.n.fits in
    subst (λ (v : List ℕ). Puts c.args.out.now c.args.at v c.put_text.new.out c.put_text.result) same c.put_text.ensures
