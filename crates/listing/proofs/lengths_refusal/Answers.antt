-- `lengths_refusal` gives the first of the checks 5 and 22 that applies.
use Rattle.std.proofs.Common.{◌≡◌, true, false, not, List, ℕ, ◌%◌, length, sym, ap, ◌∙◌, eq-eqb, ne_eqb}
use Rattle.refusal.proofs.Ladders.{hit, miss, miss_last}
use Rattle.listing.specs.Checks.{not_whole}
use Rattle.listing.proofs.lengths_refusal.Goals as goal

not_whole_lem : (cells : ℕ) (s : List ℕ) {x : ℕ} → length s ≡ x → ¬ (x % cells ≡ 0) → not_whole cells s ≡ true
not_whole_lem cells s e h = ap not (ne_eqb (length s % cells) 0 (λ z. h (ap (λ (n : ℕ). n % cells) (sym e) ∙ z)))

is_whole : (cells : ℕ) (s : List ℕ) {x : ℕ} → length s ≡ x → x % cells ≡ 0 → not_whole cells s ≡ false
is_whole cells s e h = ap not (eq-eqb (length s % cells) 0 (ap (λ (n : ℕ). n % cells) e ∙ h))

pub returns-then-received-cells : goal.returns-then-received-cells
returns-then-received-cells c d s e = sym (hit _ _ _ c.if-received-cells.true)

pub returns-then-room-cells-ne0 : goal.returns-then-room-cells-ne0
returns-then-room-cells-ne0 c d s e =
    sym (miss _ _ _ c.if-received-cells.false ∙ hit _ _ _ (not_whole_lem _ s e c.if-room-cells-ne0.true))

pub returns : goal.returns
returns c d s e = sym (miss _ _ _ c.if-received-cells.false ∙ miss_last _ _ (is_whole _ s e c.if-room-cells-ne0.false))
