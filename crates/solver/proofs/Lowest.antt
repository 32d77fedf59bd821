-- The first line of lowest lead, of all lines and of those with another lead, found by its number.
--
--   least_some, least_below, least_line    where every line is marked
--   another_line    where the lines of another lead are marked
--   five            what holds of each of five numbers
--   all_marked      where all marks are one, none is zero
-- Assumes nothing.
use mathlib.Core.Path.{◌≡◌, sym, ◌∙◌}
use mathlib.Core.List.{List}
use mathlib.Core.Option
use mathlib.Core.Option.{Option, none, some}
use Prim.Native.Nat.{ℕ, zero, suc, ◌≤◌, ◌<◌}
use native.Mathlib.Decide.{ℕ_discrete}
use native.Mathlib.Omega.{arith}
use lib.ListN.{length, get_or, get_elem?, replicate, get_or-replicate}
use Rattle.std.specs.Prelude
use Rattle.std.specs.Prelude.{Some, None, IfSome, MatchOption, unwrap_or}
use Rattle.basis.proofs.Lines.{Line, least, another}
use Rattle.solver.specs.Working.Held.{blank, LeadsOf}
use Rattle.solver.specs.Working.Scan.{found, first_lowest, Marks}
use Rattle.solver.proofs.Scanned.{none_marked, line_some, line_none, scanned}

pub five : (P : ℕ → Type 0) → P 0 → P 1 → P 2 → P 3 → P 4 → (j : ℕ) → j < 5 → P j
five P a b c d e zero lt = a
five P a b c d e (suc zero) lt = b
five P a b c d e (suc (suc zero)) lt = c
five P a b c d e (suc (suc (suc zero))) lt = d
five P a b c d e (suc (suc (suc (suc zero)))) lt = e
five P a b c d e (suc (suc (suc (suc (suc j))))) lt = absurd (omega arith)

pub all_marked : (n j : ℕ) → j < n → get_or (replicate {A = ℕ} n 1) j 0 ≡ 0 → ⊥
all_marked n j lt e = let one : get_or (replicate {A = ℕ} n 1) j 0 ≡ 1 = get_or-replicate n j 1 0 lt in omega arith

pub least_below : (n : ℕ) (o : Prelude.Option ℕ) → IfSome o (λ r. r < n) → unwrap_or o n ≤ n
least_below n None lt = omega arith
least_below n (Some r) lt = omega arith

module _ (ms leads : List ℕ) (n : ℕ) where
  pub least_some : (o : Prelude.Option ℕ) → found o ≡ first_lowest ms leads n → ((j : ℕ) → j < n → get_or ms j 0 ≡ 0 → ⊥) → 0 < n
      → some (unwrap_or o n) ≡ first_lowest ms leads n
  least_some None is marked lt = absurd (marked 0 lt (none_marked ms leads n (sym is) 0 lt))
  least_some (Some r) is marked lt = is

  module _ (es : List (Line ℕ)) (size : length es ≡ n) (led : LeadsOf leads es) where
    least_scan : (o : Option ℕ) → o ≡ first_lowest ms leads n → ((j : ℕ) → j < n → get_or ms j 0 ≡ 0 → ⊥)
        → Option.map (λ (j : ℕ). get_or es j blank) o ≡ least es
    unfolding least
    least_scan o is marked =
        scanned blank (λ (e : Line ℕ). e.lead) {P = λ (e : Line ℕ). ⊥} (λ e. no (λ h. h)) es ms leads n o size is
        (λ j lt. (led j (omega arith), λ h. absurd h, marked j lt))

    pub least_line : (o : Prelude.Option ℕ) → found o ≡ first_lowest ms leads n → IfSome o (λ r. r < n)
        → ((j : ℕ) → j < n → get_or ms j 0 ≡ 0 → ⊥) → get_elem? es (unwrap_or o n) ≡ least es
    least_line None is lt marked = line_none blank es n (omega arith) ∙ least_scan none is marked
    least_line (Some r) is lt marked = line_some blank es r (omega arith) ∙ least_scan (some r) is marked

    another_scan : (o : Option ℕ) → o ≡ first_lowest ms leads n → (m : ℕ)
        → ((j : ℕ) → j < n → Marks (get_or leads j 0) m (get_or ms j 0))
        → Option.map (λ (j : ℕ). get_or es j blank) o ≡ another m es
    unfolding another
    another_scan o is m marked =
        scanned blank (λ (e : Line ℕ). e.lead) {P = λ (e : Line ℕ). e.lead ≡ m} (λ e. ℕ_discrete e.lead m) es ms leads n o size is
        (λ j lt. (led j (omega arith), λ h. (marked j lt).0 (led j (omega arith) ∙ h), λ h. sym (led j (omega arith)) ∙ (marked j lt).1 h))

    pub another_line : (o : Prelude.Option ℕ) → found o ≡ first_lowest ms leads n → IfSome o (λ r. r < n) → (m : ℕ)
        → ((j : ℕ) → j < n → Marks (get_or leads j 0) m (get_or ms j 0))
        → MatchOption o (another m es ≡ none) (λ q. get_elem? es q ≡ another m es)
    another_line None is lt m marked = sym (another_scan none is m marked)
    another_line (Some q) is lt m marked = line_some blank es q (omega arith) ∙ another_scan (some q) is m marked
