-- What the memory holds of the solver's lines: of C conditions the first i are met, and there are s lines.
--
--   live e            what is kept of a line: its values at the conditions still to come, then its locator
--   blank             a line with nothing on it
--   LeadsOf leads es  these are the leads of the lines
--   Held …  l m e     the slots l and the lead m are those of line e: slot i has the value at the next condition, the locator
--                     begins at slot C, and zeros follow. All are symbols; the lead is below (i + 1)·s, and the place k·s of
--                     coefficient k is not above it, unless the coefficient is zero
--   HoldsLines … leads space es    the memory holds the lines es, and their leads are apart
use Rattle.std.specs.Prelude.{◌≡◌, List, [], ◌++◌, ℕ, ◌+◌, ◌*◌, ◌≤◌, ◌<◌, length, get_or}
use Rattle.field.specs.Symbols.{IsSymbol}
use Rattle.poly.specs.Poly.{All}
use Rattle.basis.proofs.Lines.{Line, Apart}
use Rattle.solver.specs.Working.Slots.{line_slots, slots}

abbrev pub live : Line ℕ → List ℕ
live e = e.values ++ e.locator

abbrev pub blank : Line ℕ
blank = record { lead = 0; locator = []; values = [] }

abbrev pub LeadsOf : List ℕ → List (Line ℕ) → Type 0
LeadsOf leads es = (j : ℕ) → j < length es → get_or leads j 0 ≡ (get_or es j blank).lead

pub record Held (d C s i : ℕ) (l : List ℕ) (m : ℕ) (e : Line ℕ) : Type 0 where
  pub lead : m ≡ e.lead
  pub count : i + length e.values ≡ C
  pub stored : (k : ℕ) → i + k < line_slots → get_or l (i + k) 0 ≡ get_or (live e) k 0
  pub symbols : All (IsSymbol d) (live e)
  pub low : e.lead < (i + 1) * s
  pub narrow : (k : ℕ) → e.lead < k * s → get_or e.locator k 0 ≡ 0

pub record HoldsLines (d C s i : ℕ) (leads space : List ℕ) (es : List (Line ℕ)) : Type 0 where
  pub count : length es ≡ s
  pub enough : s ≤ length leads
  pub apart : Apart s es
  pub each : (j : ℕ) → j < s → Held d C s i (slots j space) (get_or leads j 0) (get_or es j blank)
