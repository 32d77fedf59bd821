-- What is known at a condition before a step: the values there, and the pivot.
--
--   value_at       slot i of a line has its value at the condition at hand
--   pivot_line     the number that the scan finds is the number of the pivot; where it finds none, there is none
--   pivot_found    the pivot is a line of the table
--   pivot_lowest   no line with a nonzero value has a lower lead
--   Ready, ready   the values are symbols, the pivot's is not zero, and its lead and width are small
--   raisable       what raising it asks: its slots have symbols, and nothing behind the locator
--   all_get        what holds of all lines, of the line with a number
--   heads_at       the values as the code reads them
-- Assumes nothing.
use mathlib.Core.Path.{◌≡◌, sym, ap, ◌∙◌}
use mathlib.Core.List.{List, [], ◌∷◌}
use mathlib.Core.Option
use mathlib.Core.Option.{Option, none, some}
use mathlib.Core.Bool.{false}
use Prim.Native.Nat.{ℕ, zero, suc, ◌+◌, ◌-◌, ◌*◌, ◌/◌, ◌^◌, ◌≤◌, ◌<◌}
use native.Mathlib.Nat.{add-zero, zero-add, add-mul, mul-le-mul, div-lt_iff_lt-mul, lt-div-mul-add}
use native.Mathlib.Decide.{ℕ_discrete, dec_lt}
use native.Mathlib.Omega.{arith}
use lib.ListN.{length, get_or, get_or-append, get_or-eq_default}
use lib.Pow.{pow_pos}
use Rattle.patch.specs.Patch.{patch}
use Rattle.patch.proofs.Laws.{get_or-patch}
use Rattle.refusal.specs.Refusal.{bad_degree}
use Rattle.field.specs.Symbols.{IsSymbol}
use Rattle.field.specs.Arithmetic.{gf}
use Rattle.lists.specs.Working.Lists.{SymbolsAt}
use Rattle.field.proofs.Instance.{field}
use Rattle.poly.specs.Poly.{All}
use Rattle.basis.proofs.Scan.{lowest, all_left, all_each, found_lowest}
use Rattle.basis.proofs.Lines.{Line, now}
use Rattle.basis.proofs.Vector.{at_in}
use Rattle.basis.proofs.Scan
use Rattle.solver.specs.Working.Slots.{slots}
use Rattle.solver.specs.Working.Held.{blank, Held, HoldsLines}
use Rattle.solver.specs.Working.Scan.{first_lowest}
use Rattle.solver.specs.Working.Turns.{Raisable}
use Rattle.solver.proofs.Slots.{slots_length, slots_at}
use Rattle.solver.proofs.Scanned.{scanned}
use Rattle.solver.proofs.Kept.{after, slot_next, symbols_next, beyond}

pub all_get : {L : Type 0} (P : L → Type 0) (l : List L) (z : L) (j : ℕ) → j < length l → All P l → P (get_or l j z)
all_get P [] z j lt a = absurd (omega arith)
all_get P (e ∷ l) z zero lt a = a.0
all_get P (e ∷ l) z (suc j) lt a = all_get P l z j (omega arith) a.1

not_above : (a b : ℕ) → (a < b → ⊥) → b ≤ a
not_above a b h = go (dec_lt a b)
  where
    go : Dec (a < b) → b ≤ a
    go (yes lt) = absurd (h lt)
    go (no ge) = omega arith

-- what the functions of a step ask of the values, and of the lead of the pivot r
pub record Ready (d s i : ℕ) (leads ds : List ℕ) (r : ℕ) : Type 0 where
  pub values : SymbolsAt d ds 0 s
  pub nonzero : get_or ds r 0 ≡ 0 → ⊥
  pub small : get_or leads r 0 < 1900
  pub above : get_or leads r 0 < (get_or leads r 0 / s + 1) * s
  pub within : get_or leads r 0 / s + 1 ≤ i + 1

-- what the loop that reads the values leaves
pub heads_at : (space : List ℕ) (i n : ℕ) (l : List ℕ) {ds : List ℕ} → n ≤ length l → ds ≡ patch 0 n (λ j. get_or space (768 * j + i) 0) l
    → (j : ℕ) → j < n → get_or ds j 0 ≡ get_or space (768 * j + i) 0
heads_at space i n l {ds} fits is j lt =
    ap (λ (k : ℕ). get_or ds k 0) (sym (zero-add j)) ∙ rw is (get_or-patch 0 _ l n j 0 lt (omega arith))

module _ (d C s i : ℕ) (next : i < C) (small : C ≤ 380) {leads space : List ℕ} {es : List (Line ℕ)}
    (h : HoldsLines d C s i leads space es) where
  pub value_at : (j : ℕ) → j < s → get_or space (768 * j + i) 0 ≡ now (gf d) (get_or es j blank)
  value_at j lt =
      let e : Line ℕ = get_or es j blank in
      let held : Held d C s i (slots j space) (get_or leads j 0) e = h.each j lt in
      sym (slots_at j space i (omega arith)) ∙ rw (add-zero i) at (held.stored 0 (omega arith))
      ∙ get_or-append e.values e.locator 0 0 (omega (arith, held.count))

  value_in : bad_degree d ≡ false → (j : ℕ) → j < s → IsSymbol d (now (gf d) (get_or es j blank))
  value_in good j lt =
      let e : Line ℕ = get_or es j blank in
      at_in (gf d) (field d good) e.values (all_left (IsSymbol d) e.values e.locator (h.each j lt).symbols) 0

  module _ (ds : List ℕ) (heads : (j : ℕ) → j < s → get_or ds j 0 ≡ get_or space (768 * j + i) 0) where
    pub pivot_line : (o : Option ℕ) → o ≡ first_lowest ds leads s
        → Option.map (λ (j : ℕ). get_or es j blank) o ≡ lowest (λ (e : Line ℕ). e.lead) (λ (e : Line ℕ). ℕ_discrete (now (gf d) e) 0) none es
    pivot_line o is =
        scanned blank (λ (e : Line ℕ). e.lead) (λ (e : Line ℕ). ℕ_discrete (now (gf d) e) 0) es ds leads s o h.count is
        (λ j lt. ((h.each j lt).lead, λ z. heads j lt ∙ value_at j lt ∙ z, λ z. sym (value_at j lt) ∙ sym (heads j lt) ∙ z))

    module _ (r : ℕ) (is : some r ≡ first_lowest ds leads s) (lt : r < s) where
      abbrev pivot : Line ℕ
      pivot = get_or es r blank

      pub pivot_found : lowest (λ (e : Line ℕ). e.lead) (λ (e : Line ℕ). ℕ_discrete (now (gf d) e) 0) none es ≡ some pivot
      pivot_found = sym (pivot_line (some r) is)

      pub pivot_lowest : (j : ℕ) → j < s → (now (gf d) (get_or es j blank) ≡ 0 → ⊥) → pivot.lead ≤ (get_or es j blank).lead
      pivot_lowest j below value =
          let not_lower = all_get _ es blank j (omega (arith, h.count)) (found_lowest _ _ _ es pivot pivot_found) in
          not_above (get_or es j blank).lead pivot.lead (λ lower. value (not_lower lower))

      pivot_value : get_or ds r 0 ≡ 0 → ⊥
      pivot_value z =
          (Scan.found _ _ _ es (λ (e : Line ℕ). Unit {0}) (all_each _ (λ e. tt) es) pivot pivot_found).1
          (sym (value_at r lt) ∙ sym (heads r lt) ∙ z)

      -- what the functions of a step ask
      pub ready : bad_degree d ≡ false → 0 < s → s ≤ 5 → Ready d s i leads ds r
      ready good positive few =
          let low : get_or leads r 0 < (i + 1) * s = rw (h.each r lt).lead (h.each r lt).low in
          record {
            values = λ j below. rw (zero-add j, heads j below, value_at j below) (value_in good j below);
            nonzero = pivot_value;
            small = omega (arith, mul-le-mul {n₁ = i + 1} {n₂ = 380} (omega arith) few);
            above = omega (arith, lt-div-mul-add {a = get_or leads r 0} positive, add-mul (get_or leads r 0 / s) 1 s);
            within = omega (arith, (div-lt_iff_lt-mul {x = get_or leads r 0} {y = i + 1} positive).1 low);
          }

      -- what raising it asks
      pub raisable : bad_degree d ≡ false → (width : ℕ) → get_or leads r 0 < width * s → width ≤ i + 1 → 768 * r + 768 ≤ length space
          → Raisable d (C - (i + 1)) width r (i + 1) space
      raisable good width wide narrow line =
          let held = h.each r lt in
          let low : pivot.lead < width * s = rw held.lead at wide in
          let size : length (slots r space) ≡ 768 = slots_length r space line in
          record {
            within = omega arith;
            line = line;
            symbols = λ k. in-slot size k (dec_lt (i + 1 + k) 768);
            behind = λ n above. let e : i + 1 + (C - (i + 1)) + n ≡ i + 1 + (C - (i + 1) + n) = omega arith in
                rw e (no_slot size low (C - (i + 1) + n) (omega arith) (dec_lt (i + 1 + (C - (i + 1) + n)) 768));
          }
        where
          in-slot : length (slots r space) ≡ 768 → (k : ℕ) → Dec (i + 1 + k < 768) → get_or (slots r space) (i + 1 + k) 0 < 2 ^ d
          in-slot size k (yes b) =
              rw (slot_next d C s i next (h.each r lt) k b)
              (at_in (gf d) (field d good) (after pivot) (symbols_next d C s i next (h.each r lt)) k)
          in-slot size k (no b) = rw (get_or-eq_default (slots r space) 0 {n = i + 1 + k} (omega arith)) (pow_pos d)

          no_slot : length (slots r space) ≡ 768 → pivot.lead < width * s → (k : ℕ) → C + width ≤ i + 1 + k → Dec (i + 1 + k < 768)
              → get_or (slots r space) (i + 1 + k) 0 ≡ 0
          no_slot size low k above (yes b) = slot_next d C s i next (h.each r lt) k b
              ∙ beyond d C s i next (h.each r lt) width k low above
          no_slot size low k above (no b) = get_or-eq_default (slots r space) 0 {n = i + 1 + k} (omega arith)
