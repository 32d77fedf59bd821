-- One line over a condition: what its slots hold of it afterwards, where it stays as it is, and where a multiple of the pivot is added.
--
--   slot_next     the slots behind the condition at hand hold the later values, and the locator
--   beyond        behind a width above the lead there is nothing
--   held_keep     a line that stays as it is
--   held_mix      a line to which a multiple of the pivot is added
-- Assumes nothing.
use mathlib.Core.Path.{◌≡◌, sym, ap, ◌∙◌}
use mathlib.Core.List.{List, ◌++◌}
use mathlib.Core.Bool.{false}
use Prim.Native.Nat.{ℕ, suc, ◌+◌, ◌-◌, ◌*◌, ◌≤◌, ◌<◌}
use native.Mathlib.Nat.{add-mul, mul-le-mul_right}
use native.Mathlib.Decide.{dec_lt}
use native.Mathlib.Omega.{arith}
use lib.ListN.{length, get_or, get_or-eq_default}
use Rattle.patch.specs.Patch.{patch}
use Rattle.patch.proofs.Laws.{get_or-patch, get_or-patch_above}
use Rattle.refusal.specs.Refusal.{bad_degree}
use Rattle.field.specs.Symbols.{IsSymbol, plus, times}
use Rattle.field.specs.Arithmetic.{gf}
use Rattle.lists.specs.Working.Lists.{added}
use Rattle.field.proofs.Instance.{field}
use Rattle.poly.specs.Poly.{All}
use Rattle.poly.proofs.Ring.{plus-zero, times_zero, times_comm}
use Rattle.basis.proofs.Vector.{mix, at_mix, mix_in}
use Rattle.basis.proofs.Lines.{Line, later, keep}
use Rattle.solver.specs.Working.Held.{Held}
use Rattle.solver.proofs.Live.{behind, later_at, later_length, later_all, mix_append, mix_length}

-- what is kept of a line behind the condition at hand
abbrev pub after : Line ℕ → List ℕ
after e = later e.values ++ e.locator

module _ (d C s i : ℕ) (next : i < C) {l : List ℕ} {m : ℕ} {e : Line ℕ} (h : Held d C s i l m e) where
  values_left : 0 < length e.values
  values_left = omega (arith, h.count)

  pub count_next : i + 1 + length (later e.values) ≡ C
  count_next = omega (arith, h.count, later_length e.values values_left)

  pub slot_next : (k : ℕ) → i + 1 + k < 768 → get_or l (i + 1 + k) 0 ≡ get_or (after e) k 0
  slot_next k lt =
      let same : i + 1 + k ≡ i + suc k = omega arith in
      rw same (h.stored (suc k) (omega arith)) ∙ sym (later_at 0 e.values e.locator values_left k)

  low_next : e.lead < (i + 1 + 1) * s
  low_next = omega (arith, h.low, add-mul (i + 1) 1 s)

  pub symbols_next : All (IsSymbol d) (after e)
  symbols_next = later_all (IsSymbol d) e.values e.locator values_left h.symbols

  pub held_keep : Held d C s (i + 1) l m (keep e)
  unfolding keep
  held_keep =
      record {
        lead = h.lead;
        count = count_next;
        stored = slot_next;
        symbols = symbols_next;
        low = low_next;
        narrow = h.narrow;
      }

  -- behind a width above the lead there is nothing
  pub beyond : (width k : ℕ) → e.lead < width * s → C + width ≤ i + 1 + k → get_or (after e) k 0 ≡ 0
  beyond width k wide le =
      let n : ℕ = k - length (later e.values) in
      let high : width ≤ n = omega (arith, count_next) in
      behind 0 (later e.values) e.locator n k (omega (arith, count_next)) ∙ h.narrow n (omega (arith, mul-le-mul_right s high))

-- what a multiple added to a list makes of each place behind the start
added_at : (d : ℕ) → bad_degree d ≡ false → (c : ℕ) (w l : List ℕ) (at k : ℕ) → at + length w ≤ length l
    → get_or (patch at (length w) (added d c w l at) l) (at + k) 0 ≡ plus (get_or l (at + k) 0) (times d c (get_or w k 0))
unfolding added
added_at d good c w l at k fits = go (dec_lt k (length w))
  where
    turned : plus (get_or l (at + k) 0) (times d (get_or w k 0) c) ≡ plus (get_or l (at + k) 0) (times d c (get_or w k 0))
    turned = ap (plus (get_or l (at + k) 0)) (times_comm (gf d) (field d good) (get_or w k 0) c)

    go : Dec (k < length w) → get_or (patch at (length w) (added d c w l at) l) (at + k) 0 ≡ plus (get_or l (at + k) 0) (times d c (get_or w k 0))
    go (yes h) = get_or-patch at (added d c w l at) l (length w) k 0 h fits ∙ turned
    go (no h) =
        get_or-patch_above at (added d c w l at) l (length w) (at + k) 0 (omega arith)
        ∙ rw (get_or-eq_default w 0 {n = k} (omega arith), times_zero (gf d) (field d good) c) (sym (plus-zero (gf d) (field d good) _))

module _ (d : ℕ) (good : bad_degree d ≡ false) (C s i : ℕ) (next : i < C) {l l₀ : List ℕ} {m m₀ : ℕ} {e p : Line ℕ}
    (h : Held d C s i l m e) (hp : Held d C s i l₀ m₀ p)
  where
    pub held_mix : (c : ℕ) (w : List ℕ) → length l ≡ 768 → i + 1 + length w ≤ 768 → p.lead ≤ e.lead
        → ((k : ℕ) → get_or w k 0 ≡ get_or (after p) k 0)
        → Held d C s (i + 1) (patch (i + 1) (length w) (added d c w l (i + 1)) l) m
        (record {
          lead = e.lead;
          locator = mix (gf d) c e.locator p.locator;
          values = mix (gf d) c (later e.values) (later p.values);
        })
    held_mix c w size fits above copied =
        record {
          lead = h.lead;
          count = rw (mix_length (gf d) c (later e.values) (later p.values) lengths) (count_next d C s i next h);
          stored = λ k lt. added_at d good c w l (i + 1) k (omega arith) ∙ rw (slot_next d C s i next h k lt, copied k) (sym (live_at k));
          symbols = rw joined (mix_in (gf d) (field d good) c (after e) (after p) (symbols_next d C s i next h));
          low = low_next d C s i next h;
          narrow = narrow;
        }
      where
        lengths : length (later e.values) ≡ length (later p.values)
        lengths = omega (arith, count_next d C s i next h, count_next d C s i next hp)

        joined : mix (gf d) c (later e.values) (later p.values) ++ mix (gf d) c e.locator p.locator
            ≡ mix (gf d) c (after e) (after p)
        joined = mix_append (gf d) c (later e.values) (later p.values) e.locator p.locator lengths

        live_at : (k : ℕ) → get_or (mix (gf d) c (later e.values) (later p.values) ++ mix (gf d) c e.locator p.locator) k 0
            ≡ plus (get_or (after e) k 0) (times d c (get_or (after p) k 0))
        live_at k = rw joined (at_mix (gf d) (field d good) c (after e) (after p) k)

        narrow : (k : ℕ) → e.lead < k * s → get_or (mix (gf d) c e.locator p.locator) k 0 ≡ 0
        narrow k lt =
            at_mix (gf d) (field d good) c e.locator p.locator k
            ∙ rw (h.narrow k lt, hp.narrow k (omega arith), times_zero (gf d) (field d good) c) (plus-zero (gf d) (field d good) 0)
