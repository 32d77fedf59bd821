-- The factors by which a step mixes the pivot into the lines.
--
--   factors_are    the values times the pivot's inverse
--   factor_over    each is the quotient by the pivot's value
-- Assumes nothing.
use mathlib.Core.Path.{◌≡◌, sym, ap, ap₂, ◌∙◌}
use mathlib.Core.Bool.{false}
use mathlib.Core.List.{List}
use Prim.Native.Nat.{ℕ, ◌^◌, ◌<◌}
use native.Mathlib.Nat.{zero-add}
use native.Mathlib.Omega.{arith}
use lib.ListN.{length, get_or, replicate, length-replicate}
use Rattle.patch.specs.Parts.{lay}
use Rattle.patch.proofs.Laws.{get_or-patch}
use Rattle.patch.proofs.Parts.{length-lay, get_or-lay}
use Rattle.refusal.specs.Refusal.{bad_degree}
use Rattle.field.specs.Symbols.{times, over}
use Rattle.field.specs.Arithmetic.{gf}
use Rattle.field.proofs.Instance.{field}
use Rattle.lists.specs.Working.Lists.{scaled, scaled_at}
use Rattle.poly.proofs.Ring.{over_unique, times-over, one_times, times_comm}
use Rattle.solver.specs.Working.Turns.{Factors}

pub factors_are : (d : ℕ) (ds : List ℕ) (p c : ℕ) {s t : List ℕ} → length ds ≡ 5 → s ≡ lay 0 ds (replicate 16 0)
    → c ≡ over d 1 (get_or ds p 0)
    → t ≡ scaled_at d c s 0 16 → Factors d ds p t
unfolding scaled
factors_are d ds p c {s} {t} five held is scale j h =
    let zeros : length (replicate {A = ℕ} 16 0) ≡ 16 = length-replicate {A = ℕ} 16 0 in
    let long : length s ≡ 16 = ap length held ∙ length-lay 0 ds (replicate 16 0) ∙ zeros in
    let stood : get_or s j 0 ≡ get_or ds j 0 = rw held (rw zero-add at (get_or-lay 0 ds (replicate 16 0) j (omega arith) (omega arith))) in
    rw scale (rw zero-add at (get_or-patch 0 (scaled d c s 0) s 16 j 0 (omega arith) (omega arith))) ∙ ap₂ (times d) stood is

pub factor_over : (d : ℕ) → bad_degree d ≡ false → {a b : ℕ} → a < 2 ^ d → b < 2 ^ d → (b ≡ 0 → ⊥) → times d a (over d 1 b) ≡ over d a b
factor_over d good {a} {b} ha hb n =
    let 𝓕 = field d good in
    times_comm (gf d) 𝓕 a (over d 1 b)
    ∙ sym (over_unique (gf d) 𝓕 ha hb (𝓕.times_in (over d 1 b) a) n (times-over (gf d) 𝓕 a 𝓕.one_in hb n ∙ one_times (gf d) 𝓕 ha))
