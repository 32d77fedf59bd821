-- For the crates above: what they read off the memory that holds lines.
--
--   holds_leads      the leads are those of the lines
--   numbered         a number that names a line is below the number of lines, and names that line
--   locator_held     behind the last condition, the locator of size t on a line lies from slot C of the line on
-- Assumes nothing.
use mathlib.Core.Path.{◌≡◌, sym, ap, ◌∙◌}
use mathlib.Core.List.{List}
use mathlib.Core.Option.{some}
use Prim.Native.Nat.{ℕ, suc, ◌+◌, ◌*◌, ◌≤◌, ◌<◌}
use native.Mathlib.Numerals.{add-one}
use native.Mathlib.Decide.{dec_lt}
use native.Mathlib.Omega.{arith}
use lib.ListN.{length, get_or, get_elem?}
use lib.Seq.{ext_get_or}
use Rattle.patch.specs.Parts.{part}
use Rattle.patch.proofs.Parts.{length_part, get_d_part}
use Rattle.field.specs.Arithmetic.{gf}
use Rattle.basis.proofs.Lines.{Line, locator_of_lem, cut-length, cut_at}
use Rattle.solver.specs.Working.Slots.{slots}
use Rattle.solver.specs.Working.Held.{blank, LeadsOf, Held, HoldsLines}
use Rattle.solver.proofs.Slots.{part-slots}
use Rattle.solver.proofs.Scanned.{line_some, line_none}
use Rattle.solver.proofs.Live.{behind}

module _ {d C s i : ℕ} {leads space : List ℕ} {es : List (Line ℕ)} (h : HoldsLines d C s i leads space es) where
  pub holds_leads : LeadsOf leads es
  holds_leads j lt = (h.each j (omega (arith, h.count))).lead

pub numbered : (es : List (Line ℕ)) (r : ℕ) (g : Line ℕ) → get_elem? es r ≡ some g → (r < length es) × (get_or es r blank ≡ g)
numbered es r g e = go (dec_lt r (length es))
  where
    go : Dec (r < length es) → (r < length es) × (get_or es r blank ≡ g)
    go (yes lt) =
        let found = sym (line_some blank es r lt) ∙ e in
        (lt, cc)
    go (no ge) =
        let missing = sym (line_none blank es r (omega arith)) ∙ e in
        let z : ◌≡◌ {A = ℕ} 0 1 = cc in
        absurd (omega arith)

pub locator_held : (d C s : ℕ) {leads space : List ℕ} {es : List (Line ℕ)} → HoldsLines d C s C leads space es → (j t : ℕ)
    → j < s → C + t < 768 → 768 * j + 768 ≤ length space
    → part (768 * j + C) (t + 1) space ≡ locator_of_lem (gf d) t (get_or es j blank)
locator_held d C s {leads} {space} {es} h j t lt short room =
    let e : Line ℕ = get_or es j blank in
    let held : Held d C s C (slots j space) (get_or leads j 0) e = h.each j lt in
    let long : length (part (768 * j + C) (t + 1) space) ≡ suc t = length_part (768 * j + C) (t + 1) space (omega arith) ∙ add-one t in
    ext_get_or 0 _ _ (long ∙ sym (cut-length (gf d) (suc t) e.locator))
    (λ k below. ap (λ (l : List ℕ). get_or l k 0) (part-slots j C (t + 1) space (omega arith) room)
    ∙ get_d_part C (t + 1) (slots j space) k (omega arith) ∙ held.stored k (omega arith)
    ∙ behind 0 e.values e.locator k k (omega (arith, held.count)) ∙ sym (cut_at (gf d) (suc t) e.locator k (omega arith)))
