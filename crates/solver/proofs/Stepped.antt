-- All lines over a condition: what the memory holds after a step.
--
--   map_get        what a function makes of the line with a number
--   step-none      where no value is nonzero the memory stays, and holds the next lines
--   step-some      where the lines are mixed with the pivot, and the pivot is raised, it holds the next lines
-- Assumes nothing.
use mathlib.Core.Path.{◌≡◌, refl, sym, ◌∙◌}
use mathlib.Core.List.{List, [], ◌∷◌, map}
use mathlib.Core.Option.{none, some}
use mathlib.Core.Bool.{false}
use Prim.Native.Nat.{ℕ, zero, suc, ◌+◌, ◌-◌, ◌*◌, ◌≤◌, ◌<◌}
use native.Mathlib.Decide.{ℕ_discrete, dec_lt}
use native.Mathlib.Omega.{arith}
use lib.ListN.{length, drop, length-drop, get_or, set, length-set, length-map, get_or-eq_default}
use lib.Seq.{get_or-set_same, get_or-set_other}
use Rattle.patch.specs.Parts.{part}
use Rattle.patch.proofs.Parts.{length_part, get_d_part}
use Rattle.refusal.specs.Refusal.{bad_degree}
use Rattle.field.specs.Symbols.{over}
use Rattle.field.specs.Arithmetic.{gf}
use Rattle.basis.proofs.Vector.{mix}
use Rattle.basis.proofs.Scan.{lowest}
use Rattle.basis.proofs.Lines.{Line, later, lifted, keep, now, fix_by, fix, step_by, step, step_apart, apart_leads}
use Rattle.solver.specs.Working.Slots.{slots}
use Rattle.solver.specs.Working.Held.{blank, Held, HoldsLines}
use Rattle.solver.specs.Working.Scan.{first_lowest}
use Rattle.solver.specs.Working.Turns.{Turned}
use Rattle.solver.proofs.Slots.{slots_length}
use Rattle.solver.proofs.Pivoted.{value_at, pivot_line, pivot_found, pivot_lowest}
use Rattle.solver.proofs.Mixing.{mixed_pivot, mixed-zero, mixed_other}
use Rattle.solver.proofs.Kept.{after, slot_next, beyond, held_keep, held_mix}
use Rattle.solver.proofs.Raised.{held_raise}

pub map_get : {L : Type 0} (f : L → L) (l : List L) (z : L) (j : ℕ) → j < length l → get_or (map f l) j z ≡ f (get_or l j z)
map_get f [] z j lt = absurd (omega arith)
map_get f (e ∷ l) z zero lt = refl
map_get f (e ∷ l) z (suc j) lt = map_get f l z j (omega arith)

module _ (d : ℕ) (points : List ℕ) (s i : ℕ) (next : i < length points) (small : length points ≤ 380)
    {leads space : List ℕ} {es : List (Line ℕ)} (h : HoldsLines d (length points) s i leads space es)
    (ds : List ℕ) (heads : (j : ℕ) → j < s → get_or ds j 0 ≡ get_or space (768 * j + i) 0)
  where
    abbrev C : ℕ
    C = length points

    abbrev x : ℕ
    x = get_or points i 0

    abbrev xs : List ℕ
    xs = drop (i + 1) points

    pub step-none : none ≡ first_lowest ds leads s → HoldsLines d C s (i + 1) leads space (step (gf d) ℕ_discrete s x xs es)
    unfolding step step_by
    step-none is =
        let None-found = sym (pivot_line d C s i next small h ds heads none is) in
        record {
          count = rw None-found (length-map es keep ∙ h.count);
          enough = h.enough;
          apart = step_apart (gf d) ℕ_discrete s x xs es h.apart;
          each = λ j lt. rw (None-found, map_get keep es blank j (omega (arith, h.count))) (held_keep d C s i next (h.each j lt));
        }

    module _ (r : ℕ) (is : some r ≡ first_lowest ds leads s) (lt : r < s) (room : 768 * s ≤ length space) (good : bad_degree d ≡ false)
        (width : ℕ) (wide : get_or leads r 0 < width * s) (within : width ≤ i + 1) {space₂ : List ℕ}
        (turned : Turned d points ds s i r width space space₂)
      where
        abbrev p : Line ℕ
        p = get_or es r blank

        abbrev w : List ℕ
        w = part (i + 1) (C - (i + 1) + width) (slots r space)

        abbrev leads₂ : List ℕ
        leads₂ = set leads r (get_or leads r 0 + s)

        left : i + 1 + length xs ≡ C
        left = omega (arith, length-drop (i + 1) points)

        size : (j : ℕ) → j < s → length (slots j space) ≡ 768
        size j below = slots_length j space (omega arith)

        low : p.lead < width * s
        low = rw (h.each r lt).lead at wide

        w_length : length w ≡ C - (i + 1) + width
        w_length = length_part (i + 1) _ (slots r space) (omega (arith, size r lt))

        copied_at : (k : ℕ) → get_or w k 0 ≡ get_or (after p) k 0
        copied_at k = go (dec_lt k (C - (i + 1) + width))
          where
            go : Dec (k < C - (i + 1) + width) → get_or w k 0 ≡ get_or (after p) k 0
            go (yes below) = get_d_part (i + 1) _ (slots r space) k below ∙ slot_next d C s i next (h.each r lt) k (omega arith)
            go (no above) =
                get_or-eq_default w 0 {n = k} (omega (arith, w_length))
                ∙ sym (beyond d C s i next (h.each r lt) width k low (omega arith))

        -- the pivot, a line that stays, and a line that is mixed
        the_pivot : Held d C s (i + 1) (slots r space₂) (get_or leads₂ r 0)
            (record {
              lead = s + p.lead;
              locator = mix (gf d) x (0 ∷ p.locator) p.locator;
              values =
                  lifted (gf d) x xs (later p.values);
            })
        the_pivot =
            rw (
              turned.raises.changed,
              turned.mixes.changed r lt,
              mixed_pivot d ds r w (i + 1) r (slots r space) refl,
              get_or-set_same leads r (get_or leads r 0 + s) 0 (omega (arith, h.enough)),
            )
            (held_raise d good C s i next (h.each r lt) xs x width left (size r lt) low (omega arith))

        kept : (j : ℕ) → j < s → (j ≡ r → ⊥) → now (gf d) (get_or es j blank) ≡ 0
            → Held d C s (i + 1) (slots j space₂) (get_or leads₂ j 0) (keep (get_or es j blank))
        kept j below other value =
            let gone : get_or ds j 0 ≡ 0 = heads j below ∙ value_at d C s i next small h j below ∙ value in
            rw (
              turned.raises.others j other,
              turned.mixes.changed j below,
              mixed-zero d ds r w (i + 1) j (slots j space) gone,
              get_or-set_other leads r j (get_or leads r 0 + s) 0 other,
            )
            (held_keep d C s i next (h.each j below))

        the_mixed : (j : ℕ) → j < s → (j ≡ r → ⊥) → (now (gf d) (get_or es j blank) ≡ 0 → ⊥)
            → Held d C s (i + 1) (slots j space₂) (get_or leads₂ j 0)
            (let e : Line ℕ = get_or es j blank in
            let c : ℕ = over d (now (gf d) e) (now (gf d) p) in
            record {
              lead = e.lead;
              locator = mix (gf d) c e.locator p.locator;
              values =
                  mix (gf d) c (later e.values) (later p.values);
            })
        the_mixed j below other value =
            let here : get_or ds j 0 ≡ now (gf d) (get_or es j blank) = heads j below ∙ value_at d C s i next small h j below in
            let there : get_or ds r 0 ≡ now (gf d) p = heads r lt ∙ value_at d C s i next small h r lt in
            rw (
              turned.raises.others j other,
              turned.mixes.changed j below,
              mixed_other d ds r w (i + 1) j (slots j space) other (λ z. value (sym here ∙ z)),
              get_or-set_other leads r j (get_or leads r 0 + s) 0 other,
              here,
              there,
            )
            (held_mix d good C s i next (h.each j below) (h.each r lt) _ w (size j below) (omega (arith, w_length))
            (pivot_lowest d C s i next small h ds heads r is lt j below value) copied_at)

        fixed : (j : ℕ) → j < s → (t : Dec ((get_or es j blank).lead ≡ p.lead)) (z : Dec (now (gf d) (get_or es j blank) ≡ 0))
            → Held d C s (i + 1) (slots j space₂) (get_or leads₂ j 0) (fix_by (gf d) ℕ_discrete s x xs p (get_or es j blank) t z)
        unfolding fix_by
        fixed j below (yes e) z =
            let same : j ≡ r = apart_leads s blank es h.apart j r (omega (arith, h.count)) (omega (arith, h.count)) e in
            rw same the_pivot
        fixed j below (no e) (yes z) = kept j below (λ same. e (rw same)) z
        fixed j below (no e) (no z) = the_mixed j below (λ same. e (rw same)) z

        one_found : lowest (λ (e : Line ℕ). e.lead) (λ (e : Line ℕ). ℕ_discrete (now (gf d) e) 0) none es ≡ some p
        one_found = pivot_found d C s i next small h ds heads r is lt

        pub step-some : HoldsLines d C s (i + 1) leads₂ space₂ (step (gf d) ℕ_discrete s x xs es)
        unfolding step step_by fix
        step-some =
            record {
              count = rw one_found (length-map es (fix (gf d) ℕ_discrete s x xs p) ∙ h.count);
              enough = rw length-set h.enough;
              apart = step_apart (gf d) ℕ_discrete s x xs es h.apart;
              each = λ j below. rw (one_found, map_get (fix (gf d) ℕ_discrete s x xs p) es blank j (omega (arith, h.count)))
                  (fixed j below _ _);
            }
