-- The pivot over a condition: its later values and its locator are multiplied by (X + x), x being the condition's point.
--
--   held_raise    what its slots hold of it afterwards
-- Assumes nothing.
use mathlib.Core.Path.{◌≡◌, refl, sym, ap, ap₂, ◌∙◌}
use mathlib.Core.List.{List, ◌∷◌, ◌++◌}
use mathlib.Core.Bool.{false}
use Prim.Native.Nat.{ℕ, zero, suc, ◌+◌, ◌-◌, ◌*◌, ◌≤◌, ◌<◌}
use native.Mathlib.Nat.{add-mul, suc-mul, zero-mul, mul-le-mul_right}
use native.Mathlib.Decide.{dec_lt}
use native.Mathlib.Omega.{arith}
use lib.ListN.{length, get_or, get_or-append, get_or-eq_default}
use Rattle.patch.specs.Parts.{part, lay}
use Rattle.patch.proofs.Laws.{length-patch, get_or-patch, get_or-patch_above}
use Rattle.patch.proofs.Parts.{length_part, get_d_part, get_or-lay, get_or-lay_below, get_or-lay_above}
use Rattle.refusal.specs.Refusal.{bad_degree}
use Rattle.field.specs.Symbols.{IsSymbol, plus, times}
use Rattle.field.specs.Arithmetic.{gf}
use Rattle.lists.specs.Working.Lists.{multiplied}
use Rattle.field.proofs.Instance.{field}
use Rattle.poly.proofs.Ring.{plus-zero, times_zero}
use Rattle.poly.proofs.Forms.{lin}
use Rattle.poly.proofs.Division.{length_lin}
use Rattle.basis.proofs.Vector.{mix, at_mix, mix_in}
use Rattle.basis.proofs.Lines.{Line, later, lifted}
use Rattle.basis.proofs.Scan.{all_append, all_right}
use Rattle.solver.specs.Working.Held.{Held}
use Rattle.solver.specs.Working.Turns.{valued, located, raised}
use Rattle.solver.proofs.Live.{behind, lin_mix, lifted_at, lifted_length, lifted_in}
use Rattle.solver.proofs.Kept.{count_next, slot_next, symbols_next}

module _ (d : ℕ) (good : bad_degree d ≡ false) (C s i : ℕ) (next : i < C) {l : List ℕ} {m : ℕ} {p : Line ℕ} (h : Held d C s i l m p)
    (xs : List ℕ) (x width : ℕ) (left : i + 1 + length xs ≡ C) (size : length l ≡ 768) (wide : p.lead < width * s) (fits : C + width < 768)
  where
    -- the slots with the new values, the coefficients that are multiplied, and what comes of values and locator
    abbrev new : List ℕ
    new = valued d xs x (i + 1) l

    abbrev taken : List ℕ
    taken = part C width new

    abbrev lifts : List ℕ
    lifts = lifted (gf d) x xs (later p.values)

    abbrev product : List ℕ
    product = mix (gf d) x (0 ∷ p.locator) p.locator

    lengths : length xs ≡ length (later p.values)
    lengths = omega (arith, count_next d C s i next h)

    valued_long : length new ≡ 768
    unfolding valued
    valued_long = length-patch (i + 1) _ l (length xs) ∙ size

    -- the values
    value_at : (k : ℕ) → k < length xs → get_or new (i + 1 + k) 0 ≡ get_or lifts k 0
    unfolding valued multiplied
    value_at k lt =
        get_or-patch (i + 1) _ l (length xs) k 0 lt (omega arith)
        ∙ ap (times d (plus (get_or xs k 0) x))
        (plus-zero (gf d) (field d good) _ ∙ slot_next d C s i next h k (omega arith)
        ∙ get_or-append (later p.values) p.locator 0 k (omega (arith, lengths)))
        ∙ sym (lifted_at (gf d) x xs (later p.values) lengths k lt)

    -- the locator, before it is multiplied
    locator_at : (n : ℕ) → C + n < 768 → get_or new (C + n) 0 ≡ get_or p.locator n 0
    unfolding valued
    locator_at n lt =
        let place : C + n ≡ i + 1 + (length xs + n) = omega arith in
        get_or-patch_above (i + 1) _ l (length xs) (C + n) 0 (omega arith)
        ∙ ap (λ (k : ℕ). get_or l k 0) place ∙ slot_next d C s i next h (length xs + n) (omega arith)
        ∙ behind 0 (later p.values) p.locator n (length xs + n) (omega (arith, lengths))

    -- the coefficients that are multiplied are all of the locator
    taken_at : (n : ℕ) → get_or taken n 0 ≡ get_or p.locator n 0
    taken_at n = go (dec_lt n width)
      where
        go : Dec (n < width) → get_or taken n 0 ≡ get_or p.locator n 0
        go (yes lt) = get_d_part C width new n lt ∙ locator_at n (omega arith)
        go (no ge) =
            let long : length taken ≡ width = length_part C width _ (omega (arith, valued_long)) in
            let high : width ≤ n = omega arith in
            get_or-eq_default taken 0 (omega arith) ∙ sym (h.narrow n (omega (arith, mul-le-mul_right s high)))

    product_at : (n : ℕ) → get_or (lin (gf d) x 0 taken) n 0 ≡ get_or product n 0
    product_at n =
        ap (λ (v : List ℕ). get_or v n 0) (lin_mix (gf d) x 0 taken) ∙ at_mix (gf d) (field d good) x (0 ∷ taken) taken n
        ∙ ap₂ (λ (a b : ℕ). plus a (times d x b)) (first n) (taken_at n)
        ∙ sym (at_mix (gf d) (field d good) x (0 ∷ p.locator) p.locator n)
      where
        first : (n : ℕ) → get_or (0 ∷ taken) n 0 ≡ get_or (0 ∷ p.locator) n 0
        first zero = refl
        first (suc n) = taken_at n

    -- the locator, multiplied
    located_at : (n : ℕ) → C + n < 768 → get_or (located d x C width new) (C + n) 0 ≡ get_or product n 0
    unfolding located
    located_at n lt = go (dec_lt n (suc width)) ∙ product_at n
      where
        long : length (lin (gf d) x 0 taken) ≡ suc width
        long = length_lin (gf d) (field d good) x 0 taken ∙ ap suc (length_part C width _ (omega (arith, valued_long)))

        go : Dec (n < suc width) → get_or (lay C (lin (gf d) x 0 taken) new) (C + n) 0 ≡ get_or (lin (gf d) x 0 taken) n 0
        go (yes lt) = get_or-lay C (lin (gf d) x 0 taken) new n (omega (arith, long)) (omega (arith, long, valued_long))
        go (no ge) =
            let high : width ≤ n = omega arith in
            get_or-lay_above C (lin (gf d) x 0 taken) new (C + n) (omega (arith, long))
            ∙ locator_at n lt ∙ h.narrow n (omega (arith, mul-le-mul_right s high))
            ∙ sym (get_or-eq_default (lin (gf d) x 0 taken) 0 (omega (arith, long)))

    stored_at : (k : ℕ) → i + 1 + k < 768
        → get_or (raised d xs x (i + 1) width l) (i + 1 + k) 0
        ≡ get_or (lifts ++ product) k 0
    unfolding raised located
    stored_at k lt = rw left (go (dec_lt k (length xs)))
      where
        long : length lifts ≡ length xs
        long = lifted_length (gf d) x xs (later p.values) lengths ∙ sym lengths

        go : Dec (k < length xs) → get_or (located d x C width new) (i + 1 + k) 0
            ≡ get_or (lifts ++ product) k 0
        go (yes lt) =
            get_or-lay_below C _ new (i + 1 + k) (omega arith) ∙ value_at k lt
            ∙ sym (get_or-append lifts _ 0 k (omega (arith, long)))
        go (no ge) =
            let n : ℕ = k - length xs in
            let place : i + 1 + k ≡ C + n = omega arith in
            ap (λ (j : ℕ). get_or (located d x C width new) j 0) place
            ∙ located_at n (omega arith) ∙ sym (behind 0 lifts _ n k (omega (arith, long)))

    narrow_next : (n : ℕ) → s + p.lead < n * s → get_or product n 0 ≡ 0
    narrow_next zero lt = absurd (omega (arith, zero-mul s))
    narrow_next (suc n) lt =
        let below : p.lead < n * s = omega (arith, suc-mul n s) in
        at_mix (gf d) (field d good) x (0 ∷ p.locator) p.locator (suc n)
        ∙ rw (h.narrow n below, h.narrow (suc n) (omega (arith, suc-mul n s)), times_zero (gf d) (field d good) x)
        (plus-zero (gf d) (field d good) 0)

    pub held_raise : Held d C s (i + 1) (raised d xs x (i + 1) width l) (m + s)
        (record {
          lead = s + p.lead;
          locator = mix (gf d) x (0 ∷ p.locator) p.locator;
          values = lifted (gf d) x xs (later p.values);
        })
    held_raise =
        record {
          lead = omega (arith, h.lead);
          count = rw (lifted_length (gf d) x xs (later p.values) lengths) (count_next d C s i next h);
          stored = stored_at;
          symbols =
              all_append (IsSymbol d) lifts product (lifted_in (gf d) (field d good) x xs (later p.values))
              (mix_in (gf d) (field d good) x (0 ∷ p.locator) p.locator
              ((field d good).zero_in, all_right (IsSymbol d) (later p.values) p.locator (symbols_next d C s i next h)));
          low = omega (arith, h.low, add-mul (i + 1) 1 s);
          narrow = narrow_next;
        }
