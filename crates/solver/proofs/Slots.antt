-- The slots of a line, when a part of one line is written.
--
--   slots_length, slots_at       how many they are, and what stands in them
--   part-slots                   a part of a line
--   only_patch                   a part of a line written is a change of that line alone
--   only_none, only_then, only_cong    no change; one change after another; what counts of a change
--   Begun j f l s                a loop that changes the lines one after the other has come to line j; begun_none, begun_more
-- Assumes nothing.
use mathlib.Core.Path.{◌≡◌, refl, sym, ap, ◌∙◌}
use mathlib.Core.List.{List}
use Prim.Native.Nat.{ℕ, ◌+◌, ◌-◌, ◌*◌, ◌≤◌, ◌<◌, min}
use native.Mathlib.Nat.{add_assoc}
use native.Mathlib.Decide.{dec_lt, ℕ_discrete}
use native.Mathlib.Omega.{arith}
use lib.ListN.{length, get_or, length-take, length-drop}
use lib.Seq.{ext_get_or}
use Rattle.patch.specs.Patch.{patch}
use Rattle.patch.specs.Parts.{part}
use Rattle.patch.proofs.Laws.{length-patch, get_or-patch, get_or-patch_below, get_or-patch_above}
use Rattle.patch.proofs.Parts.{length_part, get_d_part}
use Rattle.solver.specs.Working.Slots.{slots, Only, Each}

module _ (j : ℕ) (l : List ℕ) where
  pub slots_length : 768 * j + 768 ≤ length l → length (slots j l) ≡ 768
  unfolding slots
  slots_length = length_part (768 * j) 768 l

  pub slots_at : (k : ℕ) → k < 768 → get_or (slots j l) k 0 ≡ get_or l (768 * j + k) 0
  unfolding slots
  slots_at = get_d_part (768 * j) 768 l

  slots-count : length (slots j l) ≡ min 768 (length l - 768 * j)
  unfolding slots part
  slots-count = rw (length-take, length-drop)

-- a part of a line, read from the line's slots
pub part-slots : (j at n : ℕ) (l : List ℕ) → at + n ≤ 768 → 768 * j + 768 ≤ length l → part (768 * j + at) n l ≡ part at n (slots j l)
part-slots j at n l within fits =
    let size : length (slots j l) ≡ 768 = slots_length j l fits in
    let long : length (part (768 * j + at) n l) ≡ n = length_part (768 * j + at) n l (omega arith) in
    ext_get_or 0 _ _ (long ∙ sym (length_part at n (slots j l) (omega arith)))
    (λ k lt. get_d_part (768 * j + at) n l k (omega arith) ∙ ap (λ (x : ℕ). get_or l x 0) (add_assoc (768 * j) at k)
    ∙ sym (get_d_part at n (slots j l) k (omega arith) ∙ slots_at j l (at + k) (omega arith)))

-- lists of one length that agree on a line have the same slots there
same_slots : (j : ℕ) (l l' : List ℕ) → length l' ≡ length l → ((k : ℕ) → k < 768 → get_or l' (768 * j + k) 0 ≡ get_or l (768 * j + k) 0)
    → slots j l' ≡ slots j l
same_slots j l l' e h =
    ext_get_or 0 (slots j l') (slots j l) (slots-count j l' ∙ rw e (sym (slots-count j l)))
    (λ k lt. let within : k < 768 = omega (arith, slots-count j l') in slots_at j l' k within ∙ h k within ∙ sym (slots_at j l k within))

module _ (j at n : ℕ) (f : ℕ → ℕ) (l : List ℕ) (within : at + n ≤ 768) where
  -- the written line
  slots-patch : 768 * j + 768 ≤ length l → slots j (patch (768 * j + at) n f l) ≡ patch at n f (slots j l)
  slots-patch fits =
      let long : length (patch (768 * j + at) n f l) ≡ length l = length-patch (768 * j + at) f l n in
      let size : length (slots j l) ≡ 768 = slots_length j l fits in
      ext_get_or 0 _ _ (slots_length j _ (omega arith) ∙ sym (length-patch at f (slots j l) n ∙ size))
      (λ k lt. go k (omega (arith, slots-count j (patch (768 * j + at) n f l))) size (dec_lt k at) (dec_lt k (at + n)))
    where
      new : List ℕ
      new = patch (768 * j + at) n f l

      old : List ℕ
      old = slots j l

      go : (k : ℕ) → k < 768 → length old ≡ 768 → Dec (k < at) → Dec (k < at + n) → get_or (slots j new) k 0 ≡ get_or (patch at n f old) k 0
      go k lt size (yes h) g =
          slots_at j new k lt ∙ get_or-patch_below (768 * j + at) f l n (768 * j + k) 0 (omega arith)
          ∙ sym (slots_at j l k lt) ∙ sym (get_or-patch_below at f old n k 0 h)
      go k lt size (no h) (yes g) =
          let e : 768 * j + k ≡ 768 * j + at + (k - at) = omega arith in
          let e' : k ≡ at + (k - at) = omega arith in
          slots_at j new k lt ∙ ap (λ (x : ℕ). get_or new x 0) e ∙ get_or-patch (768 * j + at) f l n (k - at) 0 (omega arith) (omega arith)
          ∙ sym (ap (λ (x : ℕ). get_or (patch at n f old) x 0) e' ∙ get_or-patch at f old n (k - at) 0 (omega arith) (omega arith))
      go k lt size (no h) (no g) =
          slots_at j new k lt ∙ get_or-patch_above (768 * j + at) f l n (768 * j + k) 0 (omega arith)
          ∙ sym (slots_at j l k lt) ∙ sym (get_or-patch_above at f old n k 0 (omega arith))

  -- any other line
  slots_others : (i : ℕ) → (i ≡ j → ⊥) → slots i (patch (768 * j + at) n f l) ≡ slots i l
  slots_others i other =
      same_slots i l (patch (768 * j + at) n f l) (length-patch (768 * j + at) f l n) (λ k lt. go k lt (dec_lt i j))
    where
      go : (k : ℕ) → k < 768 → Dec (i < j) → get_or (patch (768 * j + at) n f l) (768 * i + k) 0 ≡ get_or l (768 * i + k) 0
      go k lt (yes h) = get_or-patch_below (768 * j + at) f l n (768 * i + k) 0 (omega arith)
      go k lt (no h) = get_or-patch_above (768 * j + at) f l n (768 * i + k) 0 (omega arith)

  pub only_patch : {s : List ℕ} → s ≡ patch (768 * j + at) n f l → 768 * j + 768 ≤ length l → Only j (patch at n f) l s
  only_patch e fits =
      record {
        long = ap length e ∙ length-patch (768 * j + at) f l n;
        changed = ap (slots j) e ∙ slots-patch fits;
        others = λ i other. ap (slots i) e ∙ slots_others i other;
      }

module _ (j : ℕ) (f g : List ℕ → List ℕ) where
  pub only_cong : (l s : List ℕ) → Only j f l s → f (slots j l) ≡ g (slots j l) → Only j g l s
  only_cong l s o e = record { long = o.long; changed = o.changed ∙ e; others = o.others }

  pub only_then : (l s t : List ℕ) → Only j f l s → Only j g s t → Only j (λ x. g (f x)) l t
  only_then l s t o o' =
      record {
        long = o'.long ∙ o.long;
        changed = o'.changed ∙ ap g o.changed;
        others = λ i other. o'.others i other ∙ o.others i other;
      }

pub only_none : (j : ℕ) (f : List ℕ → List ℕ) (l : List ℕ) → f (slots j l) ≡ slots j l → Only j f l l
only_none j f l e = record { long = refl; changed = sym e; others = λ i other. refl }

-- ---- a loop over the lines

-- of l, the lines below j are changed and the others are not
pub record Begun (j : ℕ) (f : ℕ → List ℕ → List ℕ) (l s : List ℕ) : Type 0 where
  pub begun : Each j f l s
  pub left : (i : ℕ) → j ≤ i → slots i s ≡ slots i l

module _ (f : ℕ → List ℕ → List ℕ) (l : List ℕ) where
  pub begun_none : Begun 0 f l l
  begun_none = record { begun = record { long = refl; changed = λ j lt. absurd (omega arith) }; left = λ i le. refl }

  pub begun_more : (j : ℕ) (s t : List ℕ) → Begun j f l s → Only j (f j) s t → Begun (j + 1) f l t
  begun_more j s t b o =
      record {
        begun = record { long = o.long ∙ b.begun.long; changed = λ i lt. go i lt (ℕ_discrete i j) };
        left = λ i le. o.others i (omega arith) ∙ b.left i (omega arith);
      }
    where
      go : (i : ℕ) → i < j + 1 → Dec (i ≡ j) → slots i t ≡ f i (slots i l)
      go i lt (yes e) = rw e (o.changed ∙ ap (f j) (b.left j (omega arith)))
      go i lt (no e) = o.others i e ∙ b.begun.changed i (omega arith)
