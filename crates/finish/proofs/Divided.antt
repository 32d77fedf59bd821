-- The last decision: has the locator as many roots among the points as its size?
--
--   roots               the flags of a locator's values at the points are those of its roots
--   Flagged, flagged    what the code stores: the values and their flags
--   roots_room          as many roots as the joint limit allows leave every row its columns
--   fronts_are          the answer that the code fills in
--   divided_hollow, divided-corrected    what the model decides
-- Assumes nothing.
use mathlib.Core.Path.{◌≡◌, refl, sym, ap, ◌∙◌}
use mathlib.Core.List.{List}
use Prim.Native.Nat.{ℕ, ◌≤◌}
use native.Mathlib.Omega.{arith}
use lib.ListN.{length, take}
use Rattle.patch.specs.Parts.{lay}
use Rattle.patch.proofs.Parts.{take-lay}
use Rattle.field.specs.Arithmetic.{gf}
use Rattle.poly.specs.Poly.{value, values_at}
use Rattle.poly.proofs.Values.{length-values}
use Rattle.codes.specs.Code.{Code, columns, total, IsArray, joint_limit}
use Rattle.codes.proofs.Proper.{Proper}
use Rattle.codes.proofs.Passed.{Counts}
use Rattle.codes.proofs.Limits.{Room, joint_room}
use Rattle.ending.specs.Endings.{Buffers}
use Rattle.ending.specs.declared.Ending.TheVariants.{Corrected, Hollow}
use Rattle.ending.proofs.WrongColumns.{root_at, root_flags, root_count}
use Rattle.ending.proofs.Model.{filled, divided}
use Rattle.finish.specs.Working.{zeros_in, fronts}
use Rattle.finish.proofs.Marks.{zeros-count, zeros_flags}
use Rattle.finish.proofs.Filled.{rows-length}

roots : (c : Code) (E : List ℕ) → zeros_in (values_at (gf c.degree) c.points E) ≡ root_flags c E
unfolding values_at
roots c E = zeros_flags (root_at c E) (value (gf c.degree) E) c.points (λ i q. refl)

-- the answer that the roots of E give
abbrev answered : Code → List ℕ → List ℕ → Buffers
answered c y E = record { array = filled c y (root_flags c E); flags = root_flags c E }

-- the front of ms holds the values of E at the points, that of fs the flags of its roots
pub record Flagged (c : Code) (E ms fs : List ℕ) : Type 0 where
  pub count : length (take (columns c) ms) ≡ columns c
  pub flags : take (columns c) fs ≡ zeros_in (take (columns c) ms)
  pub roots : zeros_in (take (columns c) ms) ≡ root_flags c E

pub flagged : {c : Code} → Proper c → (E z f : List ℕ) {ms fs : List ℕ} → ms ≡ lay 0 (values_at (gf c.degree) c.points E) z
    → fs ≡ lay 0 (zeros_in (take (columns c) ms)) f → columns c ≤ length z → columns c ≤ length f → Flagged c E ms fs
flagged {c} p E z f {ms} valued laid room room' =
    let values : List ℕ = values_at (gf c.degree) c.points E in
    let size : length values ≡ columns c = length-values (gf c.degree) p.field c.points E in
    let marks : take (columns c) ms ≡ values = take-lay values z valued size room in
    let count : length (take (columns c) ms) ≡ columns c = ap length marks ∙ size in
    record {
      count = count;
      flags = take-lay (zeros_in (take (columns c) ms)) f laid (zeros-count (take (columns c) ms) ∙ count) room';
      roots = ap zeros_in marks ∙ roots c E;
    }

module _ {c : Code} {E ms fs : List ℕ} (k : Flagged c E ms fs) where
  pub roots_room : Proper c → root_count c E ≤ joint_limit c → Room (columns c) (total (take (columns c) fs)) c.lengths
  roots_room p h = joint_room p (omega (arith, ap total (k.flags ∙ k.roots)))

  pub fronts_are : Counts c → {y : List ℕ} → IsArray c y → (a : List ℕ) {a' : List ℕ} → a' ≡ lay 0 (filled c y (take (columns c) fs)) a
      → length a ≡ 384 → answered c y E ≡ fronts c a' fs
  fronts_are h {y} received a is long =
      let flags : take (columns c) fs ≡ root_flags c E = k.flags ∙ k.roots in
      let count : length (take (columns c) fs) ≡ columns c = ap length k.flags ∙ zeros-count (take (columns c) ms) ∙ k.count in
      let size = rows-length c.degree (take (columns c) fs) c.points count c.lengths y received.count in
      let answer = take-lay (filled c y (take (columns c) fs)) a is size (omega (arith, h.cells)) in
      λ i. record { array = (ap (filled c y) (sym flags) ∙ sym answer) i; flags = sym flags i }

module _ (c : Code) (y : List ℕ) (lent : Buffers) (t : ℕ) (E : List ℕ) where
  pub divided_hollow : ¬ (root_count c E ≡ t) → (d : Dec (root_count c E ≡ t)) → divided c y lent t E d ≡ (Hollow t, lent)
  unfolding divided
  divided_hollow h (yes e) = absurd (h e)
  divided_hollow h (no e) = refl

  pub divided-corrected : root_count c E ≡ t → (d : Dec (root_count c E ≡ t))
      → divided c y lent t E d ≡ (Corrected t, answered c y E)
  unfolding divided
  divided-corrected h (yes e) = refl
  divided-corrected h (no e) = absurd (e h)
