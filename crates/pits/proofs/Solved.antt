-- A run from the start, whatever leads₁ and l₁ the start makes of the memory, and leads₂ and l₂ the run makes of these.
--
--   starting         what the start asks for
--   running          what the run asks for
--   solved           the table then holds the model's run
-- Assumes nothing.
use mathlib.Core.Path.{◌≡◌, refl}
use mathlib.Core.List.{List}
use Prim.Native.Nat.{ℕ, ◌*◌, ◌≤◌}
use native.Mathlib.Omega.{arith}
use lib.ListN.{length}
use Rattle.field.specs.Arithmetic.{gf}
use Rattle.hermitian.proofs.Sizes.{Sides, sides, tested}
use Rattle.curve.proofs.Pairs.{pair_starts}
use Rattle.curve.proofs.Model.{ring_pairs}
use Rattle.pits.specs.Working.Table.{Laid, Running, ran}
use Rattle.pits.specs.Working.Holds.{Valued, Holds}
use Rattle.pits.specs.Working.Rings.{forms, start_laid, leads_laid, Starting, Solving, Solved}
use Rattle.pits.proofs.Points.{column_in, ordinate_in, twice_in}
use Rattle.pits.proofs.Forms.{forms-valued}
use Rattle.pits.proofs.Begun.{leads_low, start_holds}
use Rattle.pits.proofs.Held.{laid_held}
use Rattle.pits.proofs.Runs.{ran_holds}

module _ (q m : ℕ) (xs ys r us leads l : List ℕ) (h : Solving q m xs ys r us leads l) where
  counts : Sides q q
  counts = sides q q h.given.size refl

  pub starting : Starting q ys r l
  starting = record {
    size = h.given.size;
    ring = h.given.ring;
    wide = h.given.high;
    factors = twice_in q (q * q * q) _ ys h.given.high h.given.ordinates (ordinate_in q h.given.size);
    long = h.long;
  }

  valued : Valued q (ring_pairs q h.given.size m) (forms q m r) xs
  valued = forms-valued q m r h.given.size xs h.given.wide h.given.columns

  module _ {leads₁ l₁ : List ℕ} (is-leads : leads₁ ≡ leads_laid q m leads) (is : l₁ ≡ start_laid q ys r l) where
    held : Holds q (ring_pairs q h.given.size m) (forms q m r) (pair_starts (gf q) q m) leads₁ l₁
    held = rw (is-leads, is) (start_holds q h.given.size r h.given.ring ys h.given.high l h.long h.given.ordinates m
        h.given.order leads h.eight)

    laid : Laid q xs (2 * q) l₁
    laid = laid_held q (tested q h.given.size).degree (omega (arith, counts.side)) (ring_pairs q h.given.size m) (forms q m r) xs
        valued (twice_in q (q * q * q) _ xs h.given.wide h.given.columns (column_in q h.given.size))
        (omega (arith, h.given.wide, counts.most)) held

    short : length us ≤ length xs
    short = omega (arith, h.flags, h.given.wide)

    pub running : Running q xs us (2 * q) leads₁ l₁
    running = record { laid = laid; short = short; low = rw is-leads (leads_low q m leads h.eight h.given.size h.given.order) }

    module _ {leads₂ l₂ : List ℕ} (e : (leads₂, l₂) ≡ ran q xs (2 * q) us (length us) (leads₁, l₁)) where
      pub solved : Solved q m r us leads₂ l₂
      solved size = ran_holds q m r us size xs leads₁ l₁ (forms-valued q m r size xs h.given.wide h.given.columns) h.flags
          (rw (is-leads, is) (start_holds q size r h.given.ring ys h.given.high l h.long h.given.ordinates m
          h.given.order leads h.eight)) e
