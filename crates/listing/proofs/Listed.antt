-- What the engine leaves is what listing promises.
--
--   limit_room    up to the joint limit there is room for every row's coefficients
--   listed        the arrays that fit the quotient, struck, are those that fit what was received, and the first ones are written
-- Assumes nothing.
use mathlib.Core.Path.{◌≡◌, ap, ◌∙◌, subst}
use mathlib.Core.List.{List}
use Prim.Native.Nat.{ℕ, ◌+◌, ◌*◌, ◌/◌, ◌≤◌}
use native.Mathlib.Nat.{div-add-mod', mul-le-mul}
use native.Mathlib.Omega.{arith}
use lib.ListN.{length}
use Rattle.poly.specs.Poly.{All}
use Rattle.codes.specs.Code.{columns, rows, largest, joint_limit}
use Rattle.codes.specs.Factors.{Description, multiplied, divided}
use Rattle.codes.proofs.Parts.{all_map}
use Rattle.codes.proofs.Factors.{multiplied-divided, struck_array}
use Rattle.codes.proofs.Passed.{largest-most}
use Rattle.fitting.specs.Fitting.{sets, FitsAt, InTurn, Fitting}
use Rattle.fitting.specs.Working.{Turned}
use Rattle.fitting.proofs.Listed.{lists_only}
use Rattle.fitting.proofs.Placed.{placed-laid}
use Rattle.listing.specs.Working.{Passed, Listed}

module _ {D : Description} {τ : ℕ} {y room : List ℕ} (p : Passed D τ y room) where
  pub limit_room : τ + largest D.code.lengths ≤ columns D.code
  unfolding joint_limit
  limit_room = omega (arith, p.limit, largest-most (columns D.code) D.code.lengths p.checked.counts.lengths)

  abbrev cells : ℕ
  cells = rows D.code * columns D.code

  some : 1 * 1 ≤ cells
  some = mul-le-mul p.checked.counts.some_rows p.checked.counts.some_columns

  pub listed : {z : List ℕ} → z ≡ divided D y → {r : ℕ} {room' : List ℕ}
      → Turned D z (sets τ (columns D.code)) 0 room r room' → Listed D τ y room r room'
  listed {z} e {r} {room'} t =
      let back : multiplied D z ≡ y = ap (multiplied D) e ∙ multiplied-divided D p.checked.proper p.factors p.received in
      let fitting : Fitting D τ y t.arrays =
      subst (λ (x : List ℕ). InTurn (FitsAt D x) (sets τ (columns D.code)) t.arrays) back t.turns in
      let sized : All (λ (a : List ℕ). length a ≡ cells) t.arrays = all_map _ _ t.arrays
      (λ a h. (struck_array D p.checked.proper p.factors h.0).count) (lists_only D τ y t.arrays fitting) in
      record {
        arrays = t.arrays;
        fitting = fitting;
        total = omega (arith, t.total);
        left = t.left ∙ placed-laid cells (omega (arith, some)) (length room / cells) t.arrays room sized
            (omega (arith, div-add-mod' (length room) cells, p.whole));
      }
