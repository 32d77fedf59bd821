-- The verdict is 0 exactly on an array as it is struck.
--
--   rows_reduced    no row of an array misfits exactly when the reduced values are zero in every row
--   quotient_code   the verdict on a desk is 0 exactly when its array, divided by the factors, is a code array
--   no_misfit       the verdict on a desk is 0 exactly when its array is struck for a message: a code array, times the factors
-- Assumes nothing.
use mathlib.Core.Logic.Iff
use mathlib.Core.Logic.{◌↔◌}
use mathlib.Core.Path.{◌≡◌}
use mathlib.Core.List.{List, [], ◌∷◌}
use Prim.Native.Nat.{ℕ, ◌*◌}
use lib.ListN.{length, take, drop}
use Rattle.field.specs.Symbols.{IsSymbol}
use Rattle.field.specs.Arithmetic.{gf}
use Rattle.poly.specs.Poly.{All}
use Rattle.poly.proofs.OneOff.{row_exactly}
use Rattle.codes.specs.Code.{Code, CodeArray}
use Rattle.codes.specs.Factors.{Description, divided, CodeArrayBy}
use Rattle.codes.proofs.Parts.{all_take, all_drop, row_length, rest_length}
use Rattle.codes.proofs.Proper.{Within, Proper}
use Rattle.codes.proofs.Messages.{ReducedRows, code_array_exactly}
use Rattle.codes.proofs.Factors.{code_divided}
use Rattle.desk.specs.Desk.{desk_code, desk_description, array_of, Made}
use Rattle.desk.specs.Verdict.{IsRow, Misfits, none, fits, Verdict}
use Rattle.desk.specs.declared.Desk.{Desk}
use Rattle.desk.proofs.Sound.{sound, is_array, is_quotient}

first_row : {d k : ℕ} {xs ks a : List ℕ} {P Q : Type 0} → IsRow d xs k (take (length xs) a) ↔ P → Misfits d xs ks (drop (length xs) a) 0 ↔ Q
    → Misfits d xs (k ∷ ks) a 0 ↔ (P × Q)
first_row {d} {k} {xs} {ks} {a} {P} {Q} row rest = (to, λ (p, q). fits (row.1 p) (rest.1 q))
  where
    to : Misfits d xs (k ∷ ks) a 0 → P × Q
    to (fits p r) = (row.0 p, rest.0 r)

module _ {c : Code} (p : Proper c) where
  rows_reduced : (ks a : List ℕ) → Within 1 (length c.points) ks → length a ≡ length ks * length c.points
      → All (IsSymbol c.degree) a → Misfits c.degree c.points ks a 0 ↔ ReducedRows (gf c.degree) c.points ks a
  rows_reduced [] a w l s = (λ m. tt, λ z. none)
  rows_reduced (k ∷ ks) a w l s =
      let n : ℕ = length c.points in
      first_row
      (row_exactly (gf c.degree) p.field k c.points (take n a) p.distinct p.symbols
      (all_take (IsSymbol c.degree) n a s) (row_length (length ks) n a l) w.0.1)
      (rows_reduced ks (drop n a) w.1 (rest_length (length ks) n a l) (all_drop (IsSymbol c.degree) n a s))

module _ {d : Desk} (m : Made d) where
  abbrev D : Description
  D = desk_description d

  pub quotient_code : Verdict d 0 ↔ CodeArray (desk_code d) (divided D (array_of d))
  quotient_code =
      let p = (sound m).frame.proper in
      let q = is_quotient (sound m) in
      Iff.trans (rows_reduced p (desk_code d).lengths (divided D (array_of d)) p.lengths q.count q.symbols)
      (Iff.symm (code_array_exactly p q))

  pub no_misfit : Verdict d 0 ↔ CodeArrayBy D (array_of d)
  no_misfit =
      let h = sound m in
      Iff.trans quotient_code (Iff.symm (code_divided D h.frame.proper h.frame.factors (is_array h)))
