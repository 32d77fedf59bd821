-- Putting a column 'replaces that column and nothing else', read off the desk that is handed back.
--
--   code_kept      the code and its factors are as they were
--   column-put     the column is the symbols that were put
--   others_kept    the arrays before and after differ in no other column
-- Assumes nothing.
use mathlib.Core.Path.{◌≡◌, sym, ap, ◌∙◌}
use mathlib.Core.Bool.{false}
use mathlib.Core.List.{List}
use Prim.Native.Nat.{ℕ, ◌+◌, ◌*◌, ◌<◌}
use native.Mathlib.Omega.{arith}
use lib.ListN.{get_or}
use lib.Seq.{get_or-take}
use Rattle.refusal.specs.Refusal.{first}
use Rattle.codes.specs.Code.{columns, rows, differs_at}
use Rattle.mark.specs.Promises.{meaning}
use Rattle.mark.proofs.Handing.{handed_done}
use Rattle.codes.proofs.Columns.{agree_exactly, agree_at}
use Rattle.desk.specs.Desk.{desk_code, desk_description, array_of, with_array, placed, put_checks, Next, Puts, Made}
use Rattle.desk.specs.declared.Desk.{Desk}
use Rattle.mark.specs.declared.Handed.{Handed}
use Rattle.desk.proofs.Columns.{column_there, column_other, cell, one_cell}
use Rattle.desk.proofs.Sound.{puttable, sound}

module _ (d : Desk) (i : ℕ) (s : List ℕ) (r : Handed Desk) (m : Made d) (e : 0 ≡ first (put_checks d i s)) (h : Puts d i s r) where
  abbrev after : Desk
  after = r.next

  next : after ≡ with_array d (placed d i s).array after.above after.misfits
  next = (handed_done (put_checks d i s) (Next d i s) d (meaning r.outcome, r.next) h e).0

  pub code_kept : desk_description after ≡ desk_description d
  code_kept = ap desk_description next

  pub column-put : (l : ℕ) → l < d.rows → get_or (array_of after) (l * d.columns + i) 0 ≡ get_or s l 0
  column-put l q =
      let h = sound m in
      let can = puttable d i s e in
      ap (λ (w : Desk). get_or (array_of w) (l * d.columns + i) 0) next
      ∙ get_or-take (d.rows * d.columns) (placed d i s).array (l * d.columns + i) 0 (cell d.rows d.columns l i q can.column)
      ∙ column_there d.columns i s d.array (omega (arith, h.frame.some_columns))
      (λ k g. omega (arith, cell d.rows d.columns k i (omega (arith, can.count)) can.column, h.frame.cells, h.array_size))
      l (omega (arith, can.count))

  same : (j : ℕ) → j < d.columns → (j ≡ i → ⊥) → (l : ℕ) → l < d.rows
      → get_or (array_of d) (l * d.columns + j) 0 ≡ get_or (array_of after) (l * d.columns + j) 0
  same j b n l q =
      let inside = cell d.rows d.columns l j q b in
      let there = l * d.columns + j in
      get_or-take (d.rows * d.columns) d.array there 0 inside
      ∙ sym (column_other d.columns i s d.array there (λ k g f. n (one_cell d.columns l k j i b (puttable d i s e).column f)))
      ∙ sym (get_or-take (d.rows * d.columns) (placed d i s).array there 0 inside)
      ∙ sym (ap (λ (w : Desk). get_or (array_of w) there 0) next)

  pub others_kept : (j : ℕ) → j < d.columns → (j ≡ i → ⊥) → differs_at (desk_code d) (array_of d) (array_of after) j ≡ false
  others_kept j b n =
      (agree_exactly (rows (desk_code d)) (columns (desk_code d)) j (array_of d) (array_of after)).1
      ((agree_at (rows (desk_code d)) (columns (desk_code d)) j (array_of d) (array_of after)).1
      (rw ((sound m).frame.row_count, (sound m).frame.column-count) (same j b n)))
