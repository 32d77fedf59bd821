-- The three records, from their bytes to their lines.
--
--   three_printed    what the program prints for them
--   all_hold         so the whole list holds
-- Assumes nothing.
use mathlib.Core.Path.{◌≡◌, refl, sym}
use mathlib.Core.List.{List, [], ◌∷◌, ◌++◌}
use Prim.Native.Nat.{ℕ, ◌≤◌}
use native.Mathlib.Nat.{le_of_eq}
use native.Mathlib.Omega.{arith}
use lib.ListN.{length, replicate, length-replicate}
use Rattle.refusal.specs.Refusal.{first as firstCheck, bad_degree, outside}
use Rattle.poly.specs.Poly.{All}
use Rattle.codes.specs.Checks.{space_bytes}
use Rattle.codes.proofs.Parts.{all_append}
use Rattle.ending.specs.declared.Ending.TheVariants.{Corrected, Nothing, Hollow}
use Rattle.joint.specs.Promises.{buffers, cleared}
use Rattle.record.specs.Records.{lengths_in, limit_in, points_in, symbols_in, size_in, begins, no_mark, out_of_range, stop_of}
use Rattle.record.specs.Lines.{ascii, decimal, decimal_by, wrong_from, commas, joined, line_of}
use Rattle.record.specs.Promises.{record_in, LineOf, fresh, Prints, ends, goes}
use Rattle.marked.specs.Marked.{Holds, calls, marked, first, second, third}
use Rattle.marked.proofs.AllHold.{calls_hold}

enough : space_bytes ≤ length fresh
unfolding fresh
enough = le_of_eq (sym (length-replicate {A = ℕ} space_bytes 0))

nonempty : {y : ℕ} {ys : List ℕ} → y ∷ ys ≡ [] → ⊥
nonempty e = let z : ◌≡◌ {A = ℕ} 0 1 = cc in omega arith

line_1 : LineOf 1 (record_in fresh (first ++ second ++ third)) (ascii "1 corrected 2 2,3\n")
unfolding Holds calls lengths_in limit_in points_in symbols_in decimal decimal_by wrong_from commas joined line_of
line_1 = record {
  ending = Corrected 2;
  array = 5 ∷ 5 ∷ 5 ∷ 5 ∷ 9 ∷ 9 ∷ 9 ∷ 9 ∷ [];
  flags = 0 ∷ 0 ∷ 1 ∷ 1 ∷ [];
  space = cleared fresh;
  decodes = calls_hold.1.1.1.1.1.1.0 (buffers (replicate 8 0) (replicate 4 0)) fresh
      (record { array = refl; flags = refl; space = enough });
  written = refl;
}

line_2 : LineOf 2 (record_in fresh (second ++ third)) (ascii "2 none - -\n")
unfolding Holds calls lengths_in limit_in points_in symbols_in decimal decimal_by wrong_from commas joined line_of
line_2 = record {
  ending = Nothing;
  array = replicate 4 0;
  flags = replicate 4 0;
  space = cleared fresh;
  decodes = calls_hold.1.1.1.1.1.1.1.0 (buffers (replicate 4 0) (replicate 4 0)) fresh
      (record { array = refl; flags = refl; space = enough });
  written = refl;
}

line_3 : LineOf 3 (record_in fresh third) (ascii "3 hollow 1 -\n")
unfolding Holds calls lengths_in limit_in points_in symbols_in decimal decimal_by wrong_from commas joined line_of
line_3 = record {
  ending = Hollow 1;
  array = replicate 3 0;
  flags = replicate 3 0;
  space = cleared fresh;
  decodes = calls_hold.1.1.1.1.1.1.1.1.0 (buffers (replicate 3 0) (replicate 3 0)) fresh
      (record { array = refl; flags = refl; space = enough });
  written = refl;
}

pub three_printed : Prints 1 (first ++ second ++ third) (ascii "1 corrected 2 2,3\n2 none - -\n3 hollow 1 -\n")
unfolding firstCheck bad_degree outside begins no_mark out_of_range size_in stop_of
three_printed =
    goes {line = ascii "1 corrected 2 2,3\n"} {rest = ascii "2 none - -\n3 hollow 1 -\n"} nonempty refl line_1
    (goes {line = ascii "2 none - -\n"} {rest = ascii "3 hollow 1 -\n"} nonempty refl line_2
    (goes {line = ascii "3 hollow 1 -\n"} {rest = []} nonempty refl line_3 (ends refl refl) refl)
    refl)
    refl

pub all_hold : All Holds marked
unfolding marked Holds
all_hold = all_append Holds calls _ calls_hold (three_printed, tt)
