-- The wrong decoders that 01 shuts out by name: none of them keeps the promise on the first of the three records, P4. The desk that it
-- shuts out. And the wrong guarantee, which P8 refutes.
--
--   p4, p4_left         what the decoding of P4 is given, and what it leaves; p4_decodes, by the proved list
--   none_to_everything, hollow_to_everything    'a decoder that says "none" or "hollow" to everything'
--   zeros_as_corrected  'one that returns zeros as corrected'
--   row_0_alone         'a decoder that repairs row 0 and copies the rest'
--   invented_detail     'an invented detail'
--   later_ignored       'a desk whose later columns are ignored': its verdict is not that on the desk as put
--   p8_nearest, p8_another    two code arrays within two columns of P8's array: the guarantee is not that of the smallest k
-- Assumes nothing.
use mathlib.Core.Path.{◌≡◌, refl, ap}
use mathlib.Core.List.{List, [], ◌∷◌}
use Prim.Native.Nat.{ℕ}
use native.Mathlib.Decide.{ℕ_discrete}
use native.Mathlib.Omega.{arith}
use lib.ListN.{get_or}
use Rattle.refusal.specs.Meaning.{number_of, detail_of}
use Rattle.patch.specs.Patch.{patch}
use Rattle.patch.specs.Parts.{lay}
use Rattle.field.specs.Symbols.{plus, modulus, times_x, times_low, times, quotient_below, over}
use Rattle.poly.specs.Poly.{value, values_at}
use Rattle.codes.specs.Factors.{with_factors, with_factors_row, plain}
use Rattle.codes.specs.Code.{Code, total, encoded_rows, encoded, differs, flags_from, wrong_count}
use Rattle.ending.specs.Endings.{Buffers, meaning}
use Rattle.ending.specs.declared.Ending.{Ending}
use Rattle.ending.specs.declared.Ending.TheVariants.{Corrected, Nothing, Hollow}
use Rattle.joint.specs.Promises.{Given, Left, given, left, buffers, cleared, Decodes}
use Rattle.joint.proofs.Unique.{unique}
use Rattle.desk.specs.Desk.{zeros, zero_desk, with_column, placed}
use Rattle.desk.specs.Verdict.{IsRow, none, fits, fits_not, Verdict, Judges}
use Rattle.desk.specs.declared.Desk.{Desk}
use Rattle.desk.specs.declared.Judged.{Judged}
use Rattle.desk.proofs.Verdicts.{same_count}
use Rattle.marked.specs.Marked.{gf16, Lent, Holds, calls}
use Rattle.marked.proofs.AllHold.{calls_hold}

-- buffers and working space as they may come, of the right lengths
module _ (lent : Buffers) (space : List ℕ) (h : Lent (gf16 (1 ∷ 2 ∷ 4 ∷ 8 ∷ []) (1 ∷ 1 ∷ [])) lent space) where
  abbrev pub p4 : Given
  p4 = given (plain (gf16 (1 ∷ 2 ∷ 4 ∷ 8 ∷ []) (1 ∷ 1 ∷ []))) 2 (5 ∷ 5 ∷ 4 ∷ 7 ∷ 9 ∷ 9 ∷ 10 ∷ 8 ∷ []) lent space

  abbrev pub p4_left : Left
  p4_left = left (Corrected 2) (buffers (5 ∷ 5 ∷ 5 ∷ 5 ∷ 9 ∷ 9 ∷ 9 ∷ 9 ∷ []) (0 ∷ 0 ∷ 1 ∷ 1 ∷ [])) (cleared space)

  pub p4_decodes : Decodes p4 p4_left
  unfolding Holds calls
  p4_decodes = calls_hold.1.1.1.1.1.1.0 lent space h

  -- what keeps the promise on P4 is what P4 leaves
  only : (l : Left) → Decodes p4 l → l ≡ p4_left
  only l d = unique p4 l p4_left d p4_decodes

  ends_as : (e : Ending) (b : Buffers) (w : List ℕ) → Decodes p4 (left e b w) → e ≡ Corrected 2
  ends_as e b w d = ap (λ (l : Left). l.ending) (only (left e b w) d)

  holds_as : (e : Ending) (b : Buffers) (w : List ℕ) → Decodes p4 (left e b w) → b.array ≡ 5 ∷ 5 ∷ 5 ∷ 5 ∷ 9 ∷ 9 ∷ 9 ∷ 9 ∷ []
  holds_as e b w d = ap (λ (l : Left). l.buffers.array) (only (left e b w) d)

  pub none_to_everything : (b : Buffers) (w : List ℕ) → Decodes p4 (left Nothing b w) → ⊥
  none_to_everything b w d = let z = ap (λ (e : Ending). number_of (meaning e)) (ends_as Nothing b w d) in omega (arith, z)

  pub hollow_to_everything : (t : ℕ) (b : Buffers) (w : List ℕ) → Decodes p4 (left (Hollow t) b w) → ⊥
  hollow_to_everything t b w d = let z = ap (λ (e : Ending). number_of (meaning e)) (ends_as (Hollow t) b w d) in omega (arith, z)

  pub zeros_as_corrected : (k : ℕ) (f w : List ℕ) → Decodes p4 (left (Corrected k) (buffers (0 ∷ 0 ∷ 0 ∷ 0 ∷ 0 ∷ 0 ∷ 0 ∷ 0 ∷ []) f) w) → ⊥
  zeros_as_corrected k f w d =
      let is = holds_as (Corrected k) (buffers (0 ∷ 0 ∷ 0 ∷ 0 ∷ 0 ∷ 0 ∷ 0 ∷ 0 ∷ []) f) w d in
      let z : ◌≡◌ {A = ℕ} 0 5 = ap (λ (l : List ℕ). get_or l 0 0) is in
      omega (arith, z)

  pub row_0_alone : (k : ℕ) (f w : List ℕ) → Decodes p4 (left (Corrected k) (buffers (5 ∷ 5 ∷ 5 ∷ 5 ∷ 9 ∷ 9 ∷ 10 ∷ 8 ∷ []) f) w) → ⊥
  row_0_alone k f w d =
      let is = holds_as (Corrected k) (buffers (5 ∷ 5 ∷ 5 ∷ 5 ∷ 9 ∷ 9 ∷ 10 ∷ 8 ∷ []) f) w d in
      let z : ◌≡◌ {A = ℕ} 10 9 = ap (λ (l : List ℕ). get_or l 6 0) is in
      omega (arith, z)

  pub invented_detail : (k : ℕ) (b : Buffers) (w : List ℕ) → Decodes p4 (left (Corrected k) b w) → k ≡ 2
  invented_detail k b w d = ap (λ (e : Ending). detail_of (meaning e)) (ends_as (Corrected k) b w d)

-- 'The guarantee is read off the smallest k … P8 refutes it: its array also lies two columns from the code array 6 6 6 6 6 and
-- 0 0 0 0 0': P8 has two code arrays within two columns, which is (n − k)/2 for its smallest k
abbrev p8_code : Code
p8_code = gf16 (1 ∷ 2 ∷ 4 ∷ 8 ∷ 3 ∷ []) (1 ∷ 3 ∷ [])

abbrev p8_received : List ℕ
p8_received = 6 ∷ 6 ∷ 6 ∷ 6 ∷ 6 ∷ 0 ∷ 0 ∷ 13 ∷ 5 ∷ 0 ∷ []

pub p8_nearest : (encoded p8_code (6 ∷ 2 ∷ 3 ∷ 1 ∷ []) ≡ 6 ∷ 6 ∷ 6 ∷ 6 ∷ 6 ∷ 0 ∷ 0 ∷ 13 ∷ 5 ∷ 2 ∷ [])
    × (wrong_count p8_code p8_received (6 ∷ 6 ∷ 6 ∷ 6 ∷ 6 ∷ 0 ∷ 0 ∷ 13 ∷ 5 ∷ 2 ∷ []) ≡ 1)
unfolding total plus modulus times_x times_low times value values_at encoded_rows differs flags_from
p8_nearest = (refl, refl)

pub p8_another : (encoded p8_code (6 ∷ 0 ∷ 0 ∷ 0 ∷ []) ≡ 6 ∷ 6 ∷ 6 ∷ 6 ∷ 6 ∷ 0 ∷ 0 ∷ 0 ∷ 0 ∷ 0 ∷ [])
    × (wrong_count p8_code p8_received (6 ∷ 6 ∷ 6 ∷ 6 ∷ 6 ∷ 0 ∷ 0 ∷ 0 ∷ 0 ∷ 0 ∷ []) ≡ 2)
unfolding total plus modulus times_x times_low times value values_at encoded_rows differs flags_from
p8_another = (refl, refl)

-- 'a desk whose later columns are ignored (the verdict is over the array as put)': 5 is put into each of four columns, and k is 1
abbrev four_points : Code
four_points = gf16 (1 ∷ 2 ∷ 4 ∷ 8 ∷ []) (1 ∷ [])

abbrev with_five : Desk → ℕ → Desk
with_five d i = placed d i (5 ∷ [])

abbrev first_alone : Desk
first_alone = with_five (zero_desk (plain four_points)) 0

abbrev all_four : Desk
all_four = with_five (with_five (with_five first_alone 1) 2) 3

-- 5 5 5 5 are the values of the polynomial 5
none_misfits : Verdict all_four 0
unfolding zeros lay patch with_column with_factors with_factors_row over quotient_below ℕ_discrete plus modulus times_x times_low times value values_at
none_misfits = fits (5 ∷ [], record { count = refl; symbols = (omega arith, tt) }, refl) none

-- 5 0 0 0 are those of none
no_constant : IsRow 4 (1 ∷ 2 ∷ 4 ∷ 8 ∷ []) 1 (5 ∷ 0 ∷ 0 ∷ 0 ∷ []) → ⊥
unfolding plus modulus times_x times_low times value values_at
no_constant ([], p, e) = omega (arith, p.count)
no_constant (a ∷ [], p, e) =
    let at_1 : plus a 0 ≡ 5 = ap (λ (l : List ℕ). get_or l 0 0) e in
    let at_2 : plus a 0 ≡ 0 = ap (λ (l : List ℕ). get_or l 1 0) e in
    omega arith
no_constant (a ∷ b ∷ f, p, e) = omega (arith, p.count)

one_misfit : Verdict first_alone 1
unfolding zeros lay patch with_column with_factors with_factors_row over quotient_below ℕ_discrete plus modulus times_x times_low times
one_misfit = fits_not no_constant none

pub later_ignored : (r : Judged) → Judges all_four r → Verdict first_alone r.verdict → ⊥
later_ignored r h v =
    omega (arith, same_count h.number none_misfits, same_count v one_misfit)
