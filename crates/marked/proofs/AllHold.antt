-- The marked examples of calls hold: antt computes products, encodings, checks, the decoder's model, and the ring's points and word.
--
--   Computes x    what antt computes of an example; holds, that it is enough
--   calls_hold    the claim, of all but the records
-- Assumes nothing.
use mathlib.Core.Path.{◌≡◌, refl, sym, ◌∙◌, subst}
use mathlib.Core.Bool.{Bool, true, false, not, ◌||◌}
use mathlib.Core.List.{List, [], ◌∷◌, ◌++◌, zip, zip_with}
use Prim.Native.Nat.{ℕ, ◌*◌}
use native.Mathlib.Decide.{ℕ_discrete, dec_le, dec_lt}
use native.Mathlib.Omega.{arith}
use lib.Dec.{eqb, ltb}
use lib.ListN.{length}
use borrow.Author.Tests.{eq-eqb, le-ltb}
use Rattle.refusal.specs.Refusal.{Check, ◌when◌, first, bad_degree, outside, some_outside, outside_field, some_outside_field}
use Rattle.refusal.specs.Refusal.{is_in, repeated, bad_points}
use Rattle.std.proofs.Common.{Ok}
use Rattle.refusal.specs.Numbers.{named}
use Rattle.refusal.proofs.Keeping.{does, refuses}
use Rattle.field.specs.Symbols.{plus, modulus, times_x, times_low, times, quotient_below, over}
use Rattle.field.specs.Values.{checks, Gives}
use Rattle.poly.specs.Poly.{All, value, values_at, add, scale}
use Rattle.poly.proofs.Forms.{apart, reduce, newton_value_lem}
use Rattle.codes.specs.Code.{Code, IsArray, rows, columns, total, largest, encoded_rows, flags_from, joint_limit}
use Rattle.codes.specs.Factors.{with_factors, with_factors_row, encoded_by, plain}
use Rattle.codes.specs.Lost.{right}
use Rattle.codes.specs.Checks.{code_checks, wrong_length, space_bytes, encode_checks, decode_checks}
use Rattle.codes.proofs.Parts.{all_map}
use Rattle.codes.proofs.Passed.{PassedDecoding, decoding as passing}
use Rattle.codes.proofs.Messages.{encoded_array}
use Rattle.codes.proofs.Plain.{ones_array}
use Rattle.mark.proofs.Promised.{writes}
use Rattle.basis.proofs.Vector.{mix}
use Rattle.basis.proofs.Scan
use Rattle.basis.proofs.Lines.{keep, least, another, size, unit, start_rows_lem, start, lifted, fix_by, fix, step_by, step, run, solve, cut}
use Rattle.ending.specs.Endings.{Buffers, Ends}
use Rattle.ending.specs.declared.Ending.{Ending}
use Rattle.ending.specs.declared.Ending.TheVariants.{Refused, Corrected}
use Rattle.joint.specs.Promises.{Given, given, Left, left, cleared, Struck, checks_of, Decodes}
use Rattle.joint.proofs.Struck.{ones_struck}
use Rattle.ending.proofs.Model.{reduced_rows, filled_row, filled_in, filled_rows, beyond, divided, alone, within, lowest, decided}
use Rattle.ending.proofs.ModelExactly.{ends_exactly}
use Rattle.hermitian.specs.Ring.{numbers, ring_points, ring_length, ring_word}
use Rattle.hermitian.specs.Checks.{bad_size, bad_order}
use Rattle.hermitian.specs.Checks as Ring
use Rattle.hermitian.proofs.Figures.{p9, p10}
use Rattle.record.specs.Promises.{Prints}
use Rattle.marked.specs.Marked.{Example, Lent, Holds, calls, product, encoding, decoding, refusal, points, word, records}

-- the checks of decoding, with buffers of the right lengths
abbrev input_checks : Code → ℕ → List ℕ → List Check
input_checks c τ y =
    code_checks c
    ++ (5 when wrong_length (rows c * columns c) y)
    ∷ (6 when bad_points c.degree c.points)
    ∷ (7 when some_outside_field c.degree y)
    ∷ (8 when ltb (joint_limit c) τ)
    ∷ []

others_right : (b a f w : Bool) → a ≡ true → f ≡ true → w ≡ false → (b || not a || not f || w) ≡ b
others_right true a f w p q s = refl
others_right false a f w p q s = simp (p, q, s)

lent_right : (c : Code) (τ : ℕ) (y : List ℕ) (lent : Buffers) (w : List ℕ) → Lent c lent w
    → first (decode_checks (plain c) τ y lent.array lent.flags w) ≡ first (input_checks c τ y)
lent_right c τ y lent w h = ones_array c y lent.array lent.flags w ((8 when ltb (joint_limit c) τ) ∷ []) ∙ rw (others_right
    (wrong_length (rows c * columns c) y)
    (eqb (length lent.array) (rows c * columns c))
    (eqb (length lent.flags) (columns c))
    (ltb (length w) space_bytes)
    (eq-eqb _ _ h.array)
    (eq-eqb _ _ h.flags)
    (le-ltb _ _ h.space))

abbrev Computes : Example → Type 0
Computes (product degree a b answer) = Gives (checks degree a b) (times degree a b) (Ok answer)
Computes (encoding c m a) = (first (encode_checks (plain c) m a) ≡ 0) × (encoded_by (plain c) m ≡ a) × (length a ≡ rows c * columns c)
Computes (decoding c τ y e written) = (first (input_checks c τ y) ≡ 0) × ((lent : Buffers) → decided c y τ lent ≡ (e, written lent))
Computes (refusal c τ y k) = (first (input_checks c τ y) ≡ k) × (k ≡ 0 → ⊥)
Computes (points q ps) = ring_points q ≡ ps
Computes (word q m f w) = (first (Ring.encode_checks q m f w) ≡ 0) × (ring_word q m f ≡ w) × (length w ≡ q * q * q)
Computes (records b lines) = Prints 1 b lines

-- what a decoding is given, with factors of one, and how it ends
module _ (c : Code) (τ : ℕ) (y : List ℕ) (lent : Buffers) (w : List ℕ) where
  abbrev g : Given
  g = given (plain c) τ y lent w

  abbrev Table : List ℕ → Ending → Buffers → Type 0
  Table z = Ends c z τ lent

  abbrev refused : ℕ → Left
  refused k = left (Refused (named k)) lent w

  abbrev Own : Left → Type 0
  Own l = Struck (plain c) y Table l.ending l.buffers × (l.space ≡ cleared w)

  module _ (passes : first (checks_of g) ≡ 0) where
    passed : PassedDecoding c τ y lent.array lent.flags w
    passed = (passing (plain c) τ y lent.array lent.flags w (sym passes)).0

    -- a corrected answer is an array
    answers : (n : ℕ) (b : Buffers) → Table y (Corrected n) b → IsArray c b.array
    answers n b d = subst (IsArray c) (sym d.array) (encoded_array passed.array.proper d.message)

    decoded : (e : Ending) (b : Buffers) → Ends c y τ lent e b → Decodes g (left e b (cleared w))
    decoded e b h = does (checks_of g) refused Own _ (sym passes)
        ((ones_struck c passed.array.proper passed.array.received Table answers e b).1 h, refl)

pub holds : (x : Example) → Computes x → Holds x
unfolding Holds
holds (product degree a b answer) h = h
holds (encoding c m a) (z, is, n) = λ lent l.
    writes (encode_checks (plain c) m lent) (encoded_by (plain c) m) lent (let e : length lent ≡ length a = l ∙ sym n in rw e (sym z))
    (sym is)
holds (decoding c τ y e written) (h, d) = λ lent w l.
    let passes : first (checks_of (g c τ y lent w)) ≡ 0 = lent_right c τ y lent w l ∙ h in
    decoded c τ y lent w passes e (written lent)
    ((ends_exactly c τ y w lent (passed c τ y lent w passes) (e, written lent)).1 (d lent))
holds (refusal c τ y k) (h, some) = λ lent w l.
    refuses (checks_of (g c τ y lent w)) (refused c τ y lent w) (Own c τ y lent w) (sym (lent_right c τ y lent w l ∙ h)) some
holds (points q ps) h = h
holds (word q m f w) (z, is, n) = λ lent l.
    writes (Ring.encode_checks q m f lent) (ring_word q m f) lent (let e : length lent ≡ length w = l ∙ sym n in rw e (sym z)) (sym is)
holds (records b lines) h = h

infixr 10 ◌&◌
abbrev ◌&◌ : {P Q : Type 0} → P → Q → P × Q
p & q = (p, q)

all_compute : All Computes calls
unfolding calls
    first bad_degree outside some_outside outside_field some_outside_field is_in repeated bad_points total largest joint_limit
    plus modulus times_x times_low times quotient_below over ℕ_discrete dec_le dec_lt
    with_factors with_factors_row value values_at add scale apart reduce newton_value_lem encoded_rows flags_from zip zip_with
    mix Scan.lower Scan.better Scan.lowest keep least another size unit start_rows_lem start lifted fix_by fix step_by step run solve cut
    right reduced_rows filled_row filled_in filled_rows beyond divided alone within lowest decided
    numbers ring_length bad_size bad_order
all_compute =
    refl
    & refl
    & refl
    & refl
    & refl
    & (refl, refl, refl)
    & (refl, λ lent. refl)
    & (refl, λ lent. refl)
    & (refl, λ lent. refl)
    & (refl, λ lent. refl)
    & (refl, λ z. omega arith)
    & (refl, λ lent. refl)
    & p9
    & (refl, p10, refl)
    & tt

pub calls_hold : All Holds calls
calls_hold = all_map Computes Holds calls holds all_compute
