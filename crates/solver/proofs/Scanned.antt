-- The scan for a line by its number, and what it says of the lines themselves.
--
--   passed, first, lower, kept    the four turns of a scan: the element passes; it is the first; it is lower; it is not
--   rest, rest_all, rest_turn, rest_none    what the loop has left to scan decides: at the start, over a turn, at the end
--   numbers_all               what holds of all numbers below a bound holds of those scanned; all_numbers, back
--   none_marked               where the scan finds none, no line is marked
--   line_some, line_none      the line with a number, and that with none
--   scanned                   the scan by numbers finds what the scan over the lines finds that have these leads and marks
-- Assumes nothing.
use mathlib.Core.Path.{◌≡◌, refl, sym, ap, ◌∙◌}
use mathlib.Core.List.{List, [], ◌∷◌, map}
use mathlib.Core.Option
use mathlib.Core.Option.{Option, none, some}
use Prim.Native.Nat.{ℕ, zero, suc, ◌+◌, ◌-◌, ◌≤◌, ◌<◌}
use native.Mathlib.Nat.{sub-zero}
use native.Mathlib.Numerals.{add-one}
use native.Mathlib.Decide.{dec_lt}
use native.Mathlib.Omega.{arith}
use lib.ListN.{length, get_or, drop, get_elem?, drop_of_length-le}
use lib.Seq.{drop-cons}
use Rattle.poly.specs.Poly.{All}
use Rattle.basis.proofs.Scan.{better, lowest, IfFound, none_found}
use Rattle.basis.proofs.Scan
use Rattle.solver.specs.Working.Scan.{numbers, lead_of, unmarked, first_lowest}

module _ {L : Type 0} (lead : L → ℕ) {P : L → Type 0} (test : (e : L) → Dec (P e)) (e : L) where
  pub passed : (o : Option L) (t : Dec (P e)) → P e → better lead test o e t ≡ o
  unfolding better
  passed o (yes h) p = refl
  passed o (no h) p = absurd (h p)

  pub first : (t : Dec (P e)) → (P e → ⊥) → better lead test none e t ≡ some e
  unfolding better
  first (yes h) p = absurd (p h)
  first (no h) p = refl

  lower_yes : (p : L) (t : Dec (lead e < lead p)) → lead e < lead p → Scan.lower lead test p e t ≡ e
  unfolding Scan.lower
  lower_yes p (yes h) lt = refl
  lower_yes p (no h) lt = absurd (h lt)

  lower_no : (p : L) (t : Dec (lead e < lead p)) → lead p ≤ lead e → Scan.lower lead test p e t ≡ p
  unfolding Scan.lower
  lower_no p (yes h) ge = absurd (omega arith)
  lower_no p (no h) ge = refl

  pub lower : (p : L) (t : Dec (P e)) → (P e → ⊥) → lead e < lead p → better lead test (some p) e t ≡ some e
  unfolding better
  lower p (yes h) q lt = absurd (q h)
  lower p (no h) q lt = ap some (lower_yes p (dec_lt (lead e) (lead p)) lt)

  pub kept : (p : L) (t : Dec (P e)) → (P e → ⊥) → lead p ≤ lead e → better lead test (some p) e t ≡ some p
  unfolding better
  kept p (yes h) q ge = absurd (q h)
  kept p (no h) q ge = ap some (lower_no p (dec_lt (lead e) (lead p)) ge)

-- ---- the loop

-- what the loop has left to scan, with the best so far
unfoldable pub rest : List ℕ → List ℕ → ℕ → Option ℕ → ℕ → Option ℕ
rest ms leads n best j = lowest (lead_of leads) (unmarked ms) best (numbers j (n - j))

module _ (ms leads : List ℕ) (n : ℕ) where
  pub rest_all : rest ms leads n none 0 ≡ first_lowest ms leads n
  unfolding rest first_lowest
  rest_all = rw (sub-zero n)

  pub rest_turn : (best best' : Option ℕ) (j : ℕ) → j < n → best' ≡ better (lead_of leads) (unmarked ms) best j (unmarked ms j)
      → rest ms leads n best' (j + 1) ≡ rest ms leads n best j
  unfolding rest lowest numbers
  rest_turn best best' j lt e =
      let more : n - j ≡ suc (n - suc j) = omega arith in
      rw (add-one, more, e)

  pub rest_none : (best : Option ℕ) (j : ℕ) → n ≤ j → rest ms leads n best j ≡ best
  unfolding rest lowest numbers
  rest_none best j le =
      let none_left : n - j ≡ 0 = omega arith in
      rw none_left

-- ---- the lines themselves

module _ {L : Type 0} (lead : L → ℕ) {P : L → Type 0} (test : (e : L) → Dec (P e)) (get : ℕ → L)
    (number : ℕ → ℕ) {Q : ℕ → Type 0} (mark : (j : ℕ) → Dec (Q j))
  where
    -- number j stands for the element get j
    abbrev pub Alike : ℕ → Type 0
    Alike j = (number j ≡ lead (get j)) × (P (get j) → Q j) × (Q j → P (get j))

    lower_alike : (i j : ℕ) (t : Dec (lead (get j) < lead (get i))) (t' : Dec (number j < number i)) → Alike i → Alike j
        → Scan.lower lead test (get i) (get j) t ≡ get (Scan.lower number mark i j t')
    unfolding Scan.lower
    lower_alike i j (yes h) (yes h') a b = refl
    lower_alike i j (yes h) (no h') a b = absurd (h' (rw (a.0, b.0) h))
    lower_alike i j (no h) (yes h') a b = absurd (h (rw (a.0, b.0) at h'))
    lower_alike i j (no h) (no h') a b = refl

    better_alike : (best : Option ℕ) (j : ℕ) (t : Dec (P (get j))) (t' : Dec (Q j)) → IfFound Alike best → Alike j
        → better lead test (Option.map get best) (get j) t ≡ Option.map get (better number mark best j t')
    unfolding better
    better_alike best j (yes h) (yes h') a b = refl
    better_alike best j (yes h) (no h') a b = absurd (h' (b.1 h))
    better_alike best j (no h) (yes h') a b = absurd (h (b.2 h'))
    better_alike none j (no h) (no h') a b = refl
    better_alike (some i) j (no h) (no h') a b =
        ap some (lower_alike i j (dec_lt (lead (get j)) (lead (get i))) (dec_lt (number j) (number i)) a b)

    lower_has : (i j : ℕ) (t : Dec (number j < number i)) → Alike i → Alike j → Alike (Scan.lower number mark i j t)
    unfolding Scan.lower
    lower_has i j (yes h) a b = b
    lower_has i j (no h) a b = a

    better_has : (best : Option ℕ) (j : ℕ) (t : Dec (Q j)) → IfFound Alike best → Alike j → IfFound Alike (better number mark best j t)
    unfolding better
    better_has best j (yes h) a b = a
    better_has none j (no h) a b = b
    better_has (some i) j (no h) a b = lower_has i j (dec_lt (number j) (number i)) a b

    lowest_alike : (js : List ℕ) (best : Option ℕ) → IfFound Alike best → All Alike js
        → lowest lead test (Option.map get best) (map get js) ≡ Option.map get (lowest number mark best js)
    unfolding lowest
    lowest_alike [] best a b = refl
    lowest_alike (j ∷ js) best a b =
        ap (λ (o : Option L). lowest lead test o (map get js)) (better_alike best j (test (get j)) (mark j) a b.0)
        ∙ lowest_alike js (better number mark best j (mark j)) (better_has best j (mark j) a b.0) b.1

pub numbers_all : (P : ℕ → Type 0) (j n : ℕ) → ((k : ℕ) → k < j + n → P k) → All P (numbers j n)
unfolding numbers
numbers_all P j zero h = tt
numbers_all P j (suc n) h = (h j (omega arith), numbers_all P (suc j) n (λ k lt. h k (omega arith)))

numbers_each : (P : ℕ → Type 0) (j n : ℕ) → All P (numbers j n) → (k : ℕ) → k < n → P (j + k)
unfolding numbers
numbers_each P j zero a k lt = absurd (omega arith)
numbers_each P j (suc n) a zero lt = let e : j + 0 ≡ j = omega arith in rw e a.0
numbers_each P j (suc n) a (suc k) lt =
    let e : j + suc k ≡ suc j + k = omega arith in
    rw e (numbers_each P (suc j) n a.1 k (omega arith))

pub all_numbers : (P : ℕ → Type 0) (n : ℕ) → All P (numbers 0 n) → (k : ℕ) → k < n → P k
all_numbers P n a k lt = let e : 0 + k ≡ k = omega arith in rw e at (numbers_each P 0 n a k lt)

pub none_marked : (ms leads : List ℕ) (s : ℕ) → first_lowest ms leads s ≡ none → (j : ℕ) → j < s → get_or ms j 0 ≡ 0
unfolding first_lowest
none_marked ms leads s e = all_numbers _ s (none_found (lead_of leads) _ (unmarked ms) (numbers 0 s) e)

module _ {L : Type 0} (z : L) where
  numbers_get : (l : List L) (j n : ℕ) → j + n ≡ length l → map (λ (k : ℕ). get_or l k z) (numbers j n) ≡ drop j l
  unfolding numbers
  numbers_get l j zero e = sym (drop_of_length-le l {i = j} (omega arith))
  numbers_get l j (suc n) e =
      ap (λ (r : List L). get_or l j z ∷ r) (numbers_get l (suc j) n (omega arith)) ∙ sym (drop-cons l j z (omega arith))

  scan_lines : (lead : L → ℕ) {P : L → Type 0} (test : (e : L) → Dec (P e)) (es : List L) (ms leads : List ℕ)
      → ((j : ℕ) → j < length es → Alike lead test (λ (k : ℕ). get_or es k z) (lead_of leads) (unmarked ms) j)
      → lowest lead test none es ≡ Option.map (λ (j : ℕ). get_or es j z) (first_lowest ms leads (length es))
  unfolding first_lowest
  scan_lines lead test es ms leads alike =
      ap (lowest lead test none) (sym (numbers_get es 0 (length es) (omega arith)))
      ∙ lowest_alike lead test (λ (k : ℕ). get_or es k z) (lead_of leads) (unmarked ms) (numbers 0 (length es)) none tt
      (numbers_all _ 0 (length es) (λ k lt. alike k (omega arith)))

  pub line_some : (l : List L) (r : ℕ) → r < length l → get_elem? l r ≡ some (get_or l r z)
  line_some [] r lt = absurd (omega arith)
  line_some (e ∷ l) zero lt = refl
  line_some (e ∷ l) (suc r) lt = line_some l r (omega arith)

  pub line_none : (l : List L) (r : ℕ) → length l ≤ r → get_elem? l r ≡ none
  line_none [] r le = refl
  line_none (e ∷ l) zero le = absurd (omega arith)
  line_none (e ∷ l) (suc r) le = line_none l r (omega arith)

  pub scanned : (lead : L → ℕ) {P : L → Type 0} (test : (e : L) → Dec (P e)) (es : List L) (ms leads : List ℕ) (n : ℕ) (o : Option ℕ)
      → length es ≡ n → o ≡ first_lowest ms leads n
      → ((j : ℕ) → j < n → Alike lead test (λ (k : ℕ). get_or es k z) (lead_of leads) (unmarked ms) j)
      → Option.map (λ (j : ℕ). get_or es j z) o ≡ lowest lead test none es
  scanned lead test es ms leads n o size e alike =
      let e' : o ≡ first_lowest ms leads (length es) = rw size e in
      ap (Option.map (λ (j : ℕ). get_or es j z)) e' ∙ sym (scan_lines lead test es ms leads (λ j lt. alike j (omega arith)))
