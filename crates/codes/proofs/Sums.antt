-- Sums of arrays: what they are by their parts, with factors, and that adding a code array moves no check.
--
--   take-add, drop-add, add-append, get_or-add    sums of lists by their parts; length-sum, how long they are
--   add-again, plus-again    what is added twice is not there
--   values_add          the values of a sum
--   same_symbols        adding symbols of the field takes no symbol into it, and none out of it
--   is_array_sum        the sum of two arrays is one
--   multiplied-add      the multiples of a sum
--   added-divided       the quotient of a sum with what was struck for a message is that with the message's code array
--   added-checks        the checks of a decoding apply to a sum as they did without
-- Assumes nothing.
use mathlib.Core.Path.{◌≡◌, refl, sym, ap, ap₂, ◌∙◌, subst}
use mathlib.Core.Bool.{Bool, not, ◌||◌}
use mathlib.Core.List.{List, [], ◌∷◌, ◌++◌}
use Prim.Native.Nat.{ℕ, zero, suc, ◌*◌, ◌^◌, ◌≤◌, ◌<◌}
use native.Mathlib.Omega.{arith}
use native.Mathlib.Decide.{dec_lt}
use lib.Dec.{eqb, leb, ltb}
use lib.ListN.{length, get_or, take, drop}
use borrow.Author.Tests.{le-leb, lt-leb}
use Rattle.refusal.specs.Refusal.{Check, ◌when◌, first, bad_points, outside_field, some_outside_field}
use Rattle.refusal.proofs.Ladders.{clear, same_behind}
use Rattle.field.specs.Symbols.{IsSymbol, plus, times}
use Rattle.field.specs.Arithmetic.{Arithmetic, gf}
use Rattle.field.proofs.Laws.{Field}
use Rattle.field.proofs.Sums.{plus_assoc, plus_self, zero_plus, plus-zero, plus_below}
use Rattle.field.proofs.Instance.{field}
use Rattle.poly.specs.Poly.{All, values_at, add}
use Rattle.poly.proofs.Sums.{length-add, symbols_add, add-nil, add_comm, add_assoc, add-self, add-zero}
use Rattle.poly.proofs.Values.{value-add}
use Rattle.codes.specs.Code.{Code, columns, rows, IsArray, encoded}
use Rattle.codes.specs.Factors.{Description, with_factors_row, with_factors, multiplied, divided, CodeArrayBy}
use Rattle.codes.specs.Checks.{code_checks, wrong_length, space_bytes, bad_factors, array_checks_of}
use Rattle.codes.specs.Added.{Added}
use Rattle.codes.proofs.Proper.{Proper, proper, neither, lengths_test}
use Rattle.codes.proofs.Messages.{encoded_array}
use Rattle.codes.proofs.Parts.{row_length, rest_length}
use Rattle.codes.proofs.Factors.{Factors, factors_test, length_row, multiplied-divided, divided-multiplied, is_divided, struck_array}
use Rattle.codes.proofs.Passed.{counted, right-length}

module _ {K : Type 0} (A : Arithmetic K) (𝓕 : Field A) where
  infixl 60 ◌⊕◌
  open A use {plus as ◌⊕◌}

  pub take-add : (n : ℕ) (p q : List K) → take n (add A p q) ≡ add A (take n p) (take n q)
  unfolding add
  take-add zero p q = refl
  take-add (suc n) [] q = refl
  take-add (suc n) (a ∷ p) [] = refl
  take-add (suc n) (a ∷ p) (b ∷ q) = ap (λ (l : List K). (a ⊕ b) ∷ l) (take-add n p q)

  pub drop-add : (n : ℕ) (p q : List K) → drop n (add A p q) ≡ add A (drop n p) (drop n q)
  unfolding add
  drop-add zero p q = refl
  drop-add (suc n) [] q = refl
  drop-add (suc n) (a ∷ p) [] = sym (add-nil A 𝓕 (drop n p))
  drop-add (suc n) (a ∷ p) (b ∷ q) = drop-add n p q

  pub add-append : (p q u v : List K) → length p ≡ length u → add A (p ++ q) (u ++ v) ≡ add A p u ++ add A q v
  unfolding add
  add-append [] q [] v e = refl
  add-append [] q (c ∷ u) v e = absurd (omega arith)
  add-append (a ∷ p) q [] v e = absurd (omega arith)
  add-append (a ∷ p) q (c ∷ u) v e = ap (λ (l : List K). (a ⊕ c) ∷ l) (add-append p q u v (omega arith))

  pub add-again : (p q : List K) → length q ≤ length p → add A (add A p q) q ≡ p
  add-again p q h =
      add_assoc A 𝓕 p q q ∙ add_comm A 𝓕 p (add A q q) ∙ add-zero A 𝓕 (add A q q) p (add-self A 𝓕 q) (omega (arith, length-add A 𝓕 q q))

  pub values_add : (xs p q : List K) → values_at A xs (add A p q) ≡ add A (values_at A xs p) (values_at A xs q)
  unfolding values_at add
  values_add [] p q = refl
  values_add (x ∷ xs) p q = ap₂ ◌∷◌ (value-add A 𝓕 p q x) (values_add xs p q)

-- ---- of numbers, over any degree

-- two lists of one length
pub length-sum : (d : ℕ) (y a : List ℕ) → length y ≡ length a → length (add (gf d) y a) ≡ length y
unfolding add
length-sum d [] [] e = refl
length-sum d [] (b ∷ a) e = absurd (omega arith)
length-sum d (x ∷ y) [] e = refl
length-sum d (x ∷ y) (b ∷ a) e = ap suc (length-sum d y a (omega arith))

-- a number added twice is not there
pub plus-again : (x a : ℕ) → plus (plus x a) a ≡ x
plus-again x a = plus_assoc x a a ∙ ap (plus x) (plus_self a) ∙ plus-zero x

pub get_or-add : (d : ℕ) (p q : List ℕ) (i : ℕ) → get_or (add (gf d) p q) i 0 ≡ plus (get_or p i 0) (get_or q i 0)
unfolding add
get_or-add d [] q i = sym (zero_plus (get_or q i 0))
get_or-add d (a ∷ p) [] zero = sym (plus-zero a)
get_or-add d (a ∷ p) [] (suc i) = sym (plus-zero (get_or p i 0))
get_or-add d (a ∷ p) (b ∷ q) zero = refl
get_or-add d (a ∷ p) (b ∷ q) (suc i) = get_or-add d p q i

-- a symbol of the field takes no number into it, and none out of it
same_side : (d y a : ℕ) → IsSymbol d a → outside_field d (plus y a) ≡ outside_field d y
unfolding outside_field
same_side d y a h = go (dec_lt y (2 ^ d))
  where
    go : Dec (y < 2 ^ d) → leb (2 ^ d) (plus y a) ≡ leb (2 ^ d) y
    go (yes k) = lt-leb (2 ^ d) (plus y a) (plus_below d y a k h) ∙ sym (lt-leb (2 ^ d) y k)
    go (no k) = le-leb (2 ^ d) (plus y a) (above (dec_lt (plus y a) (2 ^ d))) ∙ sym (le-leb (2 ^ d) y (omega arith))
      where
        above : Dec (plus y a < 2 ^ d) → 2 ^ d ≤ plus y a
        above (yes l) = absurd (k (subst (λ (z : ℕ). z < 2 ^ d) (plus-again y a) (plus_below d (plus y a) a l h)))
        above (no l) = omega arith

pub same_symbols : (d : ℕ) (y a : List ℕ) → length y ≡ length a → All (IsSymbol d) a
    → some_outside_field d (add (gf d) y a) ≡ some_outside_field d y
unfolding add some_outside_field
same_symbols d [] [] e h = refl
same_symbols d [] (b ∷ a) e h = absurd (omega arith)
same_symbols d (x ∷ y) [] e h = refl
same_symbols d (x ∷ y) (b ∷ a) e h = ap₂ ◌||◌ (same_side d x b h.0) (same_symbols d y a (omega arith) h.1)

-- ---- with factors

module _ (d : ℕ) (𝓕 : Field (gf d)) where
  infixl 60 ◌⊞◌
  abbrev ◌⊞◌ : List ℕ → List ℕ → List ℕ
  p ⊞ q = add (gf d) p q

  row_add : (fs p q : List ℕ) → length p ≡ length fs → length q ≡ length fs
      → with_factors_row (times d) fs (p ⊞ q) ≡ with_factors_row (times d) fs p ⊞ with_factors_row (times d) fs q
  unfolding with_factors_row add
  row_add [] p q e k = refl
  row_add (c ∷ fs) [] q e k = absurd (omega arith)
  row_add (c ∷ fs) (a ∷ p) [] e k = absurd (omega arith)
  row_add (c ∷ fs) (a ∷ p) (b ∷ q) e k = ap₂ ◌∷◌ (𝓕.times_plus c a b) (row_add fs p q (omega arith) (omega arith))

  with_add : (fs : List ℕ) (r : ℕ) (p q : List ℕ) → length p ≡ r * length fs → length q ≡ r * length fs
      → with_factors (times d) fs r (p ⊞ q) ≡ with_factors (times d) fs r p ⊞ with_factors (times d) fs r q
  unfolding with_factors add
  with_add fs zero p q e k = refl
  with_add fs (suc r) p q e k =
      let n : ℕ = length fs in
      let first_p : length (take n p) ≡ n = row_length r n p e in
      let first_q : length (take n q) ≡ n = row_length r n q k in
      ap₂ ◌++◌
      (ap (with_factors_row (times d) fs) (take-add (gf d) 𝓕 n p q) ∙ row_add fs (take n p) (take n q) first_p first_q)
      (ap (with_factors (times d) fs r) (drop-add (gf d) 𝓕 n p q)
      ∙ with_add fs r (drop n p) (drop n q) (rest_length r n p e) (rest_length r n q k))
      ∙ sym (add-append (gf d) 𝓕 (with_factors_row (times d) fs (take n p)) (with_factors (times d) fs r (drop n p))
      (with_factors_row (times d) fs (take n q)) (with_factors (times d) fs r (drop n q))
      (length_row (times d) fs (take n p) first_p ∙ sym (length_row (times d) fs (take n q) first_q)))

pub is_array_sum : {c : Code} → Proper c → {a b : List ℕ} → IsArray c a → IsArray c b → IsArray c (add (gf c.degree) a b)
is_array_sum {c} p {a} {b} h g = record {
  count = omega (arith, length-add (gf c.degree) p.field a b, h.count, g.count);
  symbols = symbols_add (gf c.degree) p.field a b h.symbols g.symbols;
}

module _ (D : Description) (p : Proper D.code) (f : Factors D) where
  open D use {code, factors}
  open code use {degree}

  pub multiplied-add : {a b : List ℕ} → IsArray code a → IsArray code b
      → multiplied D (add (gf degree) a b) ≡ add (gf degree) (multiplied D a) (multiplied D b)
  multiplied-add {a} {b} h g = with_add degree p.field factors (rows code) a b (size h) (size g)
    where
      size : {a : List ℕ} → IsArray code a → length a ≡ rows code * length factors
      size i = i.count ∙ ap (λ (n : ℕ). rows code * n) (sym f.count)

  pub added-divided : {y a z : List ℕ} → IsArray code y → (h : Added (CodeArrayBy D) degree y a z)
      → divided D z ≡ add (gf degree) (divided D y) (encoded code h.code.0)
  added-divided {y} {a} {z} i h =
      let m : List ℕ = h.code.0 in
      let quotient = is_divided D p f i in
      let code_array = encoded_array p h.code.1 in
      ap (divided D) (h.sum ∙ ap₂ (add (gf degree)) (sym (multiplied-divided D p f i)) (sym h.code.2)
      ∙ sym (multiplied-add quotient code_array))
      ∙ divided-multiplied D p f (is_array_sum p quotient code_array)

-- ---- of the checks

module _ (D : Description) {y a z : List ℕ} (h : Added (CodeArrayBy D) D.code.degree y a z) (b g w : List ℕ) (ds : List Check) where
  open D use {code, factors}
  open code use {degree, points, lengths}

  -- those before 7, where a list of n symbols is received
  abbrev buffers : ℕ → Bool
  buffers n = not (eqb n (rows code * columns code)) || wrong_length (rows code * columns code) b || wrong_length (columns code) g
      || ltb (length w) space_bytes

  abbrev before : ℕ → List Check
  before n =
      code_checks code
      ++ (5 when buffers n || wrong_length (columns code) factors)
      ∷ (6 when bad_points degree points)
      ∷ (23 when bad_factors degree factors)
      ∷ []

  -- where they pass, a is an array
  symbols : 0 ≡ first (before (length y)) → All (IsSymbol degree) a
  symbols e =
      let (counts, rest) = counted code _ e in
      let p₅ = clear 4 _ _ rest in
      let p₆ = clear 5 _ _ p₅.1 in
      let p₂₃ = clear 22 _ _ p₆.1 in
      let is-proper = proper code (field degree counts.degree) ((lengths_test 1 (columns code) lengths).1 counts.lengths) p₆.0 in
      let is_factors : Factors D = record {
        count = right-length _ factors ((neither (buffers (length y)) (wrong_length (columns code) factors)).0 p₅.0).1;
        symbols = (factors_test degree factors).0 p₂₃.0;
      } in
      (struck_array D is-proper is_factors h.code).symbols

  pub added-checks : first (array_checks_of D z b g w ++ ds) ≡ first (array_checks_of D y b g w ++ ds)
  added-checks = rw h.sum
      (ap (λ (n : ℕ). first (before n ++ (7 when some_outside_field degree (add (gf degree) y a)) ∷ ds)) (length-sum degree y a h.sized)
      ∙ same_behind (before (length y)) _ ((7 when some_outside_field degree y) ∷ ds) tt
      (λ e. ap (λ (t : Bool). first ((7 when t) ∷ ds)) (same_symbols degree y a h.sized (symbols e))))
