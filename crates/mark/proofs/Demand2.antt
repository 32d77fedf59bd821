-- Demand 2, from the promises of encoding and reading alone: whatever keeps them does what is said here.
--
--   encodes_unique, reads_unique    no two distinct outcomes keep the promise
--   encode_done, encode_array       encoding is done exactly when no check applies, and then leaves exactly the message's code array
--   encode_refused                  otherwise it answers the first check's number, and leaves the buffer as lent
--   read_done, read_message         reading is done exactly when no check applies and the array is a code array, with its message
--   read-refused                    otherwise it answers the first check's number, or 9, and leaves the buffer as lent
--   array_passes                    an array of the code passes the checks of reading
--   read_written                    reading what encoding wrote gives the message back
--   one_to_one                      no array is written for two messages: an encoder that writes one fixed array is shut out
--   nothing_written                 P3: an encoder that writes nothing is shut out
--   last_skipped                    P3: a reader that skips the last column is shut out
--   six_first                       points 1 2 1 and too long a message: an encoder that makes check 6 before 5 is shut out
-- Assumes nothing.
use mathlib.Core.Path.{◌≡◌, refl, sym, ◌∙◌, ap}
use mathlib.Core.Logic.{◌↔◌, ◌⊎◌}
use mathlib.Core.List.{List, [], ◌∷◌}
use Prim.Native.Nat.{ℕ, ◌*◌}
use native.Mathlib.Omega.{arith}
use lib.ListN.{length, get_or}
use Rattle.refusal.specs.Refusal.{first, bad_degree, outside, some_outside, is_in}
use Rattle.refusal.proofs.Ladders.{passed_on, front_passed}
use Rattle.field.specs.Symbols.{plus, modulus, times_x, times_low, times}
use Rattle.poly.specs.Poly.{value, values_at}
use Rattle.codes.specs.Code.{Code, code_of, rows, columns, total, IsMessage, IsArray, encoded_rows}
use Rattle.codes.specs.Factors.{Description, with_factors_row, with_factors, divided, encoded_by, CodeArrayBy, plain}
use Rattle.codes.specs.Checks.{code_checks, wrong_length, buffer_checks, encode_checks, read_checks}
use Rattle.codes.proofs.Proper.{Proper, neither, points_test, symbols_test}
use Rattle.codes.proofs.Passed.{is_right, encoding, reading}
use Rattle.codes.proofs.Messages.{encoded_array, one_message}
use Rattle.codes.proofs.Factors.{Factors, factors_test, is_multiplied, divided-multiplied}
use Rattle.refusal.specs.Meaning.{refusal}
use Rattle.mark.specs.Promises.{success, Left, Encodes, Reads, done, refused}
use Rattle.mark.proofs.Promised.{writes_unique, write_done, write_is, write_refused}
use Rattle.mark.proofs.Promised.{finds, finds_unique, find_done, find_message, find_refused}

module _ (D : Description) (m lent : List ℕ) where
  pub encodes_unique : (x y : Left) → Encodes D m lent x → Encodes D m lent y → x ≡ y
  encodes_unique = writes_unique (encode_checks D m lent) (encoded_by D m) lent

  module _ (x : Left) (h : Encodes D m lent x) where
    pub encode_done : (x.outcome ≡ success) ↔ (first (encode_checks D m lent) ≡ 0)
    encode_done = write_done (encode_checks D m lent) (encoded_by D m) lent x h

    pub encode_array : x.outcome ≡ success → x.buffer ≡ encoded_by D m
    encode_array = write_is (encode_checks D m lent) (encoded_by D m) lent x h

    pub encode_refused : (k : ℕ) → x.outcome ≡ refusal k → (first (encode_checks D m lent) ≡ k) × (x.buffer ≡ lent)
    encode_refused = write_refused (encode_checks D m lent) (encoded_by D m) lent x h

-- no array is struck for two messages
one_struck : {D : Description} → Proper D.code → Factors D → {m m' : List ℕ} → IsMessage D.code m → IsMessage D.code m'
    → encoded_by D m ≡ encoded_by D m' → m ≡ m'
one_struck {D} p h i i' e = one_message p i i'
    (sym (divided-multiplied D p h (encoded_array p i)) ∙ ap (divided D) e ∙ divided-multiplied D p h (encoded_array p i'))

module _ (D : Description) (a lent : List ℕ) where
  pub reads_unique : (x y : Left) → Reads D a lent x → Reads D a lent y → x ≡ y
  reads_unique = finds_unique (read_checks D a lent) (IsMessage D.code) (encoded_by D) a lent
      (λ z m m' i i' e. let (passed, h) = reading D a lent z in one_struck passed.proper h i i' e)

  module _ (x : Left) (h : Reads D a lent x) where
    pub read_done : (x.outcome ≡ success) ↔ ((first (read_checks D a lent) ≡ 0) × CodeArrayBy D a)
    read_done = find_done (read_checks D a lent) (IsMessage D.code) (encoded_by D) a lent x h

    pub read_message : x.outcome ≡ success → IsMessage D.code x.buffer × (encoded_by D x.buffer ≡ a)
    read_message = find_message (read_checks D a lent) (IsMessage D.code) (encoded_by D) a lent x h

    pub read-refused : (k : ℕ) → x.outcome ≡ refusal k
        → ((first (read_checks D a lent) ≡ k) ⊎ ((k ≡ 9) × (CodeArrayBy D a → ⊥))) × (x.buffer ≡ lent)
    read-refused = find_refused (read_checks D a lent) (IsMessage D.code) (encoded_by D) a lent x h

-- an array of the code passes the checks of reading, with a buffer of the right length
pub array_passes : (D : Description) (a lent : List ℕ) → Proper D.code → Factors D → 0 ≡ first (code_checks D.code)
    → IsArray D.code a
    → length lent ≡ total D.code.lengths → first (read_checks D a lent) ≡ 0
unfolding first
array_passes D a lent p h z i e =
    let c : Code = D.code in
    let five = (neither _ (wrong_length (columns c) D.factors)).1 (
      (neither (wrong_length (total c.lengths) lent)
          (wrong_length (rows c * columns c) a)).1 (is_right _ lent e, is_right _ a i.count),
      is_right _ D.factors h.count,
    ) in
    let six = (points_test c.degree c.points).1 (p.symbols, p.distinct) in
    let twenty_three = (factors_test c.degree D.factors).1 h.symbols in
    let seven = (symbols_test c.degree a).1 i.symbols in
    passed_on (code_checks c) (buffer_checks D lent a a) tt z refl ∙ simp (five, six, twenty_three, seven)

module _ (D : Description) (m lent a : List ℕ) (written : Encodes D m lent (done a)) where
  passed : 0 ≡ first (encode_checks D m lent)
  passed = sym ((encode_done D m lent (done a) written).0 refl)

  -- reading gives back what was encoded
  pub read_written : (old : List ℕ) (x : Left) → length old ≡ length m → Reads D a old x → x ≡ done m
  read_written old x e h =
      let (ok, factors) = encoding D m lent passed in
      let is : a ≡ encoded_by D m = encode_array D m lent (done a) written refl in
      let i : IsArray D.code a = rw is (is_multiplied D ok.proper factors (encoded_array ok.proper ok.message)) in
      let z : first (read_checks D a old) ≡ 0 =
      array_passes D a old ok.proper factors (front_passed (code_checks D.code) _ tt passed) i (e ∙ ok.message.count) in
      reads_unique D a old x (done m) h (finds (read_checks D a old) (IsMessage D.code) (encoded_by D) a old (sym z) ok.message
      (sym is))

  pub one_to_one : (m' lent' : List ℕ) → Encodes D m' lent' (done a) → m ≡ m'
  one_to_one m' lent' h =
      let (ok, factors) = encoding D m lent passed in
      let (ok', factors') = encoding D m' lent' (sym ((encode_done D m' lent' (done a) h).0 refl)) in
      one_struck ok.proper factors ok.message ok'.message
      (sym (encode_array D m lent (done a) written refl) ∙ encode_array D m' lent' (done a) h refl)

-- 'P3: points 1 2 4 8 3, k=3, message 2 3 1 encodes to 0 0 13 5 2.'
abbrev pub p3 : Description
p3 = plain (code_of 4 (1 ∷ 2 ∷ 4 ∷ 8 ∷ 3 ∷ []) (3 ∷ []))

p3_encoded : encoded_by p3 (2 ∷ 3 ∷ 1 ∷ []) ≡ 0 ∷ 0 ∷ 13 ∷ 5 ∷ 2 ∷ []
unfolding with_factors with_factors_row encoded_rows values_at value times times_low times_x modulus plus
p3_encoded = refl

abbrev pub zeros : List ℕ
zeros = 0 ∷ 0 ∷ 0 ∷ 0 ∷ 0 ∷ []

pub nothing_written : Encodes p3 (2 ∷ 3 ∷ 1 ∷ []) zeros (done zeros) → ⊥
nothing_written h =
    let e = encode_array p3 (2 ∷ 3 ∷ 1 ∷ []) zeros (done zeros) h refl ∙ p3_encoded in
    let z : ◌≡◌ {A = ℕ} 0 13 = ap (λ (l : List ℕ). get_or l 2 0) e in
    omega arith

-- in column 4 stands 3, and not 2
abbrev pub wrong : List ℕ
wrong = 0 ∷ 0 ∷ 13 ∷ 5 ∷ 3 ∷ []

pub last_skipped : (lent : List ℕ) → Reads p3 wrong lent (done (2 ∷ 3 ∷ 1 ∷ [])) → ⊥
last_skipped lent h =
    let e = sym p3_encoded ∙ (read_message p3 wrong lent (done (2 ∷ 3 ∷ 1 ∷ [])) h refl).1 in
    let z : ◌≡◌ {A = ℕ} 2 3 = ap (λ (l : List ℕ). get_or l 4 0) e in
    omega arith

-- 'Points 1 2 1: refused 6'; with a message of three for k = 2 it is 5
pub six_first : (lent : List ℕ) → Encodes (plain (code_of 4 (1 ∷ 2 ∷ 1 ∷ []) (2 ∷ []))) (5 ∷ 6 ∷ 7 ∷ []) lent (refused lent 6) → ⊥
unfolding first bad_degree outside some_outside is_in total
six_first lent h = let z = (encode_refused (plain (code_of 4 (1 ∷ 2 ∷ 1 ∷ []) (2 ∷ []))) (5 ∷ 6 ∷ 7 ∷ []) lent
    (refused lent 6) h 6 refl).0 in omega arith
