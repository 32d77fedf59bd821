-- What no refusal leaves true.
--
--   total-most, largest-most    lengths up to n: their sum is at most n for each, and the largest at most n
--   up_to_largest         no length is above the largest
--   Counts c              what the checks 1 to 4 leave; counted, from them and whatever checks follow; counts_of, from them alone
--   PassedEncoding, PassedReading, PassedDecoding    what the checks of a call leave; encoding, reading, decoding, from them
--   PassedArray           what 1 to 7 of decoding leave; arrays, from them; counts_of_array, of those what 1 to 4 leave
--   checked               and of 18, that no k equals n
--   code_passes, up_to_seven, arrays_pass, decoding_passes    and the reverse: where that holds, no check applies; up to 7, whatever
--                         the symbols
-- Assumes nothing.
use mathlib.Core.Path.{◌≡◌, sym, ap, ap₂, ◌∙◌}
use mathlib.Core.Bool.{Bool, false, not}
use mathlib.Core.List.{List, [], ◌∷◌, ◌++◌}
use Prim.Native.Nat.{ℕ, zero, suc, ◌*◌, ◌≤◌, ◌<◌}
use native.Mathlib.Nat.{suc-mul, mul-le-mul}
use native.Mathlib.Omega.{arith}
use lib.Dec.{eqb, ltb}
use lib.ListN.{length, get_or, replicate, length-replicate}
use borrow.Author.Tests.{eq-eqb, eqb-true, le-ltb, ltb-false, not-false}
use Rattle.refusal.specs.Refusal.{Check, ◌when◌, first, bad_degree, outside, bad_points, some_outside_field}
use Rattle.refusal.proofs.Laws.{within}
use Rattle.refusal.proofs.Ladders.{clear, miss, miss_last}
use Rattle.field.proofs.Instance.{field}
use Rattle.codes.specs.Code.{Code, columns, rows, total, largest, IsMessage, IsArray, joint_limit}
use Rattle.codes.specs.Factors.{Description}
use Rattle.codes.specs.Checks.{unchecked, code_checks, bad_factors, wrong_length, space_bytes, buffer_checks, encode_checks, read_checks}
use Rattle.codes.specs.Checks.{array_checks_of, decode_checks}
use Rattle.codes.proofs.Proper.{Within, Proper, neither, lengths_test, symbols_test, points_test, proper, array, message}
use Rattle.codes.proofs.Factors.{Factors, factors_test}

pub total-most : (n : ℕ) (ks : List ℕ) → Within 1 n ks → total ks ≤ length ks * n
unfolding total
total-most n [] h = omega arith
total-most n (k ∷ ks) h = omega (arith, suc-mul (length ks) n, h.0.1, total-most n ks h.1)

pub largest-most : (n : ℕ) (ks : List ℕ) → Within 1 n ks → largest ks ≤ n
unfolding largest
largest-most n [] h = omega arith
largest-most n (k ∷ ks) h = omega (arith, h.0.1, largest-most n ks h.1)

pub up_to_largest : (ks : List ℕ) (l : ℕ) → l < length ks → get_or ks l 0 ≤ largest ks
unfolding largest
up_to_largest [] l h = absurd (omega arith)
up_to_largest (k ∷ ks) zero h = omega arith
up_to_largest (k ∷ ks) (suc l) h = omega (arith, up_to_largest ks l (omega arith))

pub record Counts (c : Code) : Type 0 where
  pub degree : bad_degree c.degree ≡ false
  pub some_rows : 1 ≤ rows c
  pub most_rows : rows c ≤ 4
  pub some_columns : 1 ≤ columns c
  pub most_columns : columns c ≤ 96
  pub lengths : Within 1 (columns c) c.lengths
  pub fits : total c.lengths ≤ rows c * columns c
  pub cells : rows c * columns c ≤ 384

pub counted : (c : Code) (ds : List Check) → 0 ≡ first (code_checks c ++ ds) → Counts c × (0 ≡ first ds)
counted c ds e =
    let p₁ = clear 0 _ _ e in
    let p₂ = clear 1 _ _ p₁.1 in
    let p₃ = clear 2 _ _ p₂.1 in
    let p₄ = clear 3 _ _ p₃.1 in
    let p₁₈ = clear 17 _ _ p₄.1 in
    let r = within 1 4 (rows c) p₂.0 in
    let n = within 1 96 (columns c) p₃.0 in
    let k = (lengths_test 1 (columns c) c.lengths).0 p₄.0 in (
      record {
        degree = p₁.0;
        some_rows = r.0;
        most_rows = r.1;
        some_columns = n.0;
        most_columns = n.1;
        lengths = k;
        fits = total-most (columns c) c.lengths k;
        cells = mul-le-mul r.1 n.1;
      },
      p₁₈.1,
    )

pub checked : (c : Code) (ds : List Check) → 0 ≡ first (code_checks c ++ ds) → unchecked c ≡ false
checked c ds e = (clear 17 _ _ (clear 3 _ _ (clear 2 _ _ (clear 1 _ _ (clear 0 _ _ e).1).1).1).1).0

pub counts_of : (c : Code) {k : ℕ} → k ≡ first (code_checks c) → k ≡ 0 → Counts c
counts_of c e z = (counted c [] (sym z ∙ e)).0

-- what the calls have in common: b is the test of the lengths of buffers, s the symbols that are input
record Common (D : Description) (b : Bool) (s : List ℕ) (ds : List Check) : Type 0 where
  counts : Counts D.code
  proper : Proper D.code
  buffers : b ≡ false
  factors : bad_factors D.code.degree D.factors ≡ false
  symbols : some_outside_field D.code.degree s ≡ false
  rest : 0 ≡ first ds

module _ (D : Description) where
  open D use {code, factors}
  open code use {degree, points, lengths}

  common : (b : Bool) (s : List ℕ) (ds : List Check)
      → 0 ≡ first (code_checks code ++ (5 when b) ∷ (6 when bad_points degree points) ∷ (23 when bad_factors degree factors)
      ∷ (7 when some_outside_field degree s) ∷ ds)
      → Common D b s ds
  common b s ds e =
      let p = counted code _ e in
      let p₅ = clear 4 _ _ p.1 in
      let p₆ = clear 5 _ _ p₅.1 in
      let p₂₃ = clear 22 _ _ p₆.1 in
      let p₇ = clear 6 _ _ p₂₃.1 in
      record {
        counts = p.0;
        proper = proper code (field degree p.0.degree) ((lengths_test 1 (columns code) lengths).1 p.0.lengths) p₆.0;
        buffers = p₅.0;
        factors = p₂₃.0;
        symbols = p₇.0;
        rest = p₇.1;
      }

pub right-length : (n : ℕ) (l : List ℕ) → wrong_length n l ≡ false → length l ≡ n
right-length n l e = eqb-true (length l) n (not-false _ e)

pub is_right : (n : ℕ) (l : List ℕ) → length l ≡ n → wrong_length n l ≡ false
is_right n l e = ap not (eq-eqb (length l) n e)

pub factors_of : (D : Description) → wrong_length (columns D.code) D.factors ≡ false
    → bad_factors D.code.degree D.factors ≡ false
    → Factors D
factors_of D l e = record { count = right-length _ D.factors l; symbols = (factors_test D.code.degree D.factors).0 e }

-- what encoding and reading have in common, of a message m and an array a of which one is the input s
record Coding (c : Code) (m a s : List ℕ) : Type 0 where
  counts : Counts c
  proper : Proper c
  message_long : length m ≡ total c.lengths
  array_long : length a ≡ rows c * columns c
  symbols : some_outside_field c.degree s ≡ false

coding : (D : Description) (m a s : List ℕ) → 0 ≡ first (code_checks D.code ++ buffer_checks D m a s) → Coding D.code m a s × Factors D
coding D m a s e =
    let c = D.code in
    let p = common D _ s [] e in
    let (lengths, factors) = (neither _ (wrong_length (columns c) D.factors)).0 p.buffers in
    let (long, wide) = (neither (wrong_length (total c.lengths) m) (wrong_length (rows c * columns c) a)).0 lengths in (
      record {
        counts = p.counts;
        proper = p.proper;
        message_long = right-length _ m long;
        array_long = right-length _ a wide;
        symbols = p.symbols;
      },
      factors_of D factors p.factors,
    )

pub record PassedEncoding (c : Code) (m a : List ℕ) : Type 0 where
  pub counts : Counts c
  pub proper : Proper c
  pub message : IsMessage c m
  pub array : length a ≡ rows c * columns c

pub encoding : (D : Description) (m a : List ℕ) → 0 ≡ first (encode_checks D m a) → PassedEncoding D.code m a × Factors D
encoding D m a e = let (p, factors) = coding D m a m e in (
  record { counts = p.counts; proper = p.proper; message = message D.code m p.message_long p.symbols; array = p.array_long },
  factors,
)

pub record PassedReading (c : Code) (a m : List ℕ) : Type 0 where
  pub counts : Counts c
  pub proper : Proper c
  pub array : IsArray c a
  pub message : length m ≡ total c.lengths

pub reading : (D : Description) (a m : List ℕ) → 0 ≡ first (read_checks D a m) → PassedReading D.code a m × Factors D
reading D a m e = let (p, factors) = coding D m a a e in (
  record { counts = p.counts; proper = p.proper; array = array D.code a p.array_long p.symbols; message = p.message_long },
  factors,
)

-- what 1 to 7 of decoding leave
pub record PassedArray (c : Code) (y a f w : List ℕ) : Type 0 where
  pub counts : Counts c
  pub proper : Proper c
  pub received : IsArray c y
  pub answer : length a ≡ rows c * columns c
  pub flags : length f ≡ columns c
  pub space : space_bytes ≤ length w

pub arrays : (D : Description) (y a f w : List ℕ) (ds : List Check) → 0 ≡ first (array_checks_of D y a f w ++ ds)
    → PassedArray D.code y a f w × Factors D × (0 ≡ first ds)
arrays D y a f w ds e =
    let p = common D _ y ds e in
    let l₄ = (neither _ (wrong_length (columns D.code) D.factors)).0 p.buffers in
    let l₃ = (neither _ (ltb (length w) space_bytes)).0 l₄.0 in
    let l₂ = (neither _ (wrong_length (columns D.code) f)).0 l₃.0 in
    let l₁ = (neither (wrong_length (rows D.code * columns D.code) y) (wrong_length (rows D.code * columns D.code) a)).0
    l₂.0 in (
      record {
        counts = p.counts;
        proper = p.proper;
        received = array D.code y (right-length _ y l₁.0) p.symbols;
        answer = right-length _ a l₁.1;
        flags = right-length _ f l₂.1;
        space = ltb-false (length w) space_bytes l₃.1;
      },
      factors_of D l₄.1 p.factors,
      p.rest,
    )

-- from the number that a function of the buffers' lengths answers
pub counts_of_array : (D : Description) (y : List ℕ) {k n m s : ℕ}
    → ((a f w : List ℕ) → length a ≡ n → length f ≡ m → length w ≡ s → k ≡ first (array_checks_of D y a f w)) → k ≡ 0 → Counts D.code
counts_of_array D y {k} {n} {m} {s} e z = (counted D.code _
    (sym z ∙ e (replicate n 0) (replicate m 0) (replicate s 0) (length-replicate n 0) (length-replicate m 0) (length-replicate s 0))).0

pub record PassedDecoding (c : Code) (τ : ℕ) (y a f w : List ℕ) : Type 0 where
  pub array : PassedArray c y a f w
  pub limit : τ ≤ joint_limit c

pub decoding : (D : Description) (τ : ℕ) (y a f w : List ℕ) → 0 ≡ first (decode_checks D τ y a f w)
    → PassedDecoding D.code τ y a f w × Factors D
decoding D τ y a f w e =
    let (array, factors, rest) = arrays D y a f w _ e in
    (record { array = array; limit = ltb-false (joint_limit D.code) τ (clear 7 _ _ rest).0 }, factors)

-- the reverse

inside : (lo hi n : ℕ) → lo ≤ n → n ≤ hi → outside lo hi n ≡ false
unfolding outside
inside lo hi n l h = (neither _ _).1 (le-ltb n lo l, le-ltb hi n h)

pub code_passes : (c : Code) (ds : List Check) → Counts c → unchecked c ≡ false → first (code_checks c ++ ds) ≡ first ds
code_passes c ds h u =
    miss 1 _ _ h.degree
    ∙ miss 2 _ _ (inside 1 4 (rows c) h.some_rows h.most_rows)
    ∙ miss 3 _ _ (inside 1 96 (columns c) h.some_columns h.most_columns)
    ∙ miss 4 _ _ ((lengths_test 1 (columns c) c.lengths).1 h.lengths)
    ∙ miss 18 _ _ u

module _ (D : Description) (n : Counts D.code) (o : Proper D.code) (h : Factors D) (u : unchecked D.code ≡ false) where
  -- with buffers of the right lengths
  pub up_to_seven : (y a f w : List ℕ) → length y ≡ rows D.code * columns D.code → length a ≡ rows D.code * columns D.code
      → length f ≡ columns D.code → space_bytes ≤ length w → (ds : List Check)
      → first (array_checks_of D y a f w ++ ds) ≡ first ((7 when some_outside_field D.code.degree y) ∷ ds)
  up_to_seven y a f w received answer flags space ds =
      code_passes D.code _ n u
      ∙ miss 5 _ _ ((neither _ (wrong_length (columns D.code) D.factors)).1 (
        (neither _ (ltb (length w) space_bytes)).1 (
          (neither _ (wrong_length (columns D.code) f)).1 (
            (neither (wrong_length (rows D.code * columns D.code) y) _).1 (is_right _ y received, is_right _ a answer),
            is_right _ f flags,
          ),
          le-ltb (length w) space_bytes space,
        ),
        is_right _ D.factors h.count,
      ))
      ∙ miss 6 _ _ ((points_test D.code.degree D.code.points).1 (o.symbols, o.distinct))
      ∙ miss 23 _ _ ((factors_test D.code.degree D.factors).1 h.symbols)

module _ (D : Description) (h : Factors D) {y a f w : List ℕ} (p : PassedArray D.code y a f w) (u : unchecked D.code ≡ false) where
  pub arrays_pass : (ds : List Check) → first (array_checks_of D y a f w ++ ds) ≡ first ds
  arrays_pass ds =
      up_to_seven D p.counts p.proper h u y a f w p.received.count p.answer p.flags p.space ds
      ∙ miss 7 _ _ ((symbols_test D.code.degree y).1 p.received.symbols)

  pub decoding_passes : {τ : ℕ} → τ ≤ joint_limit D.code → first (decode_checks D τ y a f w) ≡ 0
  decoding_passes {τ} l = arrays_pass _ ∙ miss_last 8 _ (le-ltb (joint_limit D.code) τ l)

-- a test of a length, where the code has the length and the right one as numbers
pub as_tested : {x n n' : ℕ} (l : List ℕ) → length l ≡ x → n' ≡ n → wrong_length n l ≡ not (eqb x n')
as_tested l p e = ap₂ (λ (a b : ℕ). not (eqb a b)) p (sym e)
