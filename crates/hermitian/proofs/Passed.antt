-- What the checks of a call leave true, and that the code of the ring's array passes its own.
--
--   first_of         the first check that applies is one of the checks
--   ring_passed      what 10, 11 and 18 leave, and the checks that follow
--   PassedEncoding, PassedReading, PassedWord, PassedLost, PassedPits    what the checks of a call leave, of decoding 10, 11, 18, 5 and 7,
--                    and all checks with lost sectors, or by wrong symbols; encoding, reading, words, losing, pitting, from them
--   reads_on         a ring passes the checks of reading
--   to_encode, to_read, to_array, to_lose    then no check of the call on the array applies
-- Assumes nothing.
use mathlib.Core.Path.{◌≡◌, refl, sym, ◌∙◌}
use mathlib.Core.Logic.{◌⊎◌, inl, inr, ⊎_elim}
use mathlib.Core.Bool.{true, false}
use mathlib.Core.List.{List, [], ◌∷◌, ◌++◌, map}
use Prim.Native.Nat.{ℕ, ◌+◌, ◌-◌, ◌*◌, ◌/◌, ◌≤◌, ◌<◌}
use native.Mathlib.Omega.{arith}
use lib.Dec.{ltb}
use lib.ListN.{length, length-replicate}
use borrow.Author.Tests.{ltb-false}
use Rattle.refusal.specs.Refusal.{Check, ◌when◌, first, some_outside_field}
use Rattle.refusal.proofs.Ladders.{miss, clear}
use Rattle.field.specs.Symbols.{IsSymbol}
use Rattle.poly.specs.Poly.{All}
use Rattle.poly.proofs.Roots.{Mem}
use Rattle.codes.specs.Code.{Code, rows, columns, total, IsMessage}
use Rattle.codes.specs.Checks.{unchecked, code_checks, wrong_length, space_bytes, remaining_checks}
use Rattle.codes.specs.Checks as Mark
use Rattle.codes.specs.Factors.{ones, plain}
use Rattle.codes.proofs.Proper.{neither, symbols_test, message}
use Rattle.codes.proofs.Passed.{right-length, is_right, code_passes, arrays_pass}
use Rattle.codes.proofs.Lost.{Remains, remains}
use Rattle.codes.proofs.Factors.{each-one, ones_pass, ones_factors}
use Rattle.hermitian.specs.Ring.{ring_lengths, ring_code, IsRing}
use Rattle.hermitian.specs.Checks.{bad_size, bad_order, ring_checks, buffer_checks, encode_checks, read_checks, received_checks}
use Rattle.hermitian.specs.Checks.{lost_checks}
use Rattle.hermitian.specs.Pits.{genus, bad_limit, pit_checks}
use Rattle.hermitian.proofs.Numbers.{length-numbers}
use Rattle.hermitian.proofs.Sizes.{tested, ring_cells, ring_counts, ring_proper}

abbrev number_in : Check → ℕ
number_in (k when b) = k

-- the first check that applies is one of the checks
pub first_of : (cs : List Check) → (first cs ≡ 0) ⊎ Mem (first cs) (map number_in cs)
unfolding first
first_of [] = inl refl
first_of ((k when true) ∷ cs) = inr (inl refl)
first_of ((k when false) ∷ cs) = ⊎_elim inl (λ h. inr (inr h)) (first_of cs)

pub record Passed (q m : ℕ) : Type 0 where
  pub size : bad_size q ≡ false
  pub order : bad_order q m ≡ false
  pub checked : unchecked (ring_code q m) ≡ false

pub ring_passed : (q m : ℕ) (ds : List Check) → 0 ≡ first (ring_checks q m ++ ds) → Passed q m × (0 ≡ first ds)
ring_passed q m ds e =
    let p = clear 9 _ _ e in
    let o = clear 10 _ _ p.1 in
    let k = clear 17 _ _ o.1 in
    (record { size = p.0; order = o.0; checked = k.0 }, k.1)

-- what 10, 11, 18, 5 and 7 leave of a message and a word, of which the symbols s are the input
buffers : (q m : ℕ) (f w s : List ℕ) → 0 ≡ first (ring_checks q m ++ buffer_checks q m f w s)
    → Passed q m × (length f ≡ total (ring_lengths q m)) × (length w ≡ q * q * q) × (some_outside_field q s ≡ false)
buffers q m f w s e =
    let p = ring_passed q m _ e in
    let p₅ = clear 4 _ _ p.1 in
    let l = (neither (wrong_length (total (ring_lengths q m)) f) (wrong_length (q * q * q) w)).0 p₅.0 in
    (p.0, right-length _ f l.0, right-length _ w l.1, (clear 6 _ _ p₅.1).0)

pub record PassedEncoding (q m : ℕ) (f w : List ℕ) : Type 0 where
  pub ring : Passed q m
  pub message : IsMessage (ring_code q m) f
  pub word : length w ≡ q * q * q

pub encoding : (q m : ℕ) (f w : List ℕ) → 0 ≡ first (encode_checks q m f w) → PassedEncoding q m f w
encoding q m f w e =
    let (ring, message-length, word, symbols) = buffers q m f w f e in
    record { ring = ring; message = message (ring_code q m) f message-length symbols; word = word }

pub record PassedReading (q m : ℕ) (w f : List ℕ) : Type 0 where
  pub ring : Passed q m
  pub word : IsRing q w
  pub message : length f ≡ total (ring_lengths q m)

pub reading : (q m : ℕ) (w f : List ℕ) → 0 ≡ first (read_checks q m w f) → PassedReading q m w f
reading q m w f e =
    let (ring, message, word, symbols) = buffers q m f w w e in
    record { ring = ring; word = record { count = word; symbols = (symbols_test q w).0 symbols }; message = message }

-- what 10, 11, 18, 5 and 7 of decoding leave, where there are n flags
pub record PassedWord (q m n : ℕ) (y w f s : List ℕ) : Type 0 where
  pub ring : Passed q m
  pub received : IsRing q y
  pub answer : length w ≡ q * q * q
  pub flags : length f ≡ n
  pub space : space_bytes ≤ length s

pub words : (q m n : ℕ) (y w f s : List ℕ) (ds : List Check) → 0 ≡ first (ring_checks q m ++ received_checks q n y w f s ++ ds)
    → PassedWord q m n y w f s × (0 ≡ first ds)
words q m n y w f s ds e =
    let p = ring_passed q m _ e in
    let p₅ = clear 4 _ _ p.1 in
    let p₇ = clear 6 _ _ p₅.1 in
    let l₃ = (neither _ (ltb (length s) space_bytes)).0 p₅.0 in
    let l₂ = (neither _ (wrong_length n f)).0 l₃.0 in
    let l₁ = (neither (wrong_length (q * q * q) y) (wrong_length (q * q * q) w)).0 l₂.0 in (
      record {
        ring = p.0;
        received = record { count = right-length _ y l₁.0; symbols = (symbols_test q y).0 p₇.0 };
        answer = right-length _ w l₁.1;
        flags = right-length _ f l₂.1;
        space = ltb-false (length s) space_bytes l₃.1;
      },
      p₇.1,
    )

pub record PassedLost (q m τ : ℕ) (L y w f s : List ℕ) : Type 0 where
  pub word : PassedWord q m (q * q) y w f s
  pub rest : 0 ≡ first (remaining_checks (ring_code q m) τ L)
  pub remain : Remains (ring_code q m) τ L

pub losing : (q m τ : ℕ) (L y w f s : List ℕ) → 0 ≡ first (lost_checks q m τ L y w f s) → PassedLost q m τ L y w f s
losing q m τ L y w f s e =
    let p = words q m (q * q) y w f s _ e in
    record {
      word = p.0;
      rest = p.1;
      remain = remains (ring_code q m) τ L (ring_counts q m p.0.ring.size p.0.ring.order).some_columns p.1;
    }

pub record PassedPits (q m τ : ℕ) (y w f s : List ℕ) : Type 0 where
  pub word : PassedWord q m (q * q * q) y w f s
  pub room : ¬ (q * q * q < m + 1 + genus q + 2 * τ)

-- a limit that is not below zero, and not below τ
limited : (q m τ : ℕ) → bad_limit q m τ ≡ false → ¬ (q * q * q < m + 1 + genus q + 2 * τ)
limited q m τ e =
    let limit : ℕ = (q * q * q - (m + 1 + genus q)) / 2 in
    let (least, most) = (neither (ltb (q * q * q) (m + 1 + genus q)) (ltb limit τ)).0 e in
    let above : m + 1 + genus q ≤ q * q * q = ltb-false (q * q * q) (m + 1 + genus q) least in
    let below : τ ≤ limit = ltb-false limit τ most in
    λ h. omega (arith, above, below)

pub pitting : (q m τ : ℕ) (y w f s : List ℕ) → 0 ≡ first (pit_checks q m τ y w f s) → PassedPits q m τ y w f s
pitting q m τ y w f s e =
    let p = words q m (q * q * q) y w f s _ e in
    record { word = p.0; room = limited q m τ (clear 18 _ _ p.1).0 }

-- a ring passes the checks of reading, with a buffer of the right length
pub reads_on : {q m : ℕ} → Passed q m → (f w : List ℕ) → IsRing q w → length f ≡ total (ring_lengths q m) → first (read_checks q m w f) ≡ 0
reads_on {q} {m} p f w h l =
    miss 10 _ _ p.size
    ∙ miss 11 _ _ p.order
    ∙ miss 18 _ _ p.checked
    ∙ miss 5 _ _ ((neither (wrong_length (total (ring_lengths q m)) f) (wrong_length (q * q * q) w)).1
    (is_right _ f l, is_right _ w h.count))
    ∙ miss 7 _ _ ((symbols_test q w).1 h.symbols)
    ∙ unfold first in refl

-- ---- the checks of the call on the array

module _ {q m : ℕ} (p : Passed q m) where
  onward : (ds : List Check) → first (code_checks (ring_code q m) ++ ds) ≡ first ds
  onward ds = code_passes (ring_code q m) ds (ring_counts q m p.size p.order) p.checked

  right-cells : (a : List ℕ) → length a ≡ q * q * q → wrong_length (rows (ring_code q m) * columns (ring_code q m)) a ≡ false
  right-cells a e = is_right _ a (e ∙ sym (ring_cells q m))

  -- 'Rings keep factors of one'
  right_factors : wrong_length (columns (ring_code q m)) (ones (columns (ring_code q m))) ≡ false
  right_factors = is_right _ (ones (columns (ring_code q m))) (length-replicate (columns (ring_code q m)) 1)

  no_bad_factor : Mark.bad_factors q (ones (columns (ring_code q m))) ≡ false
  no_bad_factor = ones_pass q (ring_proper q m p.size p.order).field (ones (columns (ring_code q m)))
      (each-one (columns (ring_code q m)))

  -- a message and an array of the right lengths, the symbols s being the input
  buffers_pass : (f a s : List ℕ) → length f ≡ total (ring_lengths q m) → length a ≡ q * q * q → All (IsSymbol q) s
      → first (code_checks (ring_code q m) ++ Mark.buffer_checks (plain (ring_code q m)) f a s) ≡ 0
  buffers_pass f a s l k i =
      onward (Mark.buffer_checks (plain (ring_code q m)) f a s)
      ∙ miss 5 _ _ ((neither _ (wrong_length _ (ones (columns (ring_code q m))))).1 (
        (neither (wrong_length (total (ring_lengths q m)) f) _).1 (is_right _ f l, right-cells a k),
        right_factors,
      ))
      ∙ miss 6 _ _ (tested q p.size).points
      ∙ miss 23 _ _ no_bad_factor
      ∙ miss 7 _ _ ((symbols_test q s).1 i)
      ∙ unfold first in refl

pub to_encode : {q m : ℕ} {f w : List ℕ} → PassedEncoding q m f w → (a : List ℕ) → length a ≡ q * q * q
    → first (Mark.encode_checks (plain (ring_code q m)) f a) ≡ 0
to_encode {f = f} p a k = buffers_pass p.ring f a f p.message.count k p.message.symbols

pub to_read : {q m : ℕ} {w f : List ℕ} → PassedReading q m w f → (a : List ℕ) → IsRing q a
    → first (Mark.read_checks (plain (ring_code q m)) a f) ≡ 0
to_read {f = f} p a h = buffers_pass p.ring f a a p.message h.count h.symbols

-- 1 to 7 of decoding the array do not apply
pub to_array : {q m : ℕ} → Passed q m → (a b f s : List ℕ) → IsRing q a → length b ≡ q * q * q → length f ≡ q * q → space_bytes ≤ length s
    → (ds : List Check) → first (Mark.array_checks_of (plain (ring_code q m)) a b f s ++ ds) ≡ first ds
to_array {q} {m} p a b f s h k l z ds =
    let c : Code = ring_code q m in
    let proper = ring_proper q m p.size p.order in
    arrays_pass (plain c) (ones_factors c proper) {y = a} {a = b} {f = f} {w = s} (record {
      counts = ring_counts q m p.size p.order;
      proper = proper;
      received = record { count = h.count ∙ sym (ring_cells q m); symbols = h.symbols };
      answer = k ∙ sym (ring_cells q m);
      flags = l ∙ sym (length-numbers (q * q));
      space = z;
    }) p.checked ds

pub to_lose : {q m τ : ℕ} {L y w f s : List ℕ} → PassedLost q m τ L y w f s → (a b : List ℕ) → IsRing q a → length b ≡ q * q * q
    → first (Mark.lost_checks (plain (ring_code q m)) τ L a b f s) ≡ 0
to_lose {f = f} {s = s} p a b h k = to_array p.word.ring a b f s h k p.word.flags p.word.space _ ∙ sym p.rest
