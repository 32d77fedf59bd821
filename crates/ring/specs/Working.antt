-- What the functions inside ask and compute. No promise cites these.
--
--   sector_sum q v x           the sum of the symbols of sector x of v
--   row_summed q v at a        a when these sums are written as its row from `at` on
--   column_added q a at s i    the i-th symbol of s, and of the row in a from `at` on that of its sector's column
--   row_added q a at s         s when all of that row is added
--   SectorGiven q v x         v has the symbols of sector x
--   SumGiven q v at a         v has q³ symbols, and there is room in a for a row from `at` on
--   Holds q w v               v begins with q³ symbols of w
--   SectorsGiven q ys w s     q³ symbols w, their y, and room in s
--   RowGiven q a at s         a row in a from `at` on, and q³ symbols s
--   RingGiven q w             q³ symbols
--   ArrayGiven q a w          q³ symbols, and as much room for their ring
use Rattle.std.specs.Prelude.{◌≡◌, false, ℕ, ◌+◌, ◌*◌, ◌/◌, ◌<◌, ◌≤◌, length, get_or}
use mathlib.Core.List.{List, flat_map}
use Rattle.patch.specs.Patch.{patch}
use Rattle.field.specs.Symbols.{plus}
use Rattle.hermitian.specs.Ring.{numbers, sector, IsRing}
use Rattle.hermitian.specs.Checks.{bad_size}
use Rattle.hermitian.proofs.Kernel.{sum_to}

abbrev pub sector_sum : ℕ → List ℕ → ℕ → ℕ
sector_sum q v x = sum_to (λ i. get_or v (x * q + i) 0) q

abbrev pub row_summed : ℕ → List ℕ → ℕ → List ℕ → List ℕ
row_summed q v at a = patch at (q * q) (sector_sum q v) a

unfoldable pub column_added : ℕ → List ℕ → ℕ → List ℕ → ℕ → ℕ
column_added q a at s i = plus (get_or s i 0) (get_or a (at + i / q) 0)

abbrev pub row_added : ℕ → List ℕ → ℕ → List ℕ → List ℕ
row_added q a at s = patch 0 (length s) (column_added q a at s) s

pub record SectorGiven (q : ℕ) (v : List ℕ) (x : ℕ) : Type 0 where
  pub size : bad_size q ≡ false
  pub room : x * q + q ≤ length v

pub record SumGiven (q : ℕ) (v : List ℕ) (at : ℕ) (a : List ℕ) : Type 0 where
  pub size : bad_size q ≡ false
  pub ring : q * q * q ≤ length v
  pub row : at + q * q ≤ length a

pub record Holds (q : ℕ) (w v : List ℕ) : Type 0 where
  pub room : q * q * q ≤ length v
  pub same : (i : ℕ) → i < q * q * q → get_or v i 0 ≡ get_or w i 0

pub record SectorsGiven (q : ℕ) (ys w s : List ℕ) : Type 0 where
  pub size : bad_size q ≡ false
  pub ordinates : ys ≡ flat_map (sector q) (numbers (q * q))
  pub ring : IsRing q w
  pub room : q * q * q ≤ length s

pub record RowGiven (q : ℕ) (a : List ℕ) (at : ℕ) (s : List ℕ) : Type 0 where
  pub size : bad_size q ≡ false
  pub row : at + q * q ≤ length a
  pub room : length s ≡ q * q * q

pub record RingGiven (q : ℕ) (w : List ℕ) : Type 0 where
  pub size : bad_size q ≡ false
  pub ring : IsRing q w

pub record ArrayGiven (q : ℕ) (a w : List ℕ) : Type 0 where
  pub size : bad_size q ≡ false
  pub array : IsRing q a
  pub room : length w ≡ q * q * q
