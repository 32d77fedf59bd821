-- What the functions inside ask. No promise cites these.
--
--   power_rows_from, powers_from    rows and polynomials of s powers from i on
--   Row d n z              z is a row of n symbols
--   Shape d xs k s         a code of s rows that is proper, and so is that of the single row
--   Raising d s z l        a row z of symbols, and room in l for s powers of it
--   Ready d k s xs τ z a f w    the code, a row z, a trial limit and buffers for the answer of the s rows, whose checks passed
--   Giving e d fs z a      on 'corrected', a row z that is to be struck with the factors fs, and room for it
use Rattle.std.specs.Prelude.{◌≡◌, false, ℕ, ◌*◌, ◌≤◌, length}
use mathlib.Core.List.{List, flat_map}
use Rattle.field.specs.Symbols.{IsSymbol}
use Rattle.field.specs.Arithmetic.{Arithmetic}
use Rattle.poly.specs.Poly.{All}
use Rattle.codes.specs.Code.{joint_limit, up_from}
use Rattle.codes.specs.Checks.{unchecked, space_bytes}
use Rattle.codes.proofs.Proper.{Proper}
use Rattle.codes.proofs.Passed.{Counts}
use Rattle.factors.specs.Working.{Striking}
use Rattle.ending.specs.declared.Ending.{Ending}
use Rattle.ending.specs.declared.Ending.TheVariants.{Corrected}
use Rattle.power_checks.specs.Powers.{power_length, power_row, power_code, power_of}

abbrev pub power_rows_from : (d i s : ℕ) → List ℕ → List ℕ
power_rows_from d i s z = flat_map (λ i. power_row d i z) (up_from i s)

abbrev pub powers_from : {K : Type 0} → Arithmetic K → List K → (i s : ℕ) → List K
powers_from A f i s = flat_map (power_of A f) (up_from i s)

pub record Row (d n : ℕ) (z : List ℕ) : Type 0 where
  pub count : length z ≡ n
  pub symbols : All (IsSymbol d) z

pub record Shape (d : ℕ) (xs : List ℕ) (k s : ℕ) : Type 0 where
  pub some : 1 ≤ k
  pub powers : 1 ≤ s
  pub fits : k ≤ length xs
  pub proper : Proper (power_code d xs k s)

pub record Raising (d s : ℕ) (z l : List ℕ) : Type 0 where
  pub symbols : All (IsSymbol d) z
  pub most : length z ≤ 96
  pub room : s * length z ≤ length l

pub record Ready (d k s : ℕ) (xs : List ℕ) (τ : ℕ) (z a f w : List ℕ) : Type 0 where
  pub shape : Shape d xs k s
  pub counts : Counts (power_code d xs k s)
  pub checked : unchecked (power_code d xs k s) ≡ false
  pub longest : power_length k s ≤ length xs
  pub limit : τ ≤ joint_limit (power_code d xs k s)
  pub row : Row d (length xs) z
  pub answer : length a ≡ s * length xs
  pub flags : length f ≡ length xs
  pub space : space_bytes ≤ length w

pub record Giving (e : Ending) (d : ℕ) (fs z a : List ℕ) : Type 0 where
  pub same : length z ≡ length a
  pub striking : (w : ℕ) → e ≡ Corrected w → Striking d fs 1 z
