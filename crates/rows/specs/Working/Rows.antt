-- What the routines on rows ask of points, and what they write at a place.
--
--   Points d xs            xs are symbols of the field of degree d, no two equal
--   inverse d xs j i       1/(x − x_j), x being the i-th point behind the j-th
--   difference d xs us j i (u − u_j)/(x − x_j), u being the entry of the row us at the point x
--   inverted_at             a list when a part of it is written with the inverses of round j
--   constant_added c l at n the same where c was added to n symbols
--   newton_values d nodes us xs   the values at xs of the polynomial with the Newton coefficients us at the nodes
--   evaluated_at            a list when a part of it is written with these values
--   Inverses d xs k ws     ws are symbols, and have the inverses of k rounds, those of round j from place 96·j on
--   Inverting, Evaluating  what taking the inverses of a round, and what evaluation asks for
use Rattle.std.specs.Prelude.{◌≡◌, ℕ, ◌+◌, ◌-◌, ◌*◌, ◌≤◌, ◌<◌, List, map, length, get_or}
use Rattle.patch.specs.Patch.{patch}
use Rattle.patch.specs.Parts.{lay}
use Rattle.field.specs.Symbols.{IsSymbol, plus, over}
use Rattle.field.specs.Arithmetic.{gf}
use Rattle.poly.specs.Poly.{All}
use Rattle.poly.proofs.Forms.{newton_value_lem}
use Rattle.poly.proofs.Roots.{Distinct}

pub record Points (d : ℕ) (xs : List ℕ) : Type 0 where
  pub symbols : All (IsSymbol d) xs
  pub distinct : Distinct xs

unfoldable pub inverse : ℕ → List ℕ → ℕ → ℕ → ℕ
inverse d xs j i = over d 1 (plus (get_or xs (j + 1 + i) 0) (get_or xs j 0))

unfoldable pub difference : ℕ → List ℕ → List ℕ → ℕ → ℕ → ℕ
difference d xs us j i =
    over d (plus (get_or us (j + 1 + i) 0) (get_or us j 0)) (plus (get_or xs (j + 1 + i) 0) (get_or xs j 0))

abbrev pub inverted_at : ℕ → List ℕ → ℕ → List ℕ → ℕ → List ℕ
inverted_at d xs j l at = patch at (length xs - (j + 1)) (inverse d xs j) l

abbrev pub constant_added : ℕ → List ℕ → ℕ → ℕ → List ℕ
constant_added c l at n = patch at n (λ k. plus (get_or l (at + k) 0) c) l

abbrev pub newton_values : ℕ → List ℕ → List ℕ → List ℕ → List ℕ
newton_values d nodes us xs = map (newton_value_lem (gf d) (length us) nodes us) xs

abbrev pub evaluated_at : ℕ → List ℕ → List ℕ → List ℕ → List ℕ → ℕ → List ℕ
evaluated_at d nodes us xs l at = lay at (newton_values d nodes us xs) l

pub record Inverses (d : ℕ) (xs : List ℕ) (k : ℕ) (ws : List ℕ) : Type 0 where
  pub room : 96 * k ≤ length ws
  pub symbols : All (IsSymbol d) ws
  pub each : (j i : ℕ) → j < k → i < length xs - (j + 1) → get_or ws (96 * j + i) 0 ≡ inverse d xs j i

pub record Inverting (d : ℕ) (xs : List ℕ) (j : ℕ) (l : List ℕ) (at : ℕ) : Type 0 where
  pub points : Points d xs
  pub place : j < length xs
  pub room : at + length xs ≤ length l

pub record Evaluating (d : ℕ) (xs nodes us l : List ℕ) (at : ℕ) : Type 0 where
  pub points : All (IsSymbol d) xs
  pub nodes_in : All (IsSymbol d) nodes
  pub coefficients : All (IsSymbol d) us
  pub some : 0 < length us
  pub enough : length us ≤ length nodes
  pub room : at + length xs ≤ length l
