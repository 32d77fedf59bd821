-- What the functions ask, and compute. No promise cites these.
--
--   inverses d fs           the inverses of the factors fs
--   Inverting d fs w        factors, and room in w for their inverses
--   Multiplying d fs r s    symbols fs, and r rows of symbols at the front of s
--   Striking d fs r a       factors fs and an array of r rows
use Rattle.std.specs.Prelude.{◌≡◌, false, List, [], ◌∷◌, ℕ, ◌*◌, ◌≤◌, length}
use Rattle.refusal.specs.Refusal.{bad_degree}
use Rattle.field.specs.Symbols.{IsSymbol, over}
use Rattle.lists.specs.Working.Lists.{SymbolsAt}
use Rattle.poly.specs.Poly.{All}
use Rattle.codes.proofs.Factors.{Factor}

unfoldable pub inverses : ℕ → List ℕ → List ℕ
inverses d [] = []
inverses d (f ∷ fs) = over d 1 f ∷ inverses d fs

pub record Inverting (d : ℕ) (fs w : List ℕ) : Type 0 where
  pub factors : All (Factor d) fs
  pub room : length fs ≤ length w

pub record Multiplying (d : ℕ) (fs : List ℕ) (r : ℕ) (s : List ℕ) : Type 0 where
  pub factors : All (IsSymbol d) fs
  pub room : r * length fs ≤ length s
  pub symbols : SymbolsAt d s 0 (r * length fs)

pub record Striking (d : ℕ) (fs : List ℕ) (r : ℕ) (a : List ℕ) : Type 0 where
  pub degree : bad_degree d ≡ false
  pub factors : All (Factor d) fs
  pub most : length fs ≤ 96
  pub count : length a ≡ r * length fs
  pub symbols : All (IsSymbol d) a
