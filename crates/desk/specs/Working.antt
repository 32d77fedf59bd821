-- What the functions inside the desk's calls ask, and what they leave. No promise cites these.
--
--   Puttable d i s             what the checks of putting leave: s are symbols, one for each row, for the column i of the desk d
--   Placeable d i              the column i is one of the desk d, and the desk's cells are inside its array
--   Renewing d i s             the desk d came from opening and putting, and s can be put into the column i
--   Renewed d i s e            e is d with other coefficients and another number, and knows them once s is in the column i
--   Basing d xs i              points xs of a desk, one of them the column i's
--   Basis d xs i b             b begins with the polynomial of as many coefficients as points that is 1 at the column i's and else 0
--   change d n i f a s l       by how much the row l of a changes, divided by the factor f, when s is put into the column i
--   Raising d ks b i f a s u   what raising the coefficients u of rows of lengths ks asks for
--   Raised d ks b δ r u u'     u' is u with δ times b added, from the row's length on, in each of the first r rows
use Rattle.std.specs.Prelude.{◌≡◌, List, ℕ, ◌+◌, ◌*◌, ◌≤◌, ◌<◌, length, get_or, set, take, replicate}
use Rattle.field.specs.Symbols.{IsSymbol, plus, times, over}
use Rattle.field.specs.Arithmetic.{gf}
use Rattle.poly.specs.Poly.{All, Poly, values_at}
use Rattle.rows.specs.Working.Rows.{Points}
use Rattle.codes.proofs.Proper.{Within}
use Rattle.codes.proofs.Factors.{Factor}
use Rattle.desk.specs.Desk.{Made, Known, with_array, placed}
use Rattle.desk.specs.declared.Desk.{Desk}

pub record Puttable (d : Desk) (i : ℕ) (s : List ℕ) : Type 0 where
  pub column : i < d.columns
  pub count : length s ≡ d.rows
  pub symbols : All (IsSymbol d.degree) s

pub record Placeable (d : Desk) (i : ℕ) : Type 0 where
  pub column : i < d.columns
  pub most_rows : d.rows ≤ 4
  pub cells : d.rows * d.columns ≤ 64

pub record Renewing (d : Desk) (i : ℕ) (s : List ℕ) : Type 0 where
  pub made : Made d
  pub can : Puttable d i s

pub record Renewed (d : Desk) (i : ℕ) (s : List ℕ) (e : Desk) : Type 0 where
  pub others : e ≡ with_array d d.array e.above e.misfits
  pub known : Known (placed e i s)

pub record Basing (d : ℕ) (xs : List ℕ) (i : ℕ) : Type 0 where
  pub points : Points d xs
  pub few : length xs ≤ 16
  pub column : i < length xs

pub record Basis (d : ℕ) (xs : List ℕ) (i : ℕ) (b : List ℕ) : Type 0 where
  pub polynomial : Poly (gf d) (length xs) (take (length xs) b)
  pub unit : values_at (gf d) xs (take (length xs) b) ≡ set (replicate (length xs) 0) i 1

abbrev pub change : (d n i f : ℕ) (a s : List ℕ) → ℕ → ℕ
change d n i f a s l = over d (plus (get_or s l 0) (get_or a (l * n + i) 0)) f

pub record Raising (d : ℕ) (ks b : List ℕ) (i f : ℕ) (a s u : List ℕ) : Type 0 where
  pub lengths : Within 1 (length b) ks
  pub column : i < length b
  pub factor : Factor d f
  pub cells : length ks * length b ≤ 64
  pub array_size : length a ≡ 64
  pub array : All (IsSymbol d) a
  pub count : length s ≡ length ks
  pub symbols : All (IsSymbol d) s
  pub room : length u ≡ 64

pub record Raised (d : ℕ) (ks b : List ℕ) (δ : ℕ → ℕ) (r : ℕ) (u u' : List ℕ) : Type 0 where
  pub size : length u' ≡ length u
  pub low : (l j : ℕ) → l < r → j < get_or ks l 0 → j < length b → get_or u' (l * length b + j) 0 ≡ get_or u (l * length b + j) 0
  pub high : (l j : ℕ) → l < r → get_or ks l 0 ≤ j → j < length b
      → get_or u' (l * length b + j) 0 ≡ plus (get_or u (l * length b + j) 0) (times d (get_or b j 0) (δ l))
  pub rest : (p : ℕ) → r * length b ≤ p → get_or u' p 0 ≡ get_or u p 0
