-- Locators: 01, 'Locators and endings'.

--   Locator c y t E     E is a locator of size t for the received array y; Multiple c E F, F is a multiple of E by a field constant
--   Least c y τ t       t is the smallest size not above τ at which a locator exists
--   OnlyOne c y t E     all locators of size t are multiples of E, which is one
--   Divides c y t E m   E divides every N_l, and the quotients are the rows of the message m
use Rattle.std.specs.Prelude.{◌≡◌, List, [], ◌∷◌, ℕ, suc, ◌+◌, ◌≤◌, ◌<◌, length, take, drop}
use Rattle.field.specs.Symbols.{IsSymbol}
use Rattle.field.specs.Arithmetic.{Arithmetic, gf}
use Rattle.poly.specs.Poly.{Zero, Poly, scale, mul, Fits}
use Rattle.codes.specs.Code.{Code}

-- 'for each row l some polynomial N_l with at most k_l + t coefficients has N_l(x) = y·E(x) at every point, y being the received
-- symbol there'
abbrev pub RowsFit : {K : Type 0} → Arithmetic K → List K → ℕ → List K → List ℕ → List K → Type 0
RowsFit A xs t E [] y = Unit {0}
RowsFit {K} A xs t E (k ∷ ks) y =
    ((N : List K) × Poly A (k + t) N × Fits A xs (take (length xs) y) E N) × RowsFit A xs t E ks (drop (length xs) y)

-- 'A locator of size t for a received array is a nonzero polynomial E of degree at most t such that' so.
pub record Locator (c : Code) (y : List ℕ) (t : ℕ) (E : List ℕ) : Type 0 where
  pub size : Poly (gf c.degree) (suc t) E
  pub nonzero : ¬ Zero (gf c.degree) E
  pub fits : RowsFit (gf c.degree) c.points t E c.lengths y

-- 'A multiple, of locators, is below always by a field constant.'
abbrev pub Multiple : Code → List ℕ → List ℕ → Type 0
Multiple c E F = (a : ℕ) × IsSymbol c.degree a × (F ≡ scale (gf c.degree) a E)

-- 'Let t be the smallest size not above the trial limit τ at which a locator exists.'
pub record Least (c : Code) (y : List ℕ) (τ t : ℕ) : Type 0 where
  pub within : t ≤ τ
  pub exists : (E : List ℕ) × Locator c y t E
  pub none_below : (u : ℕ) (E : List ℕ) → u < t → ¬ Locator c y u E

-- 'all locators of size t are multiples of one, E'
pub record OnlyOne (c : Code) (y : List ℕ) (t : ℕ) (E : List ℕ) : Type 0 where
  pub one : Locator c y t E
  pub multiples : (F : List ℕ) → Locator c y t F → Multiple c E F

-- 'E divides every N_l, with quotient of at most k_l coefficients': N_l is the product of E and row l of the message m
abbrev pub RowsDivide : {K : Type 0} → Arithmetic K → List K → ℕ → List K → List ℕ → List K → List K → Type 0
RowsDivide A xs t E [] y m = Unit {0}
RowsDivide {K} A xs t E (k ∷ ks) y m =
    ((N : List K) × Poly A (k + t) N × Fits A xs (take (length xs) y) E N × (N ≡ mul A E (take k m)))
    × RowsDivide A xs t E ks (drop (length xs) y) (drop k m)

abbrev pub Divides : Code → List ℕ → ℕ → List ℕ → List ℕ → Type 0
Divides c y t E m = RowsDivide (gf c.degree) c.points t E c.lengths y m
