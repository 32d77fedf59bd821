-- Polynomials as lists of coefficients, lowest first, over any arithmetic.

--   All P p         P holds of every entry of p; Zero A p, every coefficient is zero
--   Poly A k p      p has k coefficients, all of them symbols: a polynomial with at most k coefficients (degree below k)
--   value A p x     the value of p at x; values_at A xs p, the values at the points xs
--   add, scale, mul the sum, the multiple by a constant, the product
--   Fits A xs ys E N    N(x) = y·E(x) at every point x of xs, with its y of ys
use Rattle.std.specs.Prelude.{◌≡◌, List, [], ◌∷◌, map, ℕ, length}
use Rattle.field.specs.Arithmetic.{Arithmetic}

abbrev pub All : {K : Type 0} → (K → Type 0) → List K → Type 0
All P [] = Unit {0}
All P (a ∷ p) = P a × All P p

module _ {K : Type 0} (A : Arithmetic K) where
  abbrev pub Zero : List K → Type 0
  Zero p = All (λ (a : K). a ≡ A.zero) p

  -- 'a polynomial with at most k coefficients (degree below k)'
  pub record Poly (k : ℕ) (p : List K) : Type 0 where
    pub count : length p ≡ k
    pub symbols : All A.In p

  unfoldable pub value : List K → K → K
  value [] x = A.zero
  value (c ∷ p) x = A.plus c (A.times x (value p x))

  -- 'the values at the points'
  unfoldable pub values_at : List K → List K → List K
  values_at xs p = map (value p) xs

  unfoldable pub add : List K → List K → List K
  add [] q = q
  add (a ∷ p) [] = a ∷ p
  add (a ∷ p) (b ∷ q) = A.plus a b ∷ add p q

  unfoldable pub scale : K → List K → List K
  scale c p = map (A.times c) p

  unfoldable pub mul : List K → List K → List K
  mul [] q = []
  mul (a ∷ p) q = add (scale a q) (A.zero ∷ mul p q)

  -- 'N(x) = y·E(x) at every point', y being the symbol of ys there
  abbrev pub Fits : List K → List K → List K → List K → Type 0
  Fits [] ys E N = Unit {0}
  Fits (x ∷ xs) [] E N = Unit {0}
  Fits (x ∷ xs) (y ∷ ys) E N = (value N x ≡ A.times y (value E x)) × Fits xs ys E N
