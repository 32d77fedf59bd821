-- Every array that fits: 02, 2026-10, 'tries sets of columns, smaller sets first and, among equal sizes, in dictionary order of their
-- column numbers. It lists every code array within τ columns, each once, at the place of its set of wrong columns.' A set of columns is
-- its flags, 1 at its columns and 0 elsewhere.

--   sets_of t n          the sets of t of n columns, in dictionary order; sets τ n, those of at most τ columns, as they are tried
--   FitsAt D y W a      a is a code array, and W is the set of columns in which y is wrong
--   InTurn Fit Ws l     for each set of Ws in turn, l has the one array that fits there, and no entry where none does
--   Fitting D τ y l     l are the arrays that fit within τ columns
use Rattle.std.specs.Prelude.{◌≡◌, ℕ, zero, suc, replicate}
use mathlib.Core.List.{List, [], ◌∷◌, ◌++◌, map, flat_map}
use Rattle.codes.specs.Code.{columns, flags_of, up_from}
use Rattle.codes.specs.Factors.{Description, CodeArrayBy}

-- 'in dictionary order of their column numbers': the sets with the first column, in the order of their other columns, come before those
-- without it
unfoldable pub sets_of : (t n : ℕ) → List (List ℕ)
sets_of zero n = replicate n 0 ∷ []
sets_of (suc t) zero = []
sets_of (suc t) (suc n) = map (◌∷◌ 1) (sets_of t n) ++ map (◌∷◌ 0) (sets_of (suc t) n)

-- 'smaller sets first'
abbrev pub sets : (τ n : ℕ) → List (List ℕ)
sets τ n = flat_map (λ t. sets_of t n) (up_from 0 (suc τ))

-- a code array, 'at the place of its set of wrong columns'
pub record FitsAt (D : Description) (y W a : List ℕ) : Type 0 where
  pub code : CodeArrayBy D a
  pub wrong : flags_of D.code y a ≡ W

-- 'each once'
pub data InTurn (Fit : List ℕ → List ℕ → Type 0) : List (List ℕ) → List (List ℕ) → Type 0 where
  end : InTurn Fit [] []
  one : {W a : List ℕ} {Ws l : List (List ℕ)} → Fit W a → ((b : List ℕ) → Fit W b → b ≡ a) → InTurn Fit Ws l
      → InTurn Fit (W ∷ Ws) (a ∷ l)
  none : {W : List ℕ} {Ws l : List (List ℕ)} → ((b : List ℕ) → ¬ Fit W b) → InTurn Fit Ws l → InTurn Fit (W ∷ Ws) l

-- 'every code array within τ columns'
abbrev pub Fitting : (D : Description) (τ : ℕ) (y : List ℕ) → List (List ℕ) → Type 0
Fitting D τ y = InTurn (FitsAt D y) (sets τ (columns D.code))
