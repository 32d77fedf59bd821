-- Adding a code array: 02, 2026-13, 'for every array, every code array added to it'.

--   Added IsCode d y a z    a, which IsCode says is a code array or a word, is added to y over the field of degree d, and z is the sum
use Rattle.std.specs.Prelude.{◌≡◌, List, ℕ, length}
use Rattle.field.specs.Arithmetic.{gf}
use Rattle.poly.specs.Poly.{add}

pub record Added (IsCode : List ℕ → Type 0) (d : ℕ) (y a z : List ℕ) : Type 0 where
  pub code : IsCode a
  pub sized : length y ≡ length a
  pub sum : z ≡ add (gf d) y a
