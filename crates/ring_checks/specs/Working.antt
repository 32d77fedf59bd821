-- What the functions inside ask. No promise cites this.
--
--   Row q m j    H(m) has a row j
use Rattle.std.specs.Prelude.{◌≡◌, false, ℕ, ◌<◌}
use Rattle.hermitian.specs.Checks.{bad_size, bad_order}

pub record Row (q m j : ℕ) : Type 0 where
  pub size : bad_size q ≡ false
  pub order : bad_order q m ≡ false
  pub below : j < q
