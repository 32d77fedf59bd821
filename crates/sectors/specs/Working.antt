-- What the functions inside ask. No promise cites this.
--
--   AnswerGiven e q a w    on `corrected` q³ symbols, and as much room for their ring
use Rattle.std.specs.Prelude.{◌≡◌, false, List, ℕ, ◌*◌, length}
use Rattle.ending.specs.declared.Ending.{Ending}
use Rattle.ending.specs.declared.Ending.TheVariants.{Corrected}
use Rattle.hermitian.specs.Ring.{IsRing}
use Rattle.hermitian.specs.Checks.{bad_size}

pub record AnswerGiven (e : Ending) (q : ℕ) (a w : List ℕ) : Type 0 where
  pub size : bad_size q ≡ false
  pub array : (t : ℕ) → e ≡ Corrected t → IsRing q a
  pub room : length w ≡ q * q * q
