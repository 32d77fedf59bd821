-- What encoding and reading a ring promise.

--   Encodes q m f lent left    encoding f with the buffer lent leaves left; Reads q m w lent left, reading w
use Rattle.std.specs.Prelude.{List, ℕ}
use Rattle.codes.specs.Code.{IsMessage}
use Rattle.mark.specs.Promises.{Left, Writes, Finds}
use Rattle.hermitian.specs.Ring.{ring_code, ring_word}
use Rattle.hermitian.specs.Checks.{encode_checks, read_checks}

abbrev pub Encodes : (q m : ℕ) (f lent : List ℕ) → Left → Type 0
Encodes q m f lent = Writes (encode_checks q m f lent) (ring_word q m f) lent

abbrev pub Reads : (q m : ℕ) (w lent : List ℕ) → Left → Type 0
Reads q m w lent = Finds (read_checks q m w lent) (IsMessage (ring_code q m)) (ring_word q m) w lent
