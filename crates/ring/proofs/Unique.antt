-- No two distinct outcomes satisfy a promise.
--
--   encodes_unique, reads_unique    two outcomes of one call are equal
-- Assumes nothing.
use mathlib.Core.Path.{◌≡◌}
use mathlib.Core.List.{List}
use Prim.Native.Nat.{ℕ}
use Rattle.codes.specs.Code.{IsMessage}
use Rattle.mark.specs.Promises.{Left}
use Rattle.mark.proofs.Promised.{writes_unique, finds_unique}
use Rattle.hermitian.specs.Ring.{ring_code, ring_word}
use Rattle.hermitian.specs.Checks.{encode_checks, read_checks}
use Rattle.ring.specs.Promises.{Encodes, Reads}
use Rattle.hermitian.proofs.Words.{one_message}
use Rattle.hermitian.proofs.Passed.{reading}

pub encodes_unique : (q m : ℕ) (f lent : List ℕ) (x y : Left) → Encodes q m f lent x → Encodes q m f lent y → x ≡ y
encodes_unique q m f lent = writes_unique (encode_checks q m f lent) (ring_word q m f) lent

pub reads_unique : (q m : ℕ) (w lent : List ℕ) (x y : Left) → Reads q m w lent x → Reads q m w lent y → x ≡ y
reads_unique q m w lent = finds_unique (read_checks q m w lent) (IsMessage (ring_code q m)) (ring_word q m) w lent
    (λ none f f' i i'. let p = (reading q m w lent none).ring in one_message q m p.size p.order i i')
