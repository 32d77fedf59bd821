-- How the calls on rings keep their promises, through the calls on the array.
--
--   encoded_by_lem           the mark's encoding leaves the message's code array
--   encoded_array, written    an array whose ring is the word
--   read_by              what the mark's reading leaves is what reading the ring is to leave
-- Assumes nothing.
use mathlib.Core.Path.{◌≡◌, sym, ◌∙◌}
use mathlib.Core.Logic.{◌↔◌, inl, inr}
use mathlib.Core.List.{List}
use Prim.Native.Nat.{ℕ, ◌*◌}
use lib.ListN.{length}
use Rattle.refusal.specs.Refusal.{first}
use Rattle.refusal.proofs.Keeping.{same_keeps}
use Rattle.codes.specs.Code.{IsMessage, encoded}
use Rattle.codes.specs.Checks as Checks
use Rattle.mark.specs.Promises.{Left, Found, refused}
use Rattle.mark.specs.Promises as Mark
use Rattle.mark.proofs.Demand2.{encode_done, encode_array}
use Rattle.mark.proofs.Plain.{struck_ones}
use Rattle.hermitian.specs.Ring.{ring_code, ring_word, IsRing, ring_of, ArrayOf}
use Rattle.hermitian.specs.Checks.{read_checks}
use Rattle.ring.specs.Promises.{Reads}
use Rattle.codes.specs.Factors.{encoded_by, plain}
use Rattle.hermitian.proofs.Sizes.{ring_proper}
use Rattle.hermitian.proofs.Rings.{array_of, array_exactly}
use Rattle.hermitian.proofs.Words.{ring_word_lem, encoded_ring, message_exactly}
use Rattle.hermitian.proofs.Passed.{PassedEncoding, PassedReading, to_encode, to_read}

module _ {q m : ℕ} {f w : List ℕ} (p : PassedEncoding q m f w) where
  pub encoded_by_lem : (lent : List ℕ) (left : Left) → length lent ≡ q * q * q → Mark.Encodes (plain (ring_code q m)) f lent left
      → left.buffer ≡ encoded (ring_code q m) f
  encoded_by_lem lent left k h =
      encode_array (plain (ring_code q m)) f lent left h ((encode_done (plain (ring_code q m)) f lent left h).1 (to_encode p lent k))
      ∙ struck_ones (ring_proper q m p.ring.size p.ring.order) p.message

  pub encoded_array : IsRing q (encoded (ring_code q m) f)
  encoded_array = encoded_ring q m p.ring.size p.ring.order p.message

  pub written : ring_of q (encoded (ring_code q m) f) ≡ ring_word q m f
  written = sym (ring_word_lem q m p.ring.size f)

module _ {q m : ℕ} {w lent : List ℕ} (passes : 0 ≡ first (read_checks q m w lent)) (p : PassedReading q m w lent) {a : List ℕ}
    (is : ArrayOf q w a) where
  abbrev OfArray : Left → Type 0
  OfArray = Found (IsMessage (ring_code q m)) (encoded_by (plain (ring_code q m))) a lent

  abbrev OfRing : Left → Type 0
  OfRing = Found (IsMessage (ring_code q m)) (ring_word q m) w lent

  same : array_of q w ≡ a
  same = (array_exactly q p.ring.size p.word a).0 is

  -- a message has the ring exactly when it has the array
  exactly : {f : List ℕ} → IsMessage (ring_code q m) f → (ring_word q m f ≡ w) ↔ (encoded (ring_code q m) f ≡ array_of q w)
  exactly = message_exactly q m p.ring.size p.ring.order p.word

  struck : {f : List ℕ} → IsMessage (ring_code q m) f → encoded_by (plain (ring_code q m)) f ≡ encoded (ring_code q m) f
  struck = struck_ones (ring_proper q m p.ring.size p.ring.order)

  found : (l : Left) → OfArray l → OfRing l
  found l (inl (f, i, e, d)) = inl (f, i, (exactly i).1 (sym (struck i) ∙ e ∙ sym same), d)
  found l (inr (n, d)) = inr (λ (f, i, e). n (f, i, struck i ∙ (exactly i).0 e ∙ same), d)

  pub read_by : (l : Left) → Mark.Reads (plain (ring_code q m)) a lent l → Reads q m w lent l
  read_by = same_keeps (Checks.read_checks (plain (ring_code q m)) a lent) (read_checks q m w lent) (refused lent) OfArray OfRing
      (to_read p a is.array ∙ passes) (λ none. found)
