-- What the user asks of encoding and reading a ring, as theorems about their promises alone: left is what the call leaves.
--
--   encode_done, encode_word        encoding is done exactly when no check applies, and then leaves exactly the message's word
--   encode_refused                  otherwise it answers the first check's number, and leaves the buffer as lent
--   read_done, read_message         reading is done exactly when no check applies and the ring is a word, with its message
--   read-refused                    otherwise it answers the first check's number, or 9, and leaves the buffer as lent
--   read_written                    reading what encoding wrote gives the message back
-- Assumes nothing.
use mathlib.Core.Path.{◌≡◌, refl, sym, ◌∙◌}
use mathlib.Core.Logic.{◌↔◌, ◌⊎◌}
use mathlib.Core.List.{List}
use Prim.Native.Nat.{ℕ}
use lib.ListN.{length}
use Rattle.refusal.specs.Refusal.{first}
use Rattle.refusal.specs.Meaning.{refusal}
use Rattle.codes.specs.Code.{IsMessage}
use Rattle.mark.specs.Promises.{success, Left, done}
use Rattle.mark.proofs.Promised as mark
use Rattle.hermitian.specs.Ring.{ring_code, ring_word, RingWord, IsRing}
use Rattle.hermitian.specs.Checks.{encode_checks, read_checks}
use Rattle.hermitian.proofs.Words.{word_ring}
use Rattle.hermitian.proofs.Passed.{encoding, reads_on}
use Rattle.ring.specs.Promises.{Encodes, Reads}
use Rattle.ring.proofs.Unique.{reads_unique}

module _ (q m : ℕ) (f lent : List ℕ) (x : Left) (h : Encodes q m f lent x) where
  pub encode_done : (x.outcome ≡ success) ↔ (first (encode_checks q m f lent) ≡ 0)
  encode_done = mark.write_done (encode_checks q m f lent) (ring_word q m f) lent x h

  pub encode_word : x.outcome ≡ success → x.buffer ≡ ring_word q m f
  encode_word = mark.write_is (encode_checks q m f lent) (ring_word q m f) lent x h

  -- 'A refused encoding or reading leaves its result buffer as lent.'
  pub encode_refused : (k : ℕ) → x.outcome ≡ refusal k → (first (encode_checks q m f lent) ≡ k) × (x.buffer ≡ lent)
  encode_refused = mark.write_refused (encode_checks q m f lent) (ring_word q m f) lent x h

module _ (q m : ℕ) (w lent : List ℕ) (x : Left) (h : Reads q m w lent x) where
  pub read_done : (x.outcome ≡ success) ↔ ((first (read_checks q m w lent) ≡ 0) × RingWord q m w)
  read_done = mark.find_done (read_checks q m w lent) (IsMessage (ring_code q m)) (ring_word q m) w lent x h

  pub read_message : x.outcome ≡ success → IsMessage (ring_code q m) x.buffer × (ring_word q m x.buffer ≡ w)
  read_message = mark.find_message (read_checks q m w lent) (IsMessage (ring_code q m)) (ring_word q m) w lent x h

  pub read-refused : (k : ℕ) → x.outcome ≡ refusal k
      → ((first (read_checks q m w lent) ≡ k) ⊎ ((k ≡ 9) × (RingWord q m w → ⊥))) × (x.buffer ≡ lent)
  read-refused = mark.find_refused (read_checks q m w lent) (IsMessage (ring_code q m)) (ring_word q m) w lent x h

pub read_written : (q m : ℕ) (f lent w : List ℕ) → Encodes q m f lent (done w) → (old : List ℕ) (x : Left) → length old ≡ length f
    → Reads q m w old x → x ≡ done f
read_written q m f lent w written old x e h =
    let p = encoding q m f lent (sym ((encode_done q m f lent (done w) written).0 refl)) in
    let is : w ≡ ring_word q m f = encode_word q m f lent (done w) written refl in
    let ring : IsRing q w = rw is (word_ring q m p.ring.size p.ring.order p.message) in
    let z : first (read_checks q m w old) ≡ 0 = reads_on p.ring old w ring (e ∙ p.message.count) in
    reads_unique q m w old x (done f) h
    (mark.finds (read_checks q m w old) (IsMessage (ring_code q m)) (ring_word q m) w old (sym z) p.message (sym is))
