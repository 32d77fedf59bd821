-- How the decoding of a ring keeps its promise, through that of the array.
--
--   lost_ended           the array's decoding ends by the table, with the space cleared
--   lost_answer          a corrected answer has q³ symbols
--   lost_ring_ends       the ring's decoding ends so, with the answer carried back
-- Assumes nothing.
use mathlib.Core.Path.{◌≡◌, refl, ap, ◌∙◌, subst}
use mathlib.Core.List.{List}
use Prim.Native.Nat.{ℕ, ◌*◌}
use native.Mathlib.Omega.{arith}
use lib.ListN.{length}
use Rattle.refusal.specs.Numbers.{named}
use Rattle.refusal.proofs.Keeping.{told}
use Rattle.codes.specs.Checks as Checks
use Rattle.codes.specs.Factors.{plain}
use Rattle.codes.proofs.Proper.{Proper}
use Rattle.ending.specs.Endings.{Buffers}
use Rattle.ending.specs.declared.Ending.{Ending}
use Rattle.ending.specs.declared.Ending.TheVariants.{Refused, Corrected, Nothing, Several, Hollow}
use Rattle.finish.specs.Working.{released}
use Rattle.joint.specs.Promises.{buffers, cleared}
use Rattle.joint.specs.Promises as Joint
use Rattle.joint.specs.Lost.{LostEnds}
use Rattle.joint.specs.Lost as Joint-lost
use Rattle.joint.proofs.Lost.{corrected_array}
use Rattle.joint.proofs.Struck.{ones_struck}
use Rattle.hermitian.specs.Ring.{ring_code, IsRing, ring_of, ArrayOf}
use Rattle.hermitian.proofs.Sizes.{ring_proper}
use Rattle.hermitian.proofs.Words.{array_ring}
use Rattle.hermitian.proofs.Passed.{PassedLost, to_lose}
use Rattle.sectors.specs.Lost.{LostRingEnds}

module _ {q m τ : ℕ} {L y w f s : List ℕ} (p : PassedLost q m τ L y w f s) {a : List ℕ} (is : ArrayOf q y a) (b : List ℕ) where
  abbrev Table : List ℕ → Ending → Buffers → Type 0
  Table z = LostEnds (ring_code q m) L z τ (buffers b f)

  abbrev Array : Ending → Buffers → Type 0
  Array = Table a

  proper : Proper (ring_code q m)
  proper = ring_proper q m p.word.ring.size p.word.ring.order

  pub lost_ended : length b ≡ q * q * q → (l : Joint.Left)
      → Joint-lost.DecodesLost L (Joint.given (plain (ring_code q m)) τ a (buffers b f) s) l
      → Array l.ending l.buffers × (l.space ≡ cleared s)
  lost_ended k l h = told (Checks.lost_checks (plain (ring_code q m)) τ L a b f s) (λ n. Joint.left (Refused (named n)) (buffers b f) s)
      (λ l. Joint.Struck (plain (ring_code q m)) a Table l.ending l.buffers × (l.space ≡ cleared s)) l h
      (λ e d. (
        (ones_struck (ring_code q m) proper ((array_ring q m).1 is.array) Table
            (λ t x. corrected_array (ring_code q m) L proper) l.ending l.buffers).0 d.0,
        d.1,
      ))
      (λ n e d. absurd (omega (arith, to_lose p a b is.array k)))

  pub lost_answer : (e : Ending) (left : Buffers) → Array e left → (t : ℕ) → e ≡ Corrected t → IsRing q left.array
  lost_answer e left h t is-t = (array_ring q m).0
      (corrected_array (ring_code q m) L proper
      (subst (λ (e : Ending). Array e left) is-t h))

  -- unless the ending is 'corrected', the ring's buffers stay as lent
  module _ (b' f' w' : List ℕ) where
    abbrev Back : Ending → Type 0
    Back e = buffers w' f' ≡ released e (buffers (ring_of q b') f') (buffers w f')

    as_lent : buffers b' f' ≡ buffers b f → buffers w' f' ≡ buffers w f' → buffers w' f' ≡ buffers w f
    as_lent e k = k ∙ ap (λ (l : Buffers). buffers w l.flags) e

    pub lost_ring_ends : (e : Ending) → Array e (buffers b' f') → Back e → LostRingEnds q m τ L y (buffers w f) e (buffers w' f')
    lost_ring_ends (Refused r) h k' = absurd h
    lost_ring_ends (Corrected t) h k = record { array = a; is_array = is; answer = buffers b' f'; ends = h; back = k }
    lost_ring_ends Nothing h k = record { array = a; is_array = is; answer = buffers w f; ends = (h.0, refl); back = as_lent h.1 k }
    lost_ring_ends (Several t) h k =
        record { array = a; is_array = is; answer = buffers w f; ends = (h.0, h.1, refl); back = as_lent h.2 k }
    lost_ring_ends (Hollow t) h k =
        record { array = a; is_array = is; answer = buffers w f; ends = (h.0, h.1, refl); back = as_lent h.2 k }
