-- No two distinct outcomes satisfy the table of endings.
--
--   meaning_faithful    no two endings have the same number and detail
--   nearest-same    there is one nearest code array
--   unique          two outcomes of one decoding are equal: the ending with its detail, and what it leaves in array and flags
-- Assumes nothing.
use mathlib.Core.Path.{◌≡◌, refl, sym, ap, ap₂, ◌∙◌}
use mathlib.Core.List.{List, List-discrete}
use Prim.Native.Nat.{ℕ, zero, suc, ◌≤◌}
use native.Mathlib.Decide.{ℕ_discrete}
use native.Mathlib.Omega.{arith}
use Rattle.refusal.specs.Meaning.{number_of, detail_of}
use Rattle.refusal.specs.Numbers.{named}
use Rattle.refusal.proofs.Numbers.{named-number}
use Rattle.codes.specs.Code.{Code, CodeArray, IsArray, flags_of, wrong_count, joint_limit}
use Rattle.codes.specs.Near.{Nearest}
use Rattle.codes.proofs.Proper.{Proper}
use Rattle.ending.specs.Endings.{meaning, Buffers, Corrects, Ends}
use Rattle.ending.specs.declared.Ending.{Ending}
use Rattle.ending.specs.declared.Ending.TheVariants.{Refused, Corrected, Nothing, Several, Hollow}
use Rattle.ending.proofs.Exclusive.{least_same, exclusive}
use Rattle.ending.proofs.Demands.{corrected_means}

-- the ending of a number and a detail
abbrev ending : (number detail : ℕ) → Ending
ending zero d = Refused (named d)
ending (suc zero) d = Corrected d
ending (suc (suc zero)) d = Nothing
ending (suc (suc (suc zero))) d = Several d
ending (suc (suc (suc (suc n)))) d = Hollow d

ending_meant : (e : Ending) → ending (number_of (meaning e)) (detail_of (meaning e)) ≡ e
ending_meant (Refused r) = ap Refused (named-number r)
ending_meant (Corrected w) = refl
ending_meant Nothing = refl
ending_meant (Several t) = refl
ending_meant (Hollow t) = refl

pub meaning_faithful : (e e' : Ending) → number_of (meaning e) ≡ number_of (meaning e') → detail_of (meaning e) ≡ detail_of (meaning e')
    → e ≡ e'
meaning_faithful e e' p q = sym (ending_meant e) ∙ ap₂ ending p q ∙ ending_meant e'

same_buffers : {a b : Buffers} → a.array ≡ b.array → a.flags ≡ b.flags → a ≡ b
same_buffers p q i = record { array = p i; flags = q i }

module _ {c : Code} (p : Proper c) {y : List ℕ} (received : IsArray c y) (τ : ℕ) (limit : τ ≤ joint_limit c) where
  nearest-same : {w w' : ℕ} {a b : List ℕ} → Nearest (CodeArray c) (wrong_count c y) τ w a → Nearest (CodeArray c) (wrong_count c y) τ w' b
      → a ≡ b
  nearest-same {w} {w'} {a} {b} h g = go (List-discrete ℕ_discrete a b)
    where
      go : Dec (a ≡ b) → a ≡ b
      go (yes e) = e
      go (no apart) = absurd (omega (
        arith,
        h.wrong,
        g.wrong,
        h.others b g.code (λ e. apart (sym e)),
        g.others a h.code apart,
      ))

  corrected_same : {w w' : ℕ} (lent left left' : Buffers) → Corrects c y τ w left → Corrects c y τ w' left'
      → (Corrected w ≡ Corrected w') × (left ≡ left')
  corrected_same {w} {w'} lent left left' h g =
      let e : left.array ≡ left'.array =
      nearest-same (corrected_means p received τ limit w lent left h) (corrected_means p received τ limit w' lent left' g) in (
        ap Corrected (h.detail ∙ ap (wrong_count c y) e ∙ sym g.detail),
        same_buffers e (h.flags ∙ ap (flags_of c y) e ∙ sym g.flags),
      )

  same : (e e' : Ending) (lent left left' : Buffers) → number_of (meaning e) ≡ number_of (meaning e') → Ends c y τ lent e left
      → Ends c y τ lent e' left'
      → (e ≡ e') × (left ≡ left')
  same (Refused r) e' lent left left' q h g = absurd h
  same (Corrected w) (Refused r) lent left left' q h g = absurd g
  same (Corrected w) (Corrected w') lent left left' q h g = corrected_same lent left left' h g
  same (Corrected w) Nothing lent left left' q h g = absurd (omega arith)
  same (Corrected w) (Several t) lent left left' q h g = absurd (omega arith)
  same (Corrected w) (Hollow t) lent left left' q h g = absurd (omega arith)
  same Nothing (Refused r) lent left left' q h g = absurd g
  same Nothing (Corrected w) lent left left' q h g = absurd (omega arith)
  same Nothing Nothing lent left left' q h g = (refl, h.1 ∙ sym g.1)
  same Nothing (Several t) lent left left' q h g = absurd (omega arith)
  same Nothing (Hollow t) lent left left' q h g = absurd (omega arith)
  same (Several t) (Refused r) lent left left' q h g = absurd g
  same (Several t) (Corrected w) lent left left' q h g = absurd (omega arith)
  same (Several t) Nothing lent left left' q h g = absurd (omega arith)
  same (Several t) (Several t') lent left left' q h g = (ap Several (least_same h.0 g.0), h.2 ∙ sym g.2)
  same (Several t) (Hollow t') lent left left' q h g = absurd (omega arith)
  same (Hollow t) (Refused r) lent left left' q h g = absurd g
  same (Hollow t) (Corrected w) lent left left' q h g = absurd (omega arith)
  same (Hollow t) Nothing lent left left' q h g = absurd (omega arith)
  same (Hollow t) (Several t') lent left left' q h g = absurd (omega arith)
  same (Hollow t) (Hollow t') lent left left' q h g = (ap Hollow (least_same h.0 g.0), h.2 ∙ sym g.2)

  pub unique : (e e' : Ending) (lent left left' : Buffers) → Ends c y τ lent e left → Ends c y τ lent e' left'
      → (e ≡ e') × (left ≡ left')
  unique e e' lent left left' h g = same e e' lent left left' (exclusive p received τ e e' lent lent left left' h g) h g
