-- 'Nothing by halves', once for every decoding: E says how one that is not refused ends, and cs are its checks.
--
--   by_reason           what the promise says, by whether a check applies; by_number, by the number of the first that does, which is that of a
--                       reason where it is at most 26, as every check's is
--   refused_exactly     it is refused exactly when a check applies
--   refused_leaves      then the reason's number is that of the first that does, and buffers and working space are as lent
--   as_lent             unless the ending is 'corrected', the buffers are as lent
--   space_cleared       unless it is refused, the first 49,152 bytes of the working space are zero, and those beyond are as lent
--   ended_as            what holds of the outcome of a decoding that is not refused
-- Assumes nothing.
use mathlib.Core.Path.{◌≡◌, sym, ap, ◌∙◌, subst}
use mathlib.Core.Logic.{◌↔◌}
use mathlib.Core.List.{List, ◌++◌}
use Prim.Native.Nat.{ℕ, suc, ◌+◌, ◌-◌, ◌≤◌, ◌<◌}
use native.Mathlib.Omega.{arith}
use lib.ListN.{length, get_or, drop, replicate, length-replicate, get_or-replicate, get_or-append}
use lib.Seq.{get_or-append-add, get_or-drop}
use Rattle.refusal.specs.Refusal.{Check, first}
use Rattle.refusal.specs.declared.Refusal.{Refusal}
use Rattle.refusal.specs.Numbers.{number, named}
use Rattle.refusal.proofs.Keeping.{told}
use Rattle.refusal.proofs.Numbers.{positive, told_as}
use Rattle.codes.specs.Checks.{space_bytes}
use Rattle.ending.specs.Endings.{Buffers}
use Rattle.ending.specs.declared.Ending.{Ending}
use Rattle.ending.specs.declared.Ending.TheVariants.{Refused, Corrected}
use Rattle.joint.specs.Promises.{Left, left, cleared, Decoding}

abbrev pub IsRefused : Left → Type 0
IsRefused l = (r : Refusal) × (l.ending ≡ Refused r)

abbrev pub IsCorrected : Left → Type 0
IsCorrected l = (w : ℕ) × (l.ending ≡ Corrected w)

-- zeros before the rest of a list
module _ (n : ℕ) (w : List ℕ) where
  pub zeros_before : (i : ℕ) → i < n → get_or (replicate n 0 ++ drop n w) i 0 ≡ 0
  zeros_before i h =
      let size : length (replicate {A = ℕ} n 0) ≡ n = length-replicate n 0 in
      get_or-append (replicate n 0) (drop n w) 0 i (omega arith) ∙ get_or-replicate n i 0 0 h

  pub rest_behind : (i : ℕ) → n ≤ i → get_or (replicate n 0 ++ drop n w) i 0 ≡ get_or w i 0
  rest_behind i h =
      let size : length (replicate {A = ℕ} n 0) ≡ n = length-replicate n 0 in
      let e : i ≡ length (replicate {A = ℕ} n 0) + (i - n) = omega arith in
      let e' : n + (i - n) ≡ i = omega arith in
      ap (λ (j : ℕ). get_or (replicate n 0 ++ drop n w) j 0) e
      ∙ get_or-append-add (replicate n 0) (drop n w) (i - n) 0
      ∙ get_or-drop n w (i - n) 0
      ∙ ap (λ (j : ℕ). get_or w j 0) e'

module _ (cs : List Check) (lent : Buffers) (space : List ℕ) (E : Ending → Buffers → Type 0) where
  abbrev Ended : Left → Type 0
  Ended l = E l.ending l.buffers × (l.space ≡ cleared space)

  module _ (never : (r : Refusal) (b : Buffers) → ¬ E (Refused r) b) (l : Left) (h : Decoding cs lent space E l) where
    not_refused : {e : Ending} → E e l.buffers → (r : Refusal) → ¬ (e ≡ Refused r)
    not_refused d r q = never r l.buffers (subst (λ (e : Ending). E e l.buffers) q d)

    pub by_reason : {P : Type 0} → (0 ≡ first cs → Ended l → P)
        → ((r : Refusal) → ¬ (first cs ≡ 0) → l ≡ left (Refused r) lent space → P) → P
    by_reason done stopped = told cs (λ k. left (Refused (named k)) lent space) Ended l h done
        (λ k p d. stopped (named (suc k)) (λ z. omega (arith, p)) d)

    pub refused_exactly : IsRefused l ↔ ¬ (first cs ≡ 0)
    refused_exactly = (
      λ (r, e) z. by_reason (λ p d. not_refused d.0 r e) (λ s some d. some z),
      λ z. by_reason (λ p d. absurd (z (sym p))) (λ s some d. (s, ap (λ (x : Left). x.ending) d)),
    )

    pub as_lent : ((e : Ending) (b : Buffers) → E e b → ((w : ℕ) → ¬ (e ≡ Corrected w)) → b ≡ lent) → ¬ IsCorrected l → l.buffers ≡ lent
    as_lent others n = by_reason (λ p d. others l.ending l.buffers d.0 (λ w e. n (w, e)))
        (λ s some d. ap (λ (x : Left). x.buffers) d)

    pub space_cleared : ¬ IsRefused l
        → ((i : ℕ) → i < space_bytes → get_or l.space i 0 ≡ 0) × ((i : ℕ) → space_bytes ≤ i → get_or l.space i 0 ≡ get_or space i 0)
    unfolding cleared
    space_cleared n = by_reason
        (λ p d. (
          λ i q. ap (λ (w : List ℕ). get_or w i 0) d.1 ∙ zeros_before space_bytes space i q,
          λ i q. ap (λ (w : List ℕ). get_or w i 0) d.1 ∙ rest_behind space_bytes space i q,
        ))
        (λ s some d. absurd (n (s, ap (λ (x : Left). x.ending) d)))

    pub ended_as : (e : Ending) → l.ending ≡ e → ((r : Refusal) → ¬ (e ≡ Refused r)) → (0 ≡ first cs) × E e l.buffers
    ended_as e q n = by_reason
        (λ p d. (p, subst (λ (e : Ending). E e l.buffers) q d.0))
        (λ s some d. absurd (n s (sym q ∙ ap (λ (x : Left). x.ending) d)))

  -- the numbers of the checks are those of the reasons
  module _ (upto : first cs ≤ 26) (never : (r : Refusal) (b : Buffers) → ¬ E (Refused r) b) (l : Left)
      (h : Decoding cs lent space E l) where
    pub by_number : {P : Type 0} → (0 ≡ first cs → Ended l → P)
        → ((r : Refusal) → number r ≡ first cs → l ≡ left (Refused r) lent space → P) → P
    by_number = told_as cs (λ r. left (Refused r) lent space) Ended upto l h

    pub refused_leaves : (r : Refusal) → l.ending ≡ Refused r
        → (number r ≡ first cs) × (1 ≤ number r) × (l.buffers ≡ lent) × (l.space ≡ space)
    refused_leaves r e = by_number
        (λ p d. absurd (not_refused never l h d.0 r e))
        (λ s p d. (
          ap number (reason (sym e ∙ ap (λ (x : Left). x.ending) d)) ∙ p,
          omega (arith, positive r),
          ap (λ (x : Left). x.buffers) d,
          ap (λ (x : Left). x.space) d,
        ))
      where
        reason : {r s : Refusal} → Refused r ≡ Refused s → r ≡ s
        reason q = cc
