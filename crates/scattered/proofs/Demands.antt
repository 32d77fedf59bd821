-- What 02, 2026-06, asks of the decoding by wrong symbols, as theorems about its promise: l is what it leaves.
--
-- 'Nothing by halves.'
--   refused_exactly     it is refused exactly when a check applies
--   refused_leaves      then the reason's number is that of the first that does, of 10, 11, 18, 5, 7 and 19, and word, flags and
--                       working space are as lent
--   as_lent             unless the ending is 'corrected', word and flags are as lent
--   space_cleared       unless it is refused, the first 49,152 bytes of the working space are zero, those beyond as lent
--
-- What the endings mean for words of H(m).
--   corrected_exactly   it ends 'corrected' exactly when some word is within τ symbols, and otherwise, by none_otherwise, with 'none'
--   corrected-word      then it leaves a word that differs from the received ring in exactly as many symbols as the detail says, at
--                       most τ, and its flags
--   only_word           which is the only one: every other word differs in more than τ
--   none_far            'none': no word is within τ symbols
--
-- The limit, and the one number for the C caller.
--   limit_37            'For H(37) that is up to 10 symbols'; limit_57, limit_58: for H(57) it is 0, for H(58) and H(59) below zero
--   detail_small        the detail is below 256, so that the number tells the ending and the detail
-- Assumes nothing.
use mathlib.Core.Path.{◌≡◌, refl, ap}
use mathlib.Core.Logic.{◌↔◌, ⊎_elim}
use mathlib.Core.Bool.{true, false}
use mathlib.Core.List.{List, [], ◌∷◌}
use Prim.Native.Nat.{ℕ, ◌*◌, ◌≤◌, ◌<◌}
use native.Mathlib.Decide.{dec_le}
use native.Mathlib.Omega.{arith}
use lib.ListN.{get_or}
use Rattle.refusal.specs.Refusal.{first}
use Rattle.refusal.specs.Meaning.{number_of, detail_of}
use Rattle.refusal.specs.Numbers.{number}
use Rattle.refusal.specs.declared.Refusal.{Refusal}
use Rattle.refusal.proofs.Ladders.{first_upto}
use Rattle.poly.proofs.Roots.{Mem}
use Rattle.codes.specs.Near.{Near, Far}
use Rattle.codes.specs.Checks.{space_bytes}
use Rattle.ending.specs.Endings.{Buffers, meaning}
use Rattle.ending.specs.declared.Ending.{Ending}
use Rattle.ending.specs.declared.Ending.TheVariants.{Refused, Corrected, Nothing, Several, Hollow}
use Rattle.joint.specs.Promises as Joint
use Rattle.joint.proofs.Halves as halves
use Rattle.joint.proofs.Halves.{IsRefused, IsCorrected}
use Rattle.hermitian.specs.Ring.{RingWord}
use Rattle.hermitian.specs.Pits.{wrong_symbols, wrong_at, bad_limit}
use Rattle.hermitian.proofs.Sizes.{sides}
use Rattle.hermitian.proofs.Passed.{first_of}
use Rattle.curve.proofs.Complete.{unique_near}
use Rattle.scattered.specs.Promises.{Mends, PitEnds, Decodes}
use Rattle.scattered.proofs.Flagged.{count_most}
use Rattle.scattered.proofs.Ended.{checks_of, passed}

pub limit_37 : (bad_limit 4 37 10 ≡ false) × (bad_limit 4 37 11 ≡ true)
limit_37 = (refl, refl)

pub limit_57 : (bad_limit 4 57 0 ≡ false) × (bad_limit 4 57 1 ≡ true)
limit_57 = (refl, refl)

pub limit_58 : (bad_limit 4 58 0 ≡ true) × (bad_limit 4 59 0 ≡ true)
limit_58 = (refl, refl)

module _ (q m τ : ℕ) (y : List ℕ) (lent : Buffers) (space : List ℕ) where
  abbrev Ended : Ending → Buffers → Type 0
  Ended = PitEnds q m τ y lent

  -- endings with other numbers differ
  apart : (e e' : Ending) → e ≡ e' → ¬ ¬ (number_of (meaning e) ≡ number_of (meaning e'))
  apart e e' same n = n (ap (λ (x : Ending). number_of (meaning x)) same)

  in_table : first (checks_of q m τ y lent space) ≤ 26
  in_table = first_upto 26 (checks_of q m τ y lent space) refl

  never : (r : Refusal) (b : Buffers) → ¬ Ended (Refused r) b
  never r b h = h

  others : (e : Ending) (b : Buffers) → Ended e b → ((w : ℕ) → ¬ (e ≡ Corrected w)) → b ≡ lent
  others (Refused r) b h n = absurd h
  others (Corrected w) b h n = absurd (n w refl)
  others Nothing b h n = h.1
  others (Several t) b h n = absurd h
  others (Hollow t) b h n = absurd h

  module _ (l : Joint.Left) (h : Decodes q m τ y lent space l) where
    pub refused_exactly : IsRefused l ↔ ¬ (first (checks_of q m τ y lent space) ≡ 0)
    refused_exactly = halves.refused_exactly (checks_of q m τ y lent space) lent space Ended never l h

    pub refused_leaves : (r : Refusal) → l.ending ≡ Refused r
        → (number r ≡ first (checks_of q m τ y lent space)) × Mem (number r) (10 ∷ 11 ∷ 18 ∷ 5 ∷ 7 ∷ 19 ∷ [])
        × (l.buffers ≡ lent) × (l.space ≡ space)
    refused_leaves r e =
        let (is, some, kept, kept-space) = halves.refused_leaves (checks_of q m τ y lent space) lent space Ended in_table never l h r e in
        let one : Mem (first (checks_of q m τ y lent space)) (10 ∷ 11 ∷ 18 ∷ 5 ∷ 7 ∷ 19 ∷ []) =
        ⊎_elim (λ z. absurd (omega arith)) (λ i. i) (first_of (checks_of q m τ y lent space)) in
        (is, rw is one, kept, kept-space)

    pub as_lent : ¬ IsCorrected l → l.buffers ≡ lent
    as_lent = halves.as_lent (checks_of q m τ y lent space) lent space Ended never l h others

    pub space_cleared : ¬ IsRefused l
        → ((i : ℕ) → i < space_bytes → get_or l.space i 0 ≡ 0) × ((i : ℕ) → space_bytes ≤ i → get_or l.space i 0 ≡ get_or space i 0)
    space_cleared = halves.space_cleared (checks_of q m τ y lent space) lent space Ended never l h

    ended : (e : Ending) → l.ending ≡ e → ((r : Refusal) → ¬ (e ≡ Refused r))
        → (0 ≡ first (checks_of q m τ y lent space)) × Ended e l.buffers
    ended = halves.ended_as (checks_of q m τ y lent space) lent space Ended never l h

    pub corrected-word : (w : ℕ) → l.ending ≡ Corrected w → Mends q m τ y w l.buffers
    corrected-word w e = (ended (Corrected w) e (λ r x. apart (Corrected w) (Refused r) x (omega arith))).1

    pub none_far : l.ending ≡ Nothing → Far (RingWord q m) (wrong_symbols q y) τ
    none_far e = (ended Nothing e (λ r x. apart Nothing (Refused r) x (omega arith))).1.0

    pub only_word : (w : ℕ) → l.ending ≡ Corrected w → (b : List ℕ) → RingWord q m b → ¬ (b ≡ l.buffers.array)
        → τ < wrong_symbols q y b
    only_word w e b word other = go (dec_le (wrong_symbols q y b) τ)
      where
        go : Dec (wrong_symbols q y b ≤ τ) → τ < wrong_symbols q y b
        go (no more) = omega arith
        go (yes le) =
            let h = corrected-word w e in
            let p = passed q m τ y lent space (ended (Corrected w) e (λ r x. apart (Corrected w) (Refused r) x (omega arith))).0 in
            absurd (other (unique_near q p.word.ring.size m p.word.ring.order y p.word.received τ p.room word h.word le
            (omega (arith, h.detail, h.within))))

    -- not refused, it ends 'corrected' or 'none'
    pub none_otherwise : ¬ IsRefused l → ¬ IsCorrected l → l.ending ≡ Nothing
    none_otherwise not others = halves.by_number (checks_of q m τ y lent space) lent space Ended in_table never l h
        (λ none d. go l.ending refl d.0)
        (λ r some is. absurd (not (r, ap (λ (x : Joint.Left). x.ending) is)))
      where
        go : (e : Ending) → l.ending ≡ e → Ended e l.buffers → l.ending ≡ Nothing
        go (Refused r) is d = absurd d
        go (Corrected w) is d = absurd (others (w, is))
        go Nothing is d = is
        go (Several t) is d = absurd d
        go (Hollow t) is d = absurd d

    pub corrected_exactly : ¬ IsRefused l → IsCorrected l ↔ Near (RingWord q m) (wrong_symbols q y) τ
    corrected_exactly not = (
      λ (w, e). let h = corrected-word w e in (l.buffers.array, h.word, omega (arith, h.detail, h.within)),
      λ (v, word, near). halves.by_number (checks_of q m τ y lent space) lent space Ended in_table never l h
          (λ none d. go v word near l.ending refl d.0)
          (λ r some is. absurd (not (r, ap (λ (x : Joint.Left). x.ending) is))),
    )
      where
        go : (v : List ℕ) → RingWord q m v → wrong_symbols q y v ≤ τ → (e : Ending) → l.ending ≡ e → Ended e l.buffers → IsCorrected l
        go v word near (Refused r) is d = absurd d
        go v word near (Corrected w) is d = (w, is)
        go v word near Nothing is d = absurd (omega (arith, d.0 v word, near))
        go v word near (Several t) is d = absurd d
        go v word near (Hollow t) is d = absurd d

    pub detail_small : detail_of (meaning l.ending) < 256
    detail_small = halves.by_number (checks_of q m τ y lent space) lent space Ended in_table never l h
        (λ none d. go none l.ending d.0)
        (λ r some is.
        let n = ap (λ (x : Joint.Left). detail_of (meaning x.ending)) is in
        omega (arith, n, some, in_table))
      where
        go : 0 ≡ first (checks_of q m τ y lent space) → (e : Ending) → Ended e l.buffers → detail_of (meaning e) < 256
        go none (Refused r) d = absurd d
        go none (Corrected w) d =
            let p = passed q m τ y lent space none in
            omega (
              arith,
              d.detail,
              count_most (wrong_at y l.buffers.array) 0 (q * q * q),
              (sides q q p.word.ring.size refl).most,
            )
        go none Nothing d = omega arith
        go none (Several t) d = absurd d
        go none (Hollow t) d = absurd d
