-- How the decoding by wrong symbols ends, and that it can end in one way alone.
--
--   checks_of         its checks
--   far_by_count, far_by_reading    what the two runs answer is not so near, or no word: then none is so near
--   settled          how it ends, once what the runs answer is judged and released
--   unique           no two distinct outcomes satisfy the promise
-- Assumes nothing.
use mathlib.Core.Path.{◌≡◌, refl, sym, ap, ◌∙◌, subst}
use mathlib.Core.Logic.{inl, inr, ⊎_elim}
use mathlib.Core.List.{List}
use Prim.Native.Nat.{ℕ, ◌+◌, ◌*◌, ◌≤◌, ◌<◌}
use native.Mathlib.Decide.{dec_le}
use native.Mathlib.Omega.{arith}
use Rattle.refusal.specs.Refusal.{Check, first}
use Rattle.codes.specs.Code.{total}
use Rattle.codes.specs.Near.{Far}
use Rattle.ending.specs.Endings.{Buffers}
use Rattle.ending.specs.declared.Ending.{Ending}
use Rattle.ending.specs.declared.Ending.TheVariants.{Refused, Corrected, Nothing, Several, Hollow}
use Rattle.finish.specs.Working.{released}
use Rattle.joint.specs.Promises as Joint
use Rattle.joint.proofs.Promised as promised
use Rattle.hermitian.specs.Ring.{RingWord, IsRing}
use Rattle.hermitian.specs.Pits.{symbol_flags, wrong_symbols, genus, pit_checks}
use Rattle.hermitian.proofs.Passed.{Passed, PassedPits, pitting}
use Rattle.curve.proofs.Model.{answer}
use Rattle.curve.proofs.Complete.{near_answer, unique_near}
use Rattle.scattered.specs.Promises.{Mends, PitEnds, Decodes}
use Rattle.scattered.specs.Working.{Judged}

module _ (q m τ : ℕ) (y : List ℕ) (ring : Passed q m) (received : IsRing q y) (room : ¬ (q * q * q < m + 1 + genus q + 2 * τ)) where
  -- a word within the limit is what the two runs answer
  near : {v : List ℕ} → RingWord q m v → wrong_symbols q y v ≤ τ → answer q m y ≡ v
  near = near_answer q ring.size m ring.order y received τ room

  pub far_by_count : τ < wrong_symbols q y (answer q m y) → Far (RingWord q m) (wrong_symbols q y) τ
  far_by_count above v word = go (dec_le (wrong_symbols q y v) τ)
    where
      go : Dec (wrong_symbols q y v ≤ τ) → τ < wrong_symbols q y v
      go (yes le) = absurd (omega (arith, above, ap (wrong_symbols q y) (near word le), le))
      go (no more) = omega arith

  pub far_by_reading : ¬ RingWord q m (answer q m y) → Far (RingWord q m) (wrong_symbols q y) τ
  far_by_reading none v word = go (dec_le (wrong_symbols q y v) τ)
    where
      go : Dec (wrong_symbols q y v ≤ τ) → τ < wrong_symbols q y v
      go (yes le) = absurd (none (subst (RingWord q m) (sym (near word le)) word))
      go (no more) = omega arith

  module _ (lent : Buffers) where
    -- what the runs answer, judged and released
    pub settled : (own flags : List ℕ) (n : ℕ) → own ≡ answer q m y → flags ≡ symbol_flags q y own → n ≡ total flags
        → (e : Ending) (b : Buffers) → Judged q m τ n own e → b ≡ released e (Joint.buffers own flags) lent → PitEnds q m τ y lent e b
    settled own flags n is fs count e b (inl (le, word, ends)) back =
        let left : b ≡ Joint.buffers own flags = back ∙ ap (λ (x : Ending). released x (Joint.buffers own flags) lent) ends in
        rw (ends, left) (record { word = word; detail = count ∙ ap total fs; within = le; flags = fs })
    settled own flags n is fs count e b (inr (far, ends)) back =
        let left : b ≡ lent = back ∙ ap (λ (x : Ending). released x (Joint.buffers own flags) lent) ends in
        rw (ends, left) (
          ⊎_elim
              (λ above. far_by_count (omega (arith, above, count ∙ ap total fs, ap (wrong_symbols q y) is)))
              (λ none. far_by_reading (λ word. none (rw is word))) far,
          refl,
        )

    -- two that are mended have the same word
    same_word : {w w' : ℕ} {b b' : Buffers} → Mends q m τ y w b → Mends q m τ y w' b' → b.array ≡ b'.array
    same_word h h' = unique_near q ring.size m ring.order y received τ room h.word h'.word
        (omega (arith, h.detail, h.within)) (omega (arith, h'.detail, h'.within))

    same_mended : {w w' : ℕ} {b b' : Buffers} → Mends q m τ y w b → Mends q m τ y w' b' → (Corrected w ≡ Corrected w') × (b ≡ b')
    same_mended {b = b} {b' = b'} h h' =
        let same = same_word h h' in
        let flags : b.flags ≡ b'.flags = h.flags ∙ ap (symbol_flags q y) same ∙ sym h'.flags in (
          ap Corrected (h.detail ∙ ap (wrong_symbols q y) same ∙ sym h'.detail),
          λ i. record { array = same i; flags = flags i },
        )

    -- where no word is so near, none was found
    not_both : {P : Type 0} {w : ℕ} {b : Buffers} → Mends q m τ y w b → Far (RingWord q m) (wrong_symbols q y) τ → P
    not_both {b = b} h far = absurd (omega (arith, far b.array h.word, h.detail, h.within))

    pub ends_unique : (e e' : Ending) (b b' : Buffers) → PitEnds q m τ y lent e b → PitEnds q m τ y lent e' b' → (e ≡ e') × (b ≡ b')
    ends_unique (Corrected w) (Corrected w') b b' h h' = same_mended h h'
    ends_unique (Corrected w) Nothing b b' h h' = not_both h h'.0
    ends_unique (Corrected w) (Refused r) b b' h h' = absurd h'
    ends_unique (Corrected w) (Several t) b b' h h' = absurd h'
    ends_unique (Corrected w) (Hollow t) b b' h h' = absurd h'
    ends_unique Nothing (Corrected w) b b' h h' = not_both h' h.0
    ends_unique Nothing Nothing b b' h h' = (refl, h.1 ∙ sym h'.1)
    ends_unique Nothing (Refused r) b b' h h' = absurd h'
    ends_unique Nothing (Several t) b b' h h' = absurd h'
    ends_unique Nothing (Hollow t) b b' h h' = absurd h'
    ends_unique (Refused r) e' b b' h h' = absurd h
    ends_unique (Several t) e' b b' h h' = absurd h
    ends_unique (Hollow t) e' b b' h h' = absurd h

module _ (q m τ : ℕ) (y : List ℕ) (lent : Buffers) (space : List ℕ) where
  abbrev pub checks_of : List Check
  checks_of = pit_checks q m τ y lent.array lent.flags space

  pub passed : 0 ≡ first checks_of → PassedPits q m τ y lent.array lent.flags space
  passed = pitting q m τ y lent.array lent.flags space

  pub unique : (l l' : Joint.Left) → Decodes q m τ y lent space l → Decodes q m τ y lent space l' → l ≡ l'
  unique = promised.unique checks_of lent space (PitEnds q m τ y lent) (λ none.
      let p = passed none in
      ends_unique q m τ y p.word.ring p.word.received p.room lent)
