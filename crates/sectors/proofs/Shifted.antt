-- Adding a word to the received ring, and raising the trial limit: of the promise itself, through the array's table.
--
--   adding, adding_lost both decodings of a sum with a word: ending, detail, flags and working space stay, the answer is shifted
--   error_alone, error_alone_lost, only_difference, only_difference_lost    what follows of an error alone, and of equal differences
--   raising, raising_lost    up to the joint limit only 'none' can change; within_joint, a decoding that is not refused is up to it
-- Assumes nothing.
use mathlib.Core.Path.{◌≡◌, refl, sym, ap, ◌∙◌, subst}
use mathlib.Core.List.{List, []}
use Prim.Native.Nat.{ℕ, ◌*◌, ◌≤◌}
use Rattle.refusal.specs.Refusal.{Check, first}
use Rattle.field.specs.Arithmetic.{gf}
use Rattle.poly.specs.Poly.{add}
use Rattle.codes.specs.Code.{Code, joint_limit, encoded}
use Rattle.codes.specs.Lost.{core}
use Rattle.codes.specs.Checks.{remaining_checks}
use Rattle.codes.specs.Added.{Added}
use Rattle.codes.proofs.Lost.{core_none}
use Rattle.ending.specs.Endings.{Buffers}
use Rattle.ending.specs.declared.Ending.{Ending}
use Rattle.ending.specs.declared.Ending.TheVariants.{Corrected}
use Rattle.joint.specs.Promises.{Left, on_corrected}
use Rattle.joint.specs.Lost.{LostEnds}
use Rattle.joint.specs.Shifted.{shifted_by, Shifts, Raises}
use Rattle.joint.proofs.Halves as halves
use Rattle.joint.proofs.Halves.{IsRefused}
use Rattle.joint.proofs.Shifted.{moves, only_shifts, alone, same_difference, made_first, lost_shift, lost_raise, same_remaining}
use Rattle.hermitian.specs.Ring.{ring_code, RingWord, ring_of}
use Rattle.hermitian.proofs.Sizes.{ring_proper}
use Rattle.hermitian.proofs.Words.{ring_word_lem}
use Rattle.hermitian.proofs.Sums.{ring_add, added_array, added-checks}
use Rattle.sectors.specs.Promises.{Decodes}
use Rattle.sectors.specs.Lost.{LostRingEnds, DecodesLost}
use Rattle.sectors.proofs.LostDemands as lost
use Rattle.sectors.proofs.Lost.{checks_lost, carried, carry, passed, on_array, unique, nothing_lost, decodes_unique}

module _ (L : List ℕ) (q m : ℕ) (lent : Buffers) (space : List ℕ) where
  abbrev c : Code
  c = ring_code q m

  abbrev Table : ℕ → List ℕ → Ending → Buffers → Type 0
  Table τ v = LostEnds c L v τ lent

  abbrev EndsAs : ℕ → List ℕ → Ending → Buffers → Type 0
  EndsAs τ y = LostRingEnds q m τ L y lent

  abbrev Promise : ℕ → List ℕ → Left → Type 0
  Promise τ y = DecodesLost L q m τ y lent space

  abbrev checks : ℕ → List ℕ → List Check
  checks τ y = checks_lost L q m τ y lent space

  abbrev by : List ℕ → List ℕ → List ℕ
  by v x = add (gf q) x v

  module _ (τ : ℕ) (y a z : List ℕ) (h : Added (RingWord q m) q y a z) where
    same_checks : first (checks τ z) ≡ first (checks τ y)
    same_checks = added-checks q m (q * q) h lent.array lent.flags space (remaining_checks c τ L)

    shift : 0 ≡ first (checks τ y) → (e : Ending) (b : Buffers) → EndsAs τ y e b → EndsAs τ z e (on_corrected (by a) e b)
    shift none e b s =
        let p = passed L q m τ y lent space none in
        let p' = passed L q m τ z lent space (none ∙ sym same_checks) in
        let size = p.word.ring.size in
        let order = p.word.ring.order in
        let f : List ℕ = h.code.0 in
        let (x, ends, back) = carried size p.word.received (Table τ) s in
        let ends' = lost_shift (ring_proper q m size order) L p.remain.enough h.code.1
        (on_array L q m τ y lent space none) τ lent e x ends in
        carry size p'.word.received (Table τ) (
          on_corrected (by (encoded c f)) e x,
          rw (added_array q size m order p.word.received h) ends',
          ap (on_corrected (by a) e) back
              ∙ made_first (ring_of q) (by a) (by (encoded c f)) e x (λ w is.
              ap (add (gf q) (ring_of q x.array)) (sym h.code.2 ∙ ring_word_lem q m size f)
              ∙ sym (ring_add q size x.array (encoded c f))),
        )

    keeps : (l : Left) → Promise τ y l → Promise τ z (shifted_by q a l)
    keeps l = moves (checks τ y) (checks τ z) lent space (EndsAs τ y) (EndsAs τ z) (sym same_checks) (shifted_by q a) (λ k. refl) l
        (λ none k. (shift none l.ending l.buffers k.0, k.1))

  pub adding_lost : (τ : ℕ) → Shifts (RingWord q m) q (λ y. DecodesLost L q m τ y lent space)
  adding_lost τ = only_shifts (RingWord q m) q (Promise τ) (λ y. unique L q m τ y lent space) (keeps τ)

  pub error_alone_lost : (τ : ℕ) {y a z : List ℕ} → Added (RingWord q m) q y a z → (l l' : Left)
      → DecodesLost L q m τ y lent space l → DecodesLost L q m τ z lent space l'
      → (l'.ending ≡ l.ending) × (l'.buffers.flags ≡ l.buffers.flags)
      × ((w : ℕ) → l.ending ≡ Corrected w → l'.buffers.array ≡ add (gf q) l.buffers.array a)
  error_alone_lost τ = alone {Q = Promise τ} (adding_lost τ)

  pub only_difference_lost : (τ : ℕ) {y a y' a' z : List ℕ} → Added (RingWord q m) q y a z → Added (RingWord q m) q y' a' z → (l l' : Left)
      → DecodesLost L q m τ y lent space l → DecodesLost L q m τ y' lent space l' → shifted_by q a l ≡ shifted_by q a' l'
  only_difference_lost τ = same_difference (RingWord q m) q (Promise τ) (λ y. unique L q m τ y lent space) (keeps τ)

  pub raising_lost : (y : List ℕ) → Raises (joint_limit (core c L)) (λ τ. DecodesLost L q m τ y lent space)
  raising_lost y τ τ' up within l l' h h' some = unique L q m τ' y lent space l l'
      (moves (checks τ y) (checks τ' y) lent space (EndsAs τ y) (EndsAs τ' y)
      (rw (same_remaining c L τ τ' up within) refl) (λ l. l) (λ k. refl) l
      (λ none (s, cleared). (
        record {
          array = s.array;
          is_array = s.is_array;
          answer = s.answer;
          ends = lost_raise c L s.array τ τ' lent l.ending s.answer up some s.ends;
          back = s.back;
        },
        cleared,
      )) h) h'

  pub within_joint : (τ : ℕ) (y : List ℕ) (l : Left) → DecodesLost L q m τ y lent space l → ¬ IsRefused l
      → τ ≤ joint_limit (core c L)
  within_joint τ y l h not = (passed L q m τ y lent space
      (halves.ended_as (checks τ y) lent space (EndsAs τ y) (λ r b s. s.ends) l h l.ending refl (λ r e. not (r, e))).0).remain.limit

-- nothing is lost
module _ (q m : ℕ) (lent : Buffers) (space : List ℕ) where
  keeps_all : (τ : ℕ) (y a z : List ℕ) → Added (RingWord q m) q y a z → (l : Left) → Decodes q m τ y lent space l
      → Decodes q m τ z lent space (shifted_by q a l)
  keeps_all τ y a z h l k = (nothing_lost q m τ z lent space _).0
      (keeps [] q m lent space τ y a z h l ((nothing_lost q m τ y lent space l).1 k))

  pub adding : (τ : ℕ) → Shifts (RingWord q m) q (λ y. Decodes q m τ y lent space)
  adding τ = only_shifts (RingWord q m) q (λ y. Decodes q m τ y lent space) (λ y. decodes_unique q m τ y lent space) (keeps_all τ)

  pub error_alone : (τ : ℕ) {y a z : List ℕ} → Added (RingWord q m) q y a z → (l l' : Left)
      → Decodes q m τ y lent space l → Decodes q m τ z lent space l'
      → (l'.ending ≡ l.ending) × (l'.buffers.flags ≡ l.buffers.flags)
      × ((w : ℕ) → l.ending ≡ Corrected w → l'.buffers.array ≡ add (gf q) l.buffers.array a)
  error_alone τ = alone {Q = λ y. Decodes q m τ y lent space} (adding τ)

  pub only_difference : (τ : ℕ) {y a y' a' z : List ℕ} → Added (RingWord q m) q y a z → Added (RingWord q m) q y' a' z → (l l' : Left)
      → Decodes q m τ y lent space l → Decodes q m τ y' lent space l' → shifted_by q a l ≡ shifted_by q a' l'
  only_difference τ =
      same_difference (RingWord q m) q (λ y. Decodes q m τ y lent space) (λ y. decodes_unique q m τ y lent space) (keeps_all τ)

  pub raising : (y : List ℕ) → Raises (joint_limit (ring_code q m)) (λ τ. Decodes q m τ y lent space)
  raising y τ τ' up within l l' h h' = raising_lost [] q m lent space y τ τ' up
      (subst (λ (c : Code). τ' ≤ joint_limit c) (sym (core_none (ring_code q m))) within) l l'
      ((nothing_lost q m τ y lent space l).1 h) ((nothing_lost q m τ' y lent space l').1 h')
