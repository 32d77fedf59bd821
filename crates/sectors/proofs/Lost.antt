-- Decoding a ring with lost sectors, through the array's decoding with lost columns.
--
--   checks_of, checks_lost    the checks of both decodings
--   passed            what its checks leave
--   carried, carry    the ring's end, and that of its array: each from the other
--   unique            no two distinct outcomes satisfy the promise
--   nothing_lost      with nothing lost it is the promise of decoding a ring; decodes_unique, of which the same holds
--   no_influence      received rings that agree in the remaining sectors have the same outcome
-- Assumes nothing.
use mathlib.Core.Path.{◌≡◌, refl, sym, ap₂, ◌∙◌, subst}
use mathlib.Core.Logic.{◌↔◌}
use mathlib.Core.Bool.{false}
use mathlib.Core.List.{List, [], ◌++◌}
use Prim.Native.Nat.{ℕ, ◌*◌}
use lib.ListN.{length}
use Rattle.refusal.specs.Refusal.{Check, first, some_outside_field}
use Rattle.refusal.proofs.Ladders.{same_behind}
use Rattle.codes.specs.Code.{IsArray}
use Rattle.codes.specs.Factors.{plain}
use Rattle.codes.specs.Lost.{core_of}
use Rattle.codes.specs.Checks.{remaining_checks}
use Rattle.codes.proofs.Lost.{none_remaining}
use Rattle.ending.specs.Endings.{Buffers, Ends}
use Rattle.ending.specs.declared.Ending.{Ending}
use Rattle.joint.specs.Promises as Joint
use Rattle.joint.specs.Lost.{LostEnds}
use Rattle.joint.proofs.Promised as promised
use Rattle.joint.proofs.Lost.{ends_unique, same_rest, none_ends}
use Rattle.hermitian.specs.Ring.{ring_code, ring_of, IsRing}
use Rattle.hermitian.specs.Checks.{bad_size, ring_checks, received_checks, decode_checks, lost_checks}
use Rattle.sectors.specs.Promises.{Carried, RingEnds, Decodes}
use Rattle.sectors.specs.Lost.{LostRingEnds, DecodesLost}
use Rattle.hermitian.proofs.Sizes.{ring_proper}
use Rattle.hermitian.proofs.Rings.{array_of, is_array, array_exactly}
use Rattle.hermitian.proofs.Words.{array_ring}
use Rattle.hermitian.proofs.Passed.{words, PassedLost, losing, to_array}

module _ {q : ℕ} (size : bad_size q ≡ false) {y : List ℕ} (ring : IsRing q y) (E : List ℕ → Ending → Buffers → Type 0) where
  pub carried : {e : Ending} {left : Buffers} → Carried q y E e left
      → (x : Buffers) × E (array_of q y) e x × (left ≡ Joint.on_corrected (ring_of q) e x)
  carried {e} r =
      let same = (array_exactly q size ring r.array).0 r.is_array in
      (r.answer, subst (λ (a : List ℕ). E a e r.answer) (sym same) r.ends, r.back)

  pub carry : {e : Ending} {left : Buffers} → ((x : Buffers) × E (array_of q y) e x × (left ≡ Joint.on_corrected (ring_of q) e x))
      → Carried q y E e left
  carry (x, ends, back) =
      record { array = array_of q y; is_array = (array_exactly q size ring (array_of q y)).1 refl; answer = x; ends = ends; back = back }

module _ (L : List ℕ) (q m τ : ℕ) (y : List ℕ) (lent : Buffers) (space : List ℕ) where
  abbrev pub checks_lost : List Check
  checks_lost = lost_checks q m τ L y lent.array lent.flags space

  pub passed : 0 ≡ first checks_lost → PassedLost q m τ L y lent.array lent.flags space
  passed = losing q m τ L y lent.array lent.flags space

  abbrev pub EndsAs : Ending → Buffers → Type 0
  EndsAs = LostRingEnds q m τ L y lent

  -- the table of the array with lost columns
  abbrev pub Table : List ℕ → Ending → Buffers → Type 0
  Table a = LostEnds (ring_code q m) L a τ lent

  module _ (none : 0 ≡ first checks_lost) where
    abbrev p : PassedLost q m τ L y lent.array lent.flags space
    p = passed none

    pub on_array : IsArray (ring_code q m) (array_of q y)
    on_array = (array_ring q m).1 (is_array q p.word.ring.size p.word.received)

    ring_unique : (e e' : Ending) (x x' : Buffers) → EndsAs e x → EndsAs e' x' → (e ≡ e') × (x ≡ x')
    ring_unique e e' x x' h h' =
        let (b, ends, back) = carried p.word.ring.size p.word.received Table h in
        let (b', ends', back') = carried p.word.ring.size p.word.received Table h' in
        let u = ends_unique (ring_code q m) L (ring_proper q m p.word.ring.size p.word.ring.order) p.remain
        on_array lent e e' b b' ends ends' in
        (u.0, back ∙ ap₂ (Joint.on_corrected (ring_of q)) u.0 u.1 ∙ sym back')

  pub unique : (l l' : Joint.Left) → DecodesLost L q m τ y lent space l → DecodesLost L q m τ y lent space l' → l ≡ l'
  unique = promised.unique checks_lost lent space EndsAs ring_unique

-- 'nothing lost'
module _ (q m τ : ℕ) (y : List ℕ) (lent : Buffers) (space : List ℕ) where
  abbrev pub checks_of : List Check
  checks_of = decode_checks q m τ y lent.array lent.flags space

  abbrev none_lost : List Check
  none_lost = checks_lost [] q m τ y lent space

  pub none_checks : first none_lost ≡ first checks_of
  none_checks = same_behind (ring_checks q m ++ received_checks q (q * q) y lent.array lent.flags space)
      (remaining_checks (ring_code q m) τ []) _ tt
      (λ e.
      let p = (words q m (q * q) y lent.array lent.flags space [] e).0 in
      let on = to_array p.ring y lent.array lent.flags space p.received p.answer p.flags p.space in
      sym (on _) ∙ none_remaining (plain (ring_code q m)) τ y lent.array lent.flags space ∙ on _)

  abbrev Lost : Ending → Buffers → Type 0
  Lost = EndsAs [] q m τ y lent space

  abbrev Whole : Ending → Buffers → Type 0
  Whole = RingEnds q m τ y lent

  same_ends : 0 ≡ first none_lost → (e : Ending) (b : Buffers) → Lost e b ↔ Whole e b
  same_ends none e b =
      let w = (passed [] q m τ y lent space none).word in
      let same = none_ends (ring_code q m) (on_array [] q m τ y lent space none) τ lent in (
        λ h.
            let (x, ends, back) = carried w.ring.size w.received (Table [] q m τ y lent space) h in
            carry w.ring.size w.received (λ a. Ends (ring_code q m) a τ lent) (x, (same x e).0 ends, back),
        λ h.
            let (x, ends, back) = carried w.ring.size w.received (λ a. Ends (ring_code q m) a τ lent) h in
            carry w.ring.size w.received (Table [] q m τ y lent space) (x, (same x e).1 ends, back),
      )

  pub nothing_lost : (l : Joint.Left) → DecodesLost [] q m τ y lent space l ↔ Decodes q m τ y lent space l
  nothing_lost l = (
    promised.same_decoding none_lost lent space checks_of Lost Whole none_checks (λ none e b. (same_ends none e b).0) l,
    promised.same_decoding checks_of lent space none_lost Whole Lost (sym none_checks)
        (λ none e b. (same_ends (none ∙ sym none_checks) e b).1) l,
  )

pub decodes_unique : (q m τ : ℕ) (y : List ℕ) (lent : Buffers) (space : List ℕ) (l l' : Joint.Left)
    → Decodes q m τ y lent space l → Decodes q m τ y lent space l' → l ≡ l'
decodes_unique q m τ y lent space l l' h h' =
    unique [] q m τ y lent space l l' ((nothing_lost q m τ y lent space l).1 h) ((nothing_lost q m τ y lent space l').1 h')

-- 'Received symbols in lost columns have no influence, but must lie in the field.'
module _ (L : List ℕ) (q m τ : ℕ) (lent : Buffers) (space y y' : List ℕ) (sized : length y ≡ length y')
    (in_field : some_outside_field q y ≡ some_outside_field q y')
    (rest : core_of (ring_code q m) L (array_of q y) ≡ core_of (ring_code q m) L (array_of q y')) where
  abbrev checks_with : List ℕ → List Check
  checks_with y = checks_lost L q m τ y lent space

  same_checks : first (checks_with y) ≡ first (checks_with y')
  same_checks = rw (sized, in_field)

  pub no_influence : (l : Joint.Left) → DecodesLost L q m τ y lent space l → DecodesLost L q m τ y' lent space l
  no_influence =
      promised.same_decoding (checks_with y) lent space (checks_with y') (LostRingEnds q m τ L y lent) (LostRingEnds q m τ L y' lent)
      same_checks
      (λ none e b h.
      let none' = none ∙ same_checks in
      let w = (passed L q m τ y lent space none).word in
      let w' = (passed L q m τ y' lent space none').word in
      let (x, ends, back) = carried w.ring.size w.received (Table L q m τ y lent space) h in
      let ends' = same_rest (ring_code q m) L (ring_proper q m w.ring.size w.ring.order) (on_array L q m τ y lent space none)
      (on_array L q m τ y' lent space none') rest τ lent e x ends in
      carry w'.ring.size w'.received (Table L q m τ y lent space) (x, ends', back))
