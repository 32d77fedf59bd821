-- What the user asks of the decoding of a ring by its sectors, as theorems about its promise: l is what it leaves.
--
-- 'Nothing by halves.'
--   refused_exactly     it is refused exactly when a check applies
--   refused_leaves      then the reason's number is that of the first that does, of 10, 11, 18, 5, 7 and 8, and word, flags and working
--                       space are as lent
--   as_lent             unless the ending is 'corrected', word and flags are as lent
--   space_cleared       unless it is refused, the first 49,152 bytes of the working space are zero, those beyond as lent
--
-- What the endings mean for words of H(m).
--   corrected_nearest   'corrected' leaves a word that differs from the received ring in exactly as many sectors as the detail
--                       says, at most τ, where every other word differs in more; the flags are those of its wrong sectors
--   none_far            'none': no word is within τ sectors
--   safe_exactly        at the safe limit or below: 'corrected' exactly when some word is within τ sectors
--   safe_otherwise      there any ending but 'corrected' and 'refused' means that no word is within τ sectors
--
-- The one number for the C caller.
--   detail_small        the detail is below 256, so that the number tells the ending and the detail
--
-- Shut out by name.
--   array_returned      P10: a decoder that returns the array instead of the word
-- Assumes nothing.
use mathlib.Core.Path.{◌≡◌, refl, sym, ap, ◌∙◌, subst, fun_ext}
use mathlib.Core.Logic.{◌↔◌, ⊎_elim}
use mathlib.Core.List.{List, [], ◌∷◌}
use Prim.Native.Nat.{ℕ, suc, ◌*◌, ◌≤◌, ◌<◌}
use native.Mathlib.Omega.{arith}
use lib.ListN.{length, get_or}
use Rattle.refusal.specs.Refusal.{Check, first, is_in}
use Rattle.refusal.specs.Meaning.{detail_of}
use Rattle.refusal.specs.Numbers.{number}
use Rattle.refusal.specs.declared.Refusal.{Refusal}
use Rattle.poly.proofs.Roots.{Mem}
use Rattle.codes.specs.Code.{Code, total, differs, flags_from, safe_limit}
use Rattle.codes.specs.Lost.{core, right, twos_at, wrong_among, flags_lost}
use Rattle.codes.specs.Near.{Nearest, Near, Far}
use Rattle.codes.specs.Checks.{space_bytes}
use Rattle.codes.proofs.Flags.{flags-length}
use Rattle.codes.proofs.Lost.{core_none}
use Rattle.ending.specs.Endings.{Buffers, meaning}
use Rattle.ending.specs.declared.Ending.TheVariants.{Refused, Corrected, Nothing}
use Rattle.joint.specs.Promises as Joint
use Rattle.joint.proofs.Halves.{IsRefused, IsCorrected}
use Rattle.hermitian.specs.Ring.{ring_code, RingWord, differs_in, sector_flags, wrong_sectors}
use Rattle.hermitian.specs.Checks.{decode_checks}
use Rattle.hermitian.proofs.Passed.{first_of}
use Rattle.sectors.specs.Promises.{Decodes}
use Rattle.sectors.specs.Lost.{DecodesLost}
use Rattle.sectors.proofs.Lost.{none_checks, nothing_lost}
use Rattle.sectors.proofs.LostDemands as lost

-- with nothing lost all flags are left, and none is 2
left_all : (i : ℕ) (fs : List ℕ) → right (flags_from (λ j. is_in j []) i (length fs)) fs ≡ fs
unfolding right flags_from is_in
left_all i [] = refl
left_all i (f ∷ fs) = ap (◌∷◌ f) (left_all (suc i) fs)

no_twos : (i : ℕ) (fs : List ℕ) → twos_at (flags_from (λ j. is_in j []) i (length fs)) fs ≡ fs
unfolding twos_at flags_from is_in
no_twos i [] = refl
no_twos i (f ∷ fs) = ap (◌∷◌ f) (no_twos (suc i) fs)

module _ (q : ℕ) (y v : List ℕ) where
  sized : length (sector_flags q y v) ≡ q * q
  sized = flags-length (differs_in q y v) 0 (q * q)

  all_sectors : wrong_among (q * q) [] (sector_flags q y v) ≡ wrong_sectors q y v
  all_sectors = ap total (subst (λ (n : ℕ). right (flags_from (λ j. is_in j []) 0 n) (sector_flags q y v) ≡ sector_flags q y v) sized
      (left_all 0 (sector_flags q y v)))

  all_flags : flags_lost (q * q) [] (sector_flags q y v) ≡ sector_flags q y v
  all_flags = subst (λ (n : ℕ). twos_at (flags_from (λ j. is_in j []) 0 n) (sector_flags q y v) ≡ sector_flags q y v) sized
      (no_twos 0 (sector_flags q y v))

-- every theorem is that of the decoding with lost sectors, of which there are none
module _ (q m τ : ℕ) (y : List ℕ) (lent : Buffers) (space : List ℕ) (l : Joint.Left) (h : Decodes q m τ y lent space l) where
  abbrev checks : List Check
  checks = decode_checks q m τ y lent.array lent.flags space

  none_lost : DecodesLost [] q m τ y lent space l
  none_lost = (nothing_lost q m τ y lent space l).1 h

  count : (λ (v : List ℕ). wrong_among (q * q) [] (sector_flags q y v)) ≡ wrong_sectors q y
  count = fun_ext (all_sectors q y)

  pub refused_exactly : IsRefused l ↔ ¬ (first checks ≡ 0)
  refused_exactly =
      subst (λ (n : ℕ). IsRefused l ↔ ¬ (n ≡ 0)) (none_checks q m τ y lent space) (lost.refused_exactly [] q m τ y lent space l none_lost)

  pub refused_leaves : (r : Refusal) → l.ending ≡ Refused r
      → (number r ≡ first checks) × Mem (number r) (10 ∷ 11 ∷ 18 ∷ 5 ∷ 7 ∷ 8 ∷ []) × (l.buffers ≡ lent) × (l.space ≡ space)
  refused_leaves r e =
      let (is, some, kept, kept-space) = lost.refused_leaves [] q m τ y lent space l none_lost r e in
      let same : number r ≡ first checks = is ∙ none_checks q m τ y lent space in
      let one : Mem (first checks) (10 ∷ 11 ∷ 18 ∷ 5 ∷ 7 ∷ 8 ∷ []) =
      ⊎_elim (λ z. absurd (omega arith)) (λ i. i) (first_of checks) in
      (same, rw same one, kept, kept-space)

  pub as_lent : ¬ IsCorrected l → l.buffers ≡ lent
  as_lent = lost.as_lent [] q m τ y lent space l none_lost

  pub space_cleared : ¬ IsRefused l
      → ((i : ℕ) → i < space_bytes → get_or l.space i 0 ≡ 0) × ((i : ℕ) → space_bytes ≤ i → get_or l.space i 0 ≡ get_or space i 0)
  space_cleared = lost.space_cleared [] q m τ y lent space l none_lost

  pub corrected_nearest : (w : ℕ) → l.ending ≡ Corrected w
      → Nearest (RingWord q m) (wrong_sectors q y) τ w l.buffers.array
      × (l.buffers.flags ≡ sector_flags q y l.buffers.array)
  corrected_nearest w e = (
    subst (λ (n : List ℕ → ℕ). Nearest (RingWord q m) n τ w l.buffers.array) count
        (lost.corrected_nearest [] q m τ y lent space l none_lost w e),
    lost.corrected_flags [] q m τ y lent space l none_lost w e ∙ all_flags q y l.buffers.array,
  )

  pub none_far : l.ending ≡ Nothing → Far (RingWord q m) (wrong_sectors q y) τ
  none_far e = subst (λ (n : List ℕ → ℕ). Far (RingWord q m) n τ) count (lost.none_far [] q m τ y lent space l none_lost e)

  module _ (safe : τ ≤ safe_limit (ring_code q m)) (not : ¬ IsRefused l) where
    safe_rest : τ ≤ safe_limit (core (ring_code q m) [])
    safe_rest = subst (λ (c : Code). τ ≤ safe_limit c) (sym (core_none (ring_code q m))) safe

    pub safe_exactly : IsCorrected l ↔ Near (RingWord q m) (wrong_sectors q y) τ
    safe_exactly = subst (λ (n : List ℕ → ℕ). IsCorrected l ↔ Near (RingWord q m) n τ) count
        (lost.safe_exactly [] q m τ y lent space l none_lost safe_rest not)

    -- 'At the safe limit or below, any ending but "corrected" and "refused" means that no code array is within τ columns.'
    pub safe_otherwise : ¬ IsCorrected l → Far (RingWord q m) (wrong_sectors q y) τ
    safe_otherwise n = subst (λ (n : List ℕ → ℕ). Far (RingWord q m) n τ) count
        (lost.safe_otherwise [] q m τ y lent space l none_lost safe_rest not n)

  pub detail_small : detail_of (meaning l.ending) < 256
  detail_small = lost.detail_small [] q m τ y lent space l none_lost

-- 'P10: H(3), f=y: 0 1 2 3 2 3 2 3.' The rows of its array are 0 0 0 0 and 1 1 1 1.
module _ (lent : Buffers) (space f s : List ℕ) where
  abbrev word : List ℕ
  word = 0 ∷ 1 ∷ 2 ∷ 3 ∷ 2 ∷ 3 ∷ 2 ∷ 3 ∷ []

  abbrev array_left : Joint.Left
  array_left = Joint.left (Corrected 0) (Joint.buffers (0 ∷ 0 ∷ 0 ∷ 0 ∷ 1 ∷ 1 ∷ 1 ∷ 1 ∷ []) f) s

  pub array_returned : ¬ Decodes 2 3 0 word lent space array_left
  unfolding differs flags_from total
  array_returned h = let z : ◌≡◌ {A = ℕ} 4 0 = (corrected_nearest 2 3 0 word lent space array_left h 0 refl).0.wrong in omega arith
