-- What the user asks of a decoding with lost sectors, as theorems about its promise: L are the lost sectors, and
-- l is what it leaves. That no two outcomes satisfy it, that nothing lost gives decoding, and that lost symbols have no influence
-- stand in Lost.
--
-- 'Nothing by halves.'
--   refused_exactly, refused_leaves, as_lent, space_cleared    as for decoding; the numbers are 10, 11, 5, 7, 16, 17 and 8
--
-- What the endings mean for words of H(m): 'Demand 3 reads over the remaining columns.'
--   corrected_nearest   'corrected' leaves a word that differs from the received ring in exactly as many remaining sectors as the
--                       detail says, at most τ, where every other word differs in more
--   corrected_flags     the flags are those of its wrong sectors, with 2 at the lost ones
--   none_far            'none': no word is within τ remaining sectors
--   safe_exactly        at the safe limit of the remaining sectors or below: 'corrected' exactly when some word is so near
--   safe_otherwise      there any ending but 'corrected' and 'refused' means that none is
--   detail_small        the detail is below 256, so that the one number for the C caller tells ending and detail
-- Assumes nothing.
use mathlib.Core.Path.{◌≡◌, refl, sym, ap, ap₂, ◌∙◌}
use mathlib.Core.Logic.Iff
use mathlib.Core.Logic.{◌↔◌}
use mathlib.Core.List.{List}
use Prim.Native.Nat.{ℕ, ◌*◌, ◌≤◌, ◌<◌}
use native.Mathlib.Decide.{dec_le}
use native.Mathlib.Omega.{arith}
use lib.ListN.{get_or}
use Rattle.refusal.specs.Refusal.{Check, first}
use Rattle.refusal.specs.Meaning.{detail_of}
use Rattle.refusal.specs.Numbers.{number}
use Rattle.refusal.specs.declared.Refusal.{Refusal}
use Rattle.refusal.proofs.Ladders.{first_upto}
use Rattle.codes.specs.Code.{IsArray, columns, flags_of, safe_limit}
use Rattle.codes.specs.Lost.{core, wrong_among, flags_lost}
use Rattle.codes.specs.Near.{Nearest, Near, Far}
use Rattle.codes.proofs.Proper.{Proper}
use Rattle.codes.specs.Checks.{space_bytes}
use Rattle.ending.specs.Endings.{Buffers, meaning}
use Rattle.ending.specs.declared.Ending.{Ending}
use Rattle.ending.specs.declared.Ending.TheVariants.{Refused, Corrected, Nothing, Several, Hollow}
use Rattle.joint.specs.Promises as Joint
use Rattle.joint.proofs.Halves as halves
use Rattle.joint.proofs.Halves.{IsRefused, IsCorrected}
use Rattle.joint.proofs.LostDemands.{lost_nearest, lost_far, lost_safe, lost_small}
use Rattle.hermitian.specs.Ring.{ring_code, RingWord, IsRing, ring_of, sector_flags}
use Rattle.sectors.specs.Lost.{DecodesLost}
use Rattle.hermitian.proofs.Numbers.{length-numbers}
use Rattle.hermitian.proofs.Rings.{array_of, is_ring, array_of_ring}
use Rattle.hermitian.proofs.Sectors.{sector_flags_lem, is_code, nearest_word, near_exactly, far_words}
use Rattle.hermitian.proofs.Sizes.{ring_proper, ring_counts}
use Rattle.hermitian.proofs.Passed.{PassedLost}
use Rattle.sectors.proofs.Lost.{checks_lost, carried, passed, on_array, EndsAs, Table}

module _ (L : List ℕ) (q m τ : ℕ) (y : List ℕ) (lent : Buffers) (space : List ℕ) where
  abbrev checks : List Check
  checks = checks_lost L q m τ y lent space

  abbrev Ended : Ending → Buffers → Type 0
  Ended = EndsAs L q m τ y lent space

  -- in how many of the remaining sectors a ring differs from the received one
  abbrev wrong : List ℕ → ℕ
  wrong v = wrong_among (q * q) L (sector_flags q y v)

  pub in_table : first checks ≤ 26
  in_table = first_upto 26 checks refl

  never : (r : Refusal) (b : Buffers) → ¬ Ended (Refused r) b
  never k b h = h.ends

  others : (e : Ending) (b : Buffers) → Ended e b → ((w : ℕ) → ¬ (e ≡ Corrected w)) → b ≡ lent
  others (Refused r) b h n = absurd h.ends
  others (Corrected w) b h n = absurd (n w refl)
  others Nothing b h n = h.back ∙ h.ends.1
  others (Several t) b h n = h.back ∙ h.ends.2
  others (Hollow t) b h n = h.back ∙ h.ends.2

  -- the ring's decoding, not refused, is that of its array
  record Through (e : Ending) (left : Buffers) : Type 0 where
    through : PassedLost q m τ L y lent.array lent.flags space
    proper : Proper (ring_code q m)
    is_array : IsArray (ring_code q m) (array_of q y)
    answer : Buffers
    ends : Table L q m τ y lent space (array_of q y) e answer
    back : left ≡ Joint.on_corrected (ring_of q) e answer

  through_array : {e : Ending} {left : Buffers} → 0 ≡ first checks → Ended e left → Through e left
  through_array none h =
      let p = passed L q m τ y lent space none in
      let (x, ends, back) = carried p.word.ring.size p.word.received (Table L q m τ y lent space) h in
      record {
        through = p;
        proper = ring_proper q m p.word.ring.size p.word.ring.order;
        is_array = on_array L q m τ y lent space none;
        answer = x;
        ends = ends;
        back = back;
      }

  module _ (p : PassedLost q m τ L y lent.array lent.flags space) (v : List ℕ) (ring : IsRing q v) where
    -- the flags of the array's columns are those of the sectors
    flags_are : flags_of (ring_code q m) (array_of q y) (array_of q v) ≡ sector_flags q y v
    flags_are = sector_flags_lem q m p.word.ring.size p.word.received ring

    among : wrong_among (columns (ring_code q m)) L (flags_of (ring_code q m) (array_of q y) (array_of q v)) ≡ wrong v
    among = ap₂ (λ (n : ℕ) (fs : List ℕ). wrong_among n L fs) (length-numbers (q * q)) flags_are

    twos : flags_lost (columns (ring_code q m)) L (flags_of (ring_code q m) (array_of q y) (array_of q v))
        ≡ flags_lost (q * q) L (sector_flags q y v)
    twos = ap₂ (λ (n : ℕ) (fs : List ℕ). flags_lost n L fs) (length-numbers (q * q)) flags_are

  module _ (l : Joint.Left) (h : DecodesLost L q m τ y lent space l) where
    pub refused_exactly : IsRefused l ↔ ¬ (first checks ≡ 0)
    refused_exactly = halves.refused_exactly checks lent space Ended never l h

    pub refused_leaves : (r : Refusal) → l.ending ≡ Refused r
        → (number r ≡ first checks) × (1 ≤ number r) × (l.buffers ≡ lent) × (l.space ≡ space)
    refused_leaves = halves.refused_leaves checks lent space Ended in_table never l h

    pub as_lent : ¬ IsCorrected l → l.buffers ≡ lent
    as_lent = halves.as_lent checks lent space Ended never l h others

    pub space_cleared : ¬ IsRefused l
        → ((i : ℕ) → i < space_bytes → get_or l.space i 0 ≡ 0) × ((i : ℕ) → space_bytes ≤ i → get_or l.space i 0 ≡ get_or space i 0)
    space_cleared = halves.space_cleared checks lent space Ended never l h

    ended_as : (e : Ending) → l.ending ≡ e → ((r : Refusal) → ¬ (e ≡ Refused r)) → Through e l.buffers
    ended_as e i n =
        let (none, ends) = halves.ended_as checks lent space Ended never l h e i n in
        through_array none ends

    corrected : (w : ℕ) → l.ending ≡ Corrected w → Through (Corrected w) l.buffers
    corrected w i = ended_as (Corrected w) i (λ k e. let z : ◌≡◌ {A = ℕ} 0 1 = cc in omega arith)

    pub corrected_nearest : (w : ℕ) → l.ending ≡ Corrected w
        → Nearest (RingWord q m) wrong τ w l.buffers.array
    corrected_nearest w i =
        let t = corrected w i in
        let p = t.through in
        rw t.back (nearest_word q m p.word.ring.size p.word.ring.order _ wrong (among p)
        (lost_nearest t.proper p.remain t.is_array t.ends))

    pub corrected_flags : (w : ℕ) → l.ending ≡ Corrected w → l.buffers.flags ≡ flags_lost (q * q) L (sector_flags q y l.buffers.array)
    corrected_flags w i =
        let t = corrected w i in
        let p = t.through in
        let size = p.word.ring.size in
        let ring = is_code q m size p.word.ring.order (lost_nearest t.proper p.remain t.is_array t.ends).code in
        rw t.back (t.ends.flags ∙ ap (λ (a : List ℕ). flags_lost (columns (ring_code q m)) L (flags_of (ring_code q m) (array_of q y) a))
        (sym (array_of_ring q size ring)) ∙ twos p _ (is_ring q size ring))

    pub none_far : l.ending ≡ Nothing → Far (RingWord q m) wrong τ
    none_far i =
        let t = ended_as Nothing i (λ k e. let z : ◌≡◌ {A = ℕ} 0 1 = cc in omega arith) in
        let p = t.through in
        far_words q m p.word.ring.size p.word.ring.order _ wrong (among p)
        (lost_far t.proper p.remain t.is_array t.ends)

    module _ (safe : τ ≤ safe_limit (core (ring_code q m) L)) (not : ¬ IsRefused l) where
      ended : Through l.ending l.buffers
      ended = ended_as l.ending refl (λ k e. not (k, e))

      pub safe_exactly : IsCorrected l ↔ Near (RingWord q m) wrong τ
      safe_exactly =
          let p = ended.through in
          Iff.trans (lost_safe ended.proper p.remain ended.is_array safe lent l.ending ended.answer ended.ends)
          (near_exactly q m p.word.ring.size p.word.ring.order _ wrong (among p) τ)

      pub safe_otherwise : ¬ IsCorrected l → Far (RingWord q m) wrong τ
      safe_otherwise n v i = go (dec_le (wrong v) τ)
        where
          go : Dec (wrong v ≤ τ) → τ < wrong v
          go (yes k) = absurd (n (safe_exactly.1 (v, i, k)))
          go (no k) = omega arith

    pub detail_small : detail_of (meaning l.ending) < 256
    detail_small = halves.by_number checks lent space Ended in_table never l h
        (λ none d. let t = through_array none d.0 in
        let p = t.through.word.ring in
        lost_small t.proper t.through.remain t.is_array (ring_counts q m p.size p.order) lent l.ending
        t.answer t.ends)
        (λ r e d. let n = ap (λ (x : Joint.Left). detail_of (meaning x.ending)) d in omega (arith, in_table))
