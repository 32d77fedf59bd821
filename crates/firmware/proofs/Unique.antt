-- No two outcomes satisfy the promise of a C function: the number and what stands in the buffers afterwards are fixed by what the
-- call is given.
--
--   returns-unique    where no two ends of the call keep its promise, neither do two numbers
--   mark_encode, mark_read, mark_decode, ring_encode, ring_read, ring_decode, mark_decode_lost, ring_decode_lost, ring_decode_pits,
--   mark_decode_powers, mark_list, tray_decode    so of each function
-- Assumes nothing.
use mathlib.Core.Path.{◌≡◌, sym, ap, ◌∙◌}
use mathlib.Core.List.{List}
use Prim.Native.Nat.{ℕ}
use Rattle.refusal.specs.Meaning.{Meaning, packed}
use Rattle.codes.specs.Factors.{Description}
use Rattle.mark.specs.Promises.{Outcome, meaning, left, Left, Encodes, Reads}
use Rattle.mark.proofs.Promised.{meaning_faithful}
use Rattle.mark.proofs.Demand2.{encodes_unique, reads_unique}
use Rattle.ending.specs.Endings.{meaning as endingMeaning, Buffers}
use Rattle.ending.specs.declared.Ending.{Ending}
use Rattle.joint.specs.Promises as joint
use Rattle.joint.proofs.Unique as joint-unique
use Rattle.joint.specs.Lost as joint-lost
use Rattle.joint.proofs.LostDemands as joint-losing
use Rattle.powers.specs.Promises as powered
use Rattle.powers.proofs.Unique as powers-unique
use Rattle.listing.specs.Promises as listed
use Rattle.listing.proofs.Unique as listing-unique
use Rattle.tray.specs.Promises.{GivenTray, LeftTray, left_tray, DecodesTray}
use Rattle.tray.proofs.Unique as tray-unique
use Rattle.ring.specs.Promises as rings
use Rattle.ring.proofs.Unique as ring_unique
use Rattle.sectors.specs.Promises as sectors
use Rattle.sectors.specs.Lost as sectors-lost
use Rattle.sectors.proofs.Lost as sectors-unique
use Rattle.scattered.specs.Promises as scattered
use Rattle.scattered.proofs.Ended as scattered-unique
use Rattle.firmware.specs.Returns.{Returns}

module _ {E B : Type 0} (means : E → Meaning) (Keeps : E → B → Type 0)
    (unique : (e e' : E) (b b' : B) → Keeps e b → Keeps e' b' → (e ≡ e') × (b ≡ b')) where
  pub returns-unique : {r r' : ℕ} {b b' : B} → Returns means (λ (e : E). Keeps e b) r → Returns means (λ (e : E). Keeps e b') r'
      → (r ≡ r') × (b ≡ b')
  returns-unique {r} {r'} {b} {b'} (e, is, h) (e', is', h') =
      let same = unique e e' b b' h h' in (is ∙ ap (λ (e : E). packed (means e)) same.0 ∙ sym is', same.1)

-- the outcome and the result buffer of an encoding or a reading
parts : {o o' : Outcome} {b b' : List ℕ} → left o b ≡ left o' b' → (o ≡ o') × (b ≡ b')
parts {o} {o'} e = (meaning_faithful o o' (ap (λ (x : Left). x.outcome) e), ap (λ (x : Left). x.buffer) e)

pub mark_encode : (D : Description) (m lent : List ℕ) {r r' : ℕ} {b b' : List ℕ}
    → Returns meaning (λ (o : Outcome). Encodes D m lent (left o b)) r
    → Returns meaning (λ (o : Outcome). Encodes D m lent (left o b')) r' → (r ≡ r') × (b ≡ b')
mark_encode D m lent =
    returns-unique meaning (λ (o : Outcome) (b : List ℕ). Encodes D m lent (left o b))
    (λ o o' b b' h h'. parts (encodes_unique D m lent (left o b) (left o' b') h h'))

pub mark_read : (D : Description) (a lent : List ℕ) {r r' : ℕ} {b b' : List ℕ}
    → Returns meaning (λ (o : Outcome). Reads D a lent (left o b)) r
    → Returns meaning (λ (o : Outcome). Reads D a lent (left o b')) r' → (r ≡ r') × (b ≡ b')
mark_read D a lent =
    returns-unique meaning (λ (o : Outcome) (b : List ℕ). Reads D a lent (left o b))
    (λ o o' b b' h h'. parts (reads_unique D a lent (left o b) (left o' b') h h'))

-- what a decoding leaves in the buffers lent to it
abbrev pub Kept : Type 0
Kept = Buffers × List ℕ

abbrev pub ended : Ending → Kept → joint.Left
ended e b = joint.left e b.0 b.1

ended_parts : {e e' : Ending} {b b' : Kept} → ended e b ≡ ended e' b' → (e ≡ e') × (b ≡ b')
ended_parts p = (ap (λ (x : joint.Left). x.ending) p, ap (λ (x : joint.Left). (x.buffers, x.space)) p)

pub mark_decode : (g : joint.Given) {r r' : ℕ} {b b' : Kept} → Returns endingMeaning (λ (e : Ending). joint.Decodes g (ended e b)) r
    → Returns endingMeaning (λ (e : Ending). joint.Decodes g (ended e b')) r' → (r ≡ r') × (b ≡ b')
mark_decode g =
    returns-unique endingMeaning (λ (e : Ending) (b : Kept). joint.Decodes g (ended e b))
    (λ e e' b b' h h'. ended_parts (joint-unique.unique g (ended e b) (ended e' b') h h'))

pub mark_list : (D : Description) (τ : ℕ) (y lent : List ℕ) {r r' : ℕ} {b b' : List ℕ}
    → Returns listed.meaning (λ (a : listed.Answer). listed.Lists D τ y lent (listed.left a b)) r
    → Returns listed.meaning (λ (a : listed.Answer). listed.Lists D τ y lent (listed.left a b')) r' → (r ≡ r') × (b ≡ b')
mark_list D τ y lent =
    returns-unique listed.meaning (λ (a : listed.Answer) (b : List ℕ). listed.Lists D τ y lent (listed.left a b))
    (λ a a' b b' h h'. let same = listing-unique.unique D τ y lent (listed.left a b) (listed.left a' b') h h' in (
      listing-unique.meaning_faithful a a' (ap (λ (x : listed.Left). x.answer) same),
      ap (λ (x : listed.Left). x.room) same,
    ))

pub ring_encode : (q m : ℕ) (f lent : List ℕ) {r r' : ℕ} {b b' : List ℕ}
    → Returns meaning (λ (o : Outcome). rings.Encodes q m f lent (left o b)) r
    → Returns meaning (λ (o : Outcome). rings.Encodes q m f lent (left o b')) r' → (r ≡ r') × (b ≡ b')
ring_encode q m f lent =
    returns-unique meaning (λ (o : Outcome) (b : List ℕ). rings.Encodes q m f lent (left o b))
    (λ o o' b b' h h'. parts (ring_unique.encodes_unique q m f lent (left o b) (left o' b') h h'))

pub ring_read : (q m : ℕ) (w lent : List ℕ) {r r' : ℕ} {b b' : List ℕ}
    → Returns meaning (λ (o : Outcome). rings.Reads q m w lent (left o b)) r
    → Returns meaning (λ (o : Outcome). rings.Reads q m w lent (left o b')) r' → (r ≡ r') × (b ≡ b')
ring_read q m w lent =
    returns-unique meaning (λ (o : Outcome) (b : List ℕ). rings.Reads q m w lent (left o b))
    (λ o o' b b' h h'. parts (ring_unique.reads_unique q m w lent (left o b) (left o' b') h h'))

pub ring_decode : (q m τ : ℕ) (y : List ℕ) (lent : Buffers) (space : List ℕ) {r r' : ℕ} {b b' : Kept}
    → Returns endingMeaning (λ (e : Ending). sectors.Decodes q m τ y lent space (ended e b)) r
    → Returns endingMeaning (λ (e : Ending). sectors.Decodes q m τ y lent space (ended e b')) r' → (r ≡ r') × (b ≡ b')
ring_decode q m τ y lent space =
    returns-unique endingMeaning (λ (e : Ending) (b : Kept). sectors.Decodes q m τ y lent space (ended e b))
    (λ e e' b b' h h'. ended_parts (sectors-unique.decodes_unique q m τ y lent space (ended e b) (ended e' b') h h'))

pub mark_decode_lost : (L : List ℕ) (g : joint.Given) {r r' : ℕ} {b b' : Kept}
    → Returns endingMeaning (λ (e : Ending). joint-lost.DecodesLost L g (ended e b)) r
    → Returns endingMeaning (λ (e : Ending). joint-lost.DecodesLost L g (ended e b')) r' → (r ≡ r') × (b ≡ b')
mark_decode_lost L g =
    returns-unique endingMeaning (λ (e : Ending) (b : Kept). joint-lost.DecodesLost L g (ended e b))
    (λ e e' b b' h h'. ended_parts (joint-losing.unique L g (ended e b) (ended e' b') h h'))

pub ring_decode_lost : (L : List ℕ) (q m τ : ℕ) (y : List ℕ) (lent : Buffers) (space : List ℕ) {r r' : ℕ} {b b' : Kept}
    → Returns endingMeaning (λ (e : Ending). sectors-lost.DecodesLost L q m τ y lent space (ended e b)) r
    → Returns endingMeaning (λ (e : Ending). sectors-lost.DecodesLost L q m τ y lent space (ended e b')) r' → (r ≡ r') × (b ≡ b')
ring_decode_lost L q m τ y lent space =
    returns-unique endingMeaning (λ (e : Ending) (b : Kept). sectors-lost.DecodesLost L q m τ y lent space (ended e b))
    (λ e e' b b' h h'. ended_parts (sectors-unique.unique L q m τ y lent space (ended e b) (ended e' b') h h'))

pub mark_decode_powers : (d k s : ℕ) (xs fs : List ℕ) (τ : ℕ) (y : List ℕ) (lent : Buffers) (space : List ℕ) {r r' : ℕ} {b b' : Kept}
    → Returns endingMeaning (λ (e : Ending). powered.Decodes d k s xs fs τ y lent space (ended e b)) r
    → Returns endingMeaning (λ (e : Ending). powered.Decodes d k s xs fs τ y lent space (ended e b')) r' → (r ≡ r') × (b ≡ b')
mark_decode_powers d k s xs fs τ y lent space =
    returns-unique endingMeaning (λ (e : Ending) (b : Kept). powered.Decodes d k s xs fs τ y lent space (ended e b))
    (λ e e' b b' h h'. ended_parts (powers-unique.unique d k s xs fs τ y lent space (ended e b) (ended e' b') h h'))

-- what a tray's decoding leaves in the slices lent to it
abbrev pub KeptTray : Type 0
KeptTray = List ℕ × Buffers × List ℕ

abbrev pub ended_tray : Outcome → KeptTray → LeftTray ℕ
ended_tray o b = left_tray o b.0 b.1 b.2

abbrev pub number : Ending → ℕ
number e = packed (endingMeaning e)

pub tray_decode : (g : GivenTray ℕ) {r r' : ℕ} {b b' : KeptTray} → Returns meaning (λ (o : Outcome). DecodesTray number g (ended_tray o b)) r
    → Returns meaning (λ (o : Outcome). DecodesTray number g (ended_tray o b')) r' → (r ≡ r') × (b ≡ b')
tray_decode g =
    returns-unique meaning (λ (o : Outcome) (b : KeptTray). DecodesTray number g (ended_tray o b))
    (λ o o' b b' h h'.
    let same = tray-unique.unique number g (ended_tray o b) (ended_tray o' b') h h' in
    (meaning_faithful o o' (ap (λ (x : LeftTray ℕ). x.outcome) same), ap (λ (x : LeftTray ℕ). (x.answers, x.buffers, x.space)) same))

pub ring_decode_pits : (q m τ : ℕ) (y : List ℕ) (lent : Buffers) (space : List ℕ) {r r' : ℕ} {b b' : Kept}
    → Returns endingMeaning (λ (e : Ending). scattered.Decodes q m τ y lent space (ended e b)) r
    → Returns endingMeaning (λ (e : Ending). scattered.Decodes q m τ y lent space (ended e b')) r' → (r ≡ r') × (b ≡ b')
ring_decode_pits q m τ y lent space =
    returns-unique endingMeaning (λ (e : Ending) (b : Kept). scattered.Decodes q m τ y lent space (ended e b))
    (λ e e' b b' h h'. ended_parts (scattered-unique.unique q m τ y lent space (ended e b) (ended e' b') h h'))
