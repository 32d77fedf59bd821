-- Adding a code array to the received one, and raising the trial limit: of the promise itself, and so of every call that keeps it.
--
--   moves               a decoding's promise carried to another one, refusals staying as they are
--   only_shifts         what a promise says of sums that the shifted outcome keeps, and no other one does; of such a promise:
--   alone               'Our trainers demonstrate on the zero mark': what is left of an error alone says what is left on any code array
--   same_difference     what is left depends on the received array only through its difference from a code array
--   lost_shift, lost_raise    a code array is added, or the limit raised: how the table with lost columns follows
--   adding, adding_lost both decodings of a sum with a code array: ending, detail, flags and working space stay, the answer is shifted
--   error_alone, error_alone_lost, only_difference, only_difference_lost    these two consequences of both decodings
--   raising, raising_lost    up to the joint limit only 'none' can change; within_joint, a decoding that is not refused is up to it
-- Assumes nothing.
use mathlib.Core.Path.{◌≡◌, refl, sym, ap, ◌∙◌, subst}
use mathlib.Core.List.{List, []}
use Prim.Native.Nat.{ℕ, suc, ◌≤◌}
use native.Mathlib.Omega.{arith}
use borrow.Author.Tests.{le-ltb}
use Rattle.refusal.specs.Refusal.{Check, first}
use Rattle.refusal.specs.Numbers.{named}
use Rattle.refusal.proofs.Keeping as keeping
use Rattle.field.specs.Arithmetic.{gf}
use Rattle.poly.specs.Poly.{add}
use Rattle.codes.specs.Code.{Code, columns, largest, joint_limit, IsMessage, IsArray, encoded}
use Rattle.codes.specs.Lost.{lost_flags, core, core_of, twos_at}
use Rattle.codes.specs.Factors.{Description, multiplied, divided, CodeArrayBy}
use Rattle.codes.specs.Checks.{remaining_checks}
use Rattle.codes.specs.Added.{Added}
use Rattle.codes.proofs.Proper.{Proper}
use Rattle.codes.proofs.Messages.{encoded_array}
use Rattle.codes.proofs.Factors.{Factors, is_divided}
use Rattle.codes.proofs.Sums.{multiplied-add, added-divided, added-checks}
use Rattle.codes.proofs.Lost.{core_proper, core_array, core_message, core_none, encoded-core, lost_passed}
use Rattle.ending.specs.Endings.{Buffers}
use Rattle.ending.specs.declared.Ending.{Ending}
use Rattle.ending.specs.declared.Ending.TheVariants.{Refused, Corrected, Nothing, Several, Hollow}
use Rattle.ending.proofs.Shifted.{encoded-add, core-add, flags_shift, corrects_shift, others_shift, corrects_raise, ends_raise}
use Rattle.joint.specs.Promises.{given, Left, left, cleared, Decoding, on_corrected, Struck, Decodes}
use Rattle.joint.specs.Lost.{LostEnds, checks_lost, DecodesLost}
use Rattle.joint.specs.Shifted.{shifted_by, Shifts, Raises}
use Rattle.joint.proofs.Halves as halves
use Rattle.joint.proofs.Halves.{IsRefused}
use Rattle.joint.proofs.Struck.{struck_never}
use Rattle.joint.proofs.Unique.{unique}
use Rattle.joint.proofs.Lost.{corrected_array}
use Rattle.joint.proofs.LostDemands as lost
use Rattle.joint.proofs.LostDemands.{nothing_lost}

-- ---- of every decoding

module _ (cs ds : List Check) (lent : Buffers) (space : List ℕ) (E F : Ending → Buffers → Type 0) where
  abbrev refused : ℕ → Left
  refused k = left (Refused (named k)) lent space

  abbrev Done : (Ending → Buffers → Type 0) → Left → Type 0
  Done T l = T l.ending l.buffers × (l.space ≡ cleared space)

  pub moves : first cs ≡ first ds → (r : Left → Left) → ((k : ℕ) → r (refused k) ≡ refused k) → (l : Left)
      → (0 ≡ first cs → Done E l → Done F (r l)) → Decoding cs lent space E l → Decoding ds lent space F (r l)
  moves same r fixed l on h = keeping.told cs refused (Done E) l h
      (λ none k. keeping.does ds refused (Done F) (r l) (none ∙ same) (on none k))
      (λ k e is. subst (Decoding ds lent space F) (sym (ap r is ∙ fixed (suc k)))
      (keeping.refuses ds refused (Done F) (e ∙ same) (λ z. omega arith)))

-- an answer is made by f: what g makes of it, f makes of what h makes
pub made_first : (f g h : List ℕ → List ℕ) (e : Ending) (b : Buffers) → ((w : ℕ) → e ≡ Corrected w → g (f b.array) ≡ f (h b.array))
    → on_corrected g e (on_corrected f e b) ≡ on_corrected f e (on_corrected h e b)
made_first f g h (Refused r) b same = refl
made_first f g h (Corrected w) b same = λ j. record { array = same w refl j; flags = b.flags }
made_first f g h Nothing b same = refl
made_first f g h (Several t) b same = refl
made_first f g h (Hollow t) b same = refl

module _ (IsCode : List ℕ → Type 0) (d : ℕ) (Q : List ℕ → Left → Type 0) (one : (y : List ℕ) (l l' : Left) → Q y l → Q y l' → l ≡ l')
    (keeps : (y a z : List ℕ) → Added IsCode d y a z → (l : Left) → Q y l → Q z (shifted_by d a l)) where
  pub only_shifts : Shifts IsCode d Q
  only_shifts y a z h l l' q q' = one z l' _ q' (keeps y a z h l q)

  -- two received arrays with the same difference z from a code array
  pub same_difference : {y a y' a' z : List ℕ} → Added IsCode d y a z → Added IsCode d y' a' z → (l l' : Left) → Q y l → Q y' l'
      → shifted_by d a l ≡ shifted_by d a' l'
  same_difference {y} {a} {y'} {a'} {z} h h' l l' q q' = one z _ _ (keeps y a z h l q) (keeps y' a' z h' l' q')

pub alone : {IsCode : List ℕ → Type 0} {d : ℕ} {Q : List ℕ → Left → Type 0} → Shifts IsCode d Q
    → {y a z : List ℕ} → Added IsCode d y a z → (l l' : Left) → Q y l → Q z l'
    → (l'.ending ≡ l.ending) × (l'.buffers.flags ≡ l.buffers.flags)
    × ((w : ℕ) → l.ending ≡ Corrected w → l'.buffers.array ≡ add (gf d) l.buffers.array a)
alone {d = d} shifts {y} {a} {z} h l l' q q' =
    let is = shifts y a z h l l' q q' in
    let sum : List ℕ → List ℕ = λ b. add (gf d) b a in (
      ap (λ (r : Left). r.ending) is,
      ap (λ (r : Left). r.buffers.flags) is,
      λ w e. ap (λ (r : Left). r.buffers.array) is ∙ ap (λ (e : Ending). (on_corrected sum e l.buffers).array) e,
    )

-- ---- of the table with lost columns

module _ {c : Code} (p : Proper c) (L : List ℕ) (enough : largest c.lengths ≤ columns (core c L)) {m : List ℕ} (h : IsMessage c m)
    {y : List ℕ} (i : IsArray c y) (τ : ℕ) (lent : Buffers) where
  abbrev sum : List ℕ → List ℕ
  sum x = add (gf c.degree) x (encoded c m)

  core-sum : core_of c L (sum y) ≡ add (gf c.degree) (core_of c L y) (encoded (core c L) m)
  core-sum = core-add p L y (encoded c m) (i.count ∙ sym (encoded_array p h).count)
      ∙ ap (add (gf c.degree) (core_of c L y)) (sym (encoded-core c L p m))

  pub lost_shift : (e : Ending) (b : Buffers) → LostEnds c L y τ lent e b → LostEnds c L (sum y) τ lent e (on_corrected sum e b)
  lost_shift (Refused r) b d = d
  lost_shift (Corrected w) b d =
      let (k, is) = corrects_shift (core_proper c L p enough) (core_message c L p h) (core_array c L i) core-sum d.corrects in
      record {
        found = record { array = add (gf c.degree) d.found.array (encoded (core c L) m); flags = d.found.flags };
        corrects = k;
        array = ap sum d.array ∙ sym (encoded-add p d.corrects.m m) ∙ ap (encoded c) (sym is);
        flags = d.flags ∙ ap (twos_at (lost_flags (columns c) L)) (sym (flags_shift p y b.array (encoded c m)));
      }
  lost_shift Nothing b d = rw core-sum
      (others_shift (core_proper c L p enough) (core_message c L p h) (core_array c L i) τ lent Nothing b (λ e. omega arith) d)
  lost_shift (Several t) b d = rw core-sum
      (others_shift (core_proper c L p enough) (core_message c L p h) (core_array c L i) τ lent (Several t) b (λ e. omega arith) d)
  lost_shift (Hollow t) b d = rw core-sum
      (others_shift (core_proper c L p enough) (core_message c L p h) (core_array c L i) τ lent (Hollow t) b (λ e. omega arith) d)

pub lost_raise : (c : Code) (L y : List ℕ) (τ τ' : ℕ) (lent : Buffers) (e : Ending) (b : Buffers) → τ ≤ τ' → ¬ (e ≡ Nothing)
    → LostEnds c L y τ lent e b → LostEnds c L y τ' lent e b
lost_raise c L y τ τ' lent (Refused r) b up n d = d
lost_raise c L y τ τ' lent (Corrected w) b up n d = let (k, is) = corrects_raise up d.corrects in record {
  found = d.found;
  corrects = k;
  array = d.array ∙ ap (encoded c) (sym is);
  flags = d.flags;
}
lost_raise c L y τ τ' lent Nothing b up n d = absurd (n refl)
lost_raise c L y τ τ' lent (Several t) b up n d = ends_raise (core c L) (core_of c L y) τ τ' lent (Several t) b up n d
lost_raise c L y τ τ' lent (Hollow t) b up n d = ends_raise (core c L) (core_of c L y) τ τ' lent (Hollow t) b up n d

-- 16, 17 and 8 with another limit up to the joint limit
pub same_remaining : (c : Code) (L : List ℕ) (τ τ' : ℕ) → τ ≤ τ' → τ' ≤ joint_limit (core c L)
    → remaining_checks c τ L ≡ remaining_checks c τ' L
same_remaining c L τ τ' up within = rw (le-ltb (joint_limit (core c L)) τ (omega arith), le-ltb (joint_limit (core c L)) τ' within)

-- ---- with factors

module _ (D : Description) (p : Proper D.code) (f : Factors D) (L : List ℕ)
    (enough : largest D.code.lengths ≤ columns (core D.code L)) {y a z : List ℕ} (i : IsArray D.code y)
    (h : Added (CodeArrayBy D) D.code.degree y a z) (τ : ℕ) (lent : Buffers) where
  open D use {code}
  open code use {degree}

  abbrev by : List ℕ → List ℕ → List ℕ
  by a x = add (gf degree) x a

  abbrev m : List ℕ
  m = h.code.0

  abbrev Table : List ℕ → Ending → Buffers → Type 0
  Table v = LostEnds code L v τ lent

  same_made : (b : Buffers) (w : ℕ) → Table (divided D y) (Corrected w) b
      → by a (multiplied D b.array) ≡ multiplied D (by (encoded code m) b.array)
  same_made b w d = ap (add (gf degree) (multiplied D b.array)) (sym h.code.2)
      ∙ sym (multiplied-add D p f (corrected_array code L p d) (encoded_array p h.code.1))

  struck_shift : (e : Ending) (b : Buffers) → Struck D y Table e b → Struck D z Table e (on_corrected (by a) e b)
  struck_shift e b s = record {
    answer = on_corrected (by (encoded code m)) e s.answer;
    ends = rw (added-divided D p f i h) (lost_shift p L enough h.code.1 (is_divided D p f i) τ lent e s.answer s.ends);
    back = ap (on_corrected (by a) e) s.back ∙ made_first (multiplied D) (by a) (by (encoded code m)) e s.answer
        (λ w is. same_made s.answer w (subst (λ (e : Ending). Table (divided D y) e s.answer) is s.ends));
  }

-- ---- of the promise

module _ (L : List ℕ) (D : Description) (lent : Buffers) (space : List ℕ) where
  abbrev c : Code
  c = D.code

  abbrev EndsAs : ℕ → List ℕ → Ending → Buffers → Type 0
  EndsAs τ y = Struck D y (λ v. LostEnds c L v τ lent)

  abbrev Promise : ℕ → List ℕ → Left → Type 0
  Promise τ y = DecodesLost L (given D τ y lent space)

  abbrev checks : ℕ → List ℕ → List Check
  checks τ y = checks_lost L (given D τ y lent space)

  keeps_lost : (τ : ℕ) (y a z : List ℕ) → Added (CodeArrayBy D) c.degree y a z → (l : Left) → Promise τ y l
      → Promise τ z (shifted_by c.degree a l)
  keeps_lost τ y a z h l =
      moves (checks τ y) (checks τ z) lent space (EndsAs τ y) (EndsAs τ z)
      (sym (added-checks D h lent.array lent.flags space (remaining_checks c τ L)))
      (shifted_by c.degree a) (λ k. refl) l
      (λ none k.
      let (q, f) = lost_passed D τ L y lent.array lent.flags space none in
      (struck_shift D q.array.proper f L q.remain.enough q.array.received h τ lent l.ending l.buffers k.0, k.1))

  pub adding_lost : (τ : ℕ) → Shifts (CodeArrayBy D) c.degree (λ y. DecodesLost L (given D τ y lent space))
  adding_lost τ = only_shifts (CodeArrayBy D) c.degree (Promise τ) (λ y. lost.unique L (given D τ y lent space)) (keeps_lost τ)

  pub error_alone_lost : (τ : ℕ) {y a z : List ℕ} → Added (CodeArrayBy D) c.degree y a z → (l l' : Left)
      → DecodesLost L (given D τ y lent space) l → DecodesLost L (given D τ z lent space) l'
      → (l'.ending ≡ l.ending) × (l'.buffers.flags ≡ l.buffers.flags)
      × ((w : ℕ) → l.ending ≡ Corrected w → l'.buffers.array ≡ add (gf c.degree) l.buffers.array a)
  error_alone_lost τ = alone {Q = Promise τ} (adding_lost τ)

  pub only_difference_lost : (τ : ℕ) {y a y' a' z : List ℕ} → Added (CodeArrayBy D) c.degree y a z
      → Added (CodeArrayBy D) c.degree y' a' z → (l l' : Left)
      → DecodesLost L (given D τ y lent space) l → DecodesLost L (given D τ y' lent space) l'
      → shifted_by c.degree a l ≡ shifted_by c.degree a' l'
  only_difference_lost τ =
      same_difference (CodeArrayBy D) c.degree (Promise τ) (λ y. lost.unique L (given D τ y lent space)) (keeps_lost τ)

  pub raising_lost : (y : List ℕ) → Raises (joint_limit (core c L)) (λ τ. DecodesLost L (given D τ y lent space))
  raising_lost y τ τ' up within l l' h h' some = lost.unique L (given D τ' y lent space) l l'
      (moves (checks τ y) (checks τ' y) lent space (EndsAs τ y) (EndsAs τ' y)
      (rw (same_remaining c L τ τ' up within) refl) (λ l. l) (λ k. refl) l
      (λ none (s, cleared). (
        record {
          answer = s.answer;
          ends = lost_raise c L (divided D y) τ τ' lent l.ending s.answer up some s.ends;
          back = s.back;
        },
        cleared,
      )) h) h'

  -- 'within the joint limit': as every call that is not refused
  pub within_joint : (τ : ℕ) (y : List ℕ) (l : Left) → DecodesLost L (given D τ y lent space) l → ¬ IsRefused l
      → τ ≤ joint_limit (core c L)
  within_joint τ y l h not =
      let never = struck_never D y (λ v. LostEnds c L v τ lent) (λ k b d. d) in
      let none = (halves.ended_as (checks τ y) lent space (EndsAs τ y) never l h l.ending refl (λ k e. not (k, e))).0 in
      (lost_passed D τ L y lent.array lent.flags space none).0.remain.limit

-- nothing is lost
module _ (D : Description) (lent : Buffers) (space : List ℕ) where
  keeps_all : (τ : ℕ) (y a z : List ℕ) → Added (CodeArrayBy D) D.code.degree y a z → (l : Left) → Decodes (given D τ y lent space) l
      → Decodes (given D τ z lent space) (shifted_by D.code.degree a l)
  keeps_all τ y a z h l q = (nothing_lost (given D τ z lent space) _).0
      (keeps_lost [] D lent space τ y a z h l ((nothing_lost (given D τ y lent space) l).1 q))

  pub adding : (τ : ℕ) → Shifts (CodeArrayBy D) D.code.degree (λ y. Decodes (given D τ y lent space))
  adding τ = only_shifts (CodeArrayBy D) D.code.degree (λ y. Decodes (given D τ y lent space)) (λ y. unique (given D τ y lent space))
      (keeps_all τ)

  pub error_alone : (τ : ℕ) {y a z : List ℕ} → Added (CodeArrayBy D) D.code.degree y a z → (l l' : Left)
      → Decodes (given D τ y lent space) l → Decodes (given D τ z lent space) l'
      → (l'.ending ≡ l.ending) × (l'.buffers.flags ≡ l.buffers.flags)
      × ((w : ℕ) → l.ending ≡ Corrected w → l'.buffers.array ≡ add (gf D.code.degree) l.buffers.array a)
  error_alone τ = alone {Q = λ y. Decodes (given D τ y lent space)} (adding τ)

  pub only_difference : (τ : ℕ) {y a y' a' z : List ℕ} → Added (CodeArrayBy D) D.code.degree y a z
      → Added (CodeArrayBy D) D.code.degree y' a' z → (l l' : Left)
      → Decodes (given D τ y lent space) l → Decodes (given D τ y' lent space) l'
      → shifted_by D.code.degree a l ≡ shifted_by D.code.degree a' l'
  only_difference τ = same_difference (CodeArrayBy D) D.code.degree (λ y. Decodes (given D τ y lent space))
      (λ y. unique (given D τ y lent space)) (keeps_all τ)

  pub raising : (y : List ℕ) → Raises (joint_limit D.code) (λ τ. Decodes (given D τ y lent space))
  raising y τ τ' up within l l' h h' = raising_lost [] D lent space y τ τ' up
      (subst (λ (c : Code). τ' ≤ joint_limit c) (sym (core_none D.code)) within) l l'
      ((nothing_lost (given D τ y lent space) l).1 h) ((nothing_lost (given D τ' y lent space) l').1 h')
