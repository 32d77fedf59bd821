-- What the user asks of a decoding with lost columns, as theorems about its promise: g is what it is given, L the lost columns,
-- and l what it leaves. Code arrays are those that are struck.
--
--   lost_nearest, lost_far, lost_safe, lost_small    of the table of endings: what the endings mean for code arrays
--   unique              no two distinct outcomes satisfy it
--   nothing_lost        with nothing lost it is the promise of decoding
--   no_influence        received arrays that agree in the remaining columns have the same outcome
--
-- 'Nothing by halves.'
--   refused_exactly, refused_leaves, as_lent, space_cleared    as for decoding; the numbers are 1 to 8, 16, 17, 18 and 23
--
-- What the endings mean for code arrays: 'Demand 3 reads over the remaining columns.'
--   corrected_nearest   'corrected' leaves a code array that differs from the received one in exactly as many remaining columns
--                       as the detail says, at most τ, where every other code array differs in more
--   corrected_flags     the flags are 2 at the lost columns, and 1 or 0 at the others
--   corrected_fixed     the remaining columns fix the answer
--   none_far            'none': no code array is within τ remaining columns
--   safe_exactly        at the safe limit of the remaining columns or below: 'corrected' exactly when some code array is so near
--   safe_otherwise      there any ending but 'corrected' and 'refused' means that none is
--   detail_small        the detail is below 256, so that the one number for the C caller tells ending and detail
-- Assumes nothing.
use mathlib.Core.Path.{◌≡◌, refl, sym, ap, ◌∙◌, subst}
use mathlib.Core.Logic.Iff
use mathlib.Core.Logic.{◌↔◌}
use mathlib.Core.Bool.{true, false}
use mathlib.Core.List.{List, []}
use Prim.Native.Nat.{ℕ, ◌*◌, ◌≤◌, ◌<◌}
use native.Mathlib.Decide.{dec_le}
use native.Mathlib.Omega.{arith}
use lib.ListN.{length, get_or}
use Rattle.refusal.specs.Refusal.{first, is_in, some_outside_field}
use Rattle.refusal.specs.Meaning.{detail_of}
use Rattle.refusal.specs.Numbers.{number}
use Rattle.refusal.specs.declared.Refusal.{Refusal}
use Rattle.refusal.proofs.Ladders.{first_upto}
use Rattle.field.specs.Symbols.{over}
use Rattle.codes.specs.Code.{Code, IsArray, columns, rows, CodeArray, flag, flags_of, wrong_count, differs_at, safe_limit, joint_limit}
use Rattle.codes.specs.Factors.{Description, with_factors, multiplied, divided, CodeArrayBy}
use Rattle.codes.specs.Lost.{lost_flags, right, right_rows, core, core_of, twos_at, wrong_among, flags_lost}
use Rattle.codes.specs.Near.{Nearest, Near, Far}
use Rattle.codes.specs.Checks.{space_bytes}
use Rattle.codes.proofs.Proper.{Proper}
use Rattle.codes.proofs.Limits.{joint_less}
use Rattle.codes.proofs.Flags.{flags-length, flag_here}
use Rattle.codes.proofs.Messages.{code_array}
use Rattle.codes.proofs.Passed.{Counts}
use Rattle.codes.proofs.Factors.{Factors, is_divided, flags_struck, near_struck, near_exactly, far_struck, struck_array, code_divided}
use Rattle.codes.proofs.Factors.{multiplied-divided}
use Rattle.codes.proofs.Lost.{Remains, lost_length, core_proper, core_counts, core_array, encoded-core, code_core, full_code, core_code}
use Rattle.codes.proofs.Lost.{full_message, PassedLost, lost_passed, none_remaining, core_with}
use Rattle.ending.specs.Endings.{Buffers, meaning, Ends}
use Rattle.ending.specs.declared.Ending.{Ending}
use Rattle.ending.specs.declared.Ending.TheVariants.{Refused, Corrected, Nothing, Several, Hollow}
use Rattle.ending.proofs.Demands as endings
use Rattle.joint.specs.Promises.{Given, given, Left, Struck, Decodes, checks_of}
use Rattle.joint.specs.Lost.{LostCorrects, LostEnds, checks_lost, DecodesLost}
use Rattle.joint.proofs.Promised as promised
use Rattle.joint.proofs.Halves as halves
use Rattle.joint.proofs.Halves.{IsRefused, IsCorrected}
use Rattle.joint.proofs.Struck.{struck_never, struck_others, struck_unique, struck_on}
use Rattle.joint.proofs.Lost.{found_ends, ends_unique, same_rest, none_ends, wrong_rest, twos_left, twos_lost}

-- ---- of the table of endings, without factors

module _ {c : Code} {L : List ℕ} (p : Proper c) {τ : ℕ} (r : Remains c τ L) {y : List ℕ} (received : IsArray c y) where
  abbrev rest : Code
  rest = core c L

  proper : Proper rest
  proper = core_proper c L p r.enough

  left_array : IsArray rest (core_of c L y)
  left_array = core_array c L received

  abbrev wrong : List ℕ → ℕ
  wrong a = wrong_among (columns c) L (flags_of c y a)

  -- how far a code array is, over the remaining columns
  among : {a : List ℕ} → CodeArray c a → wrong_count rest (core_of c L y) (core_of c L a) ≡ wrong a
  among i = wrong_rest c L received (code_array p i)

  pub lost_nearest : {w : ℕ} {left : Buffers} → LostCorrects c L y τ w left → Nearest (CodeArray c) wrong τ w left.array
  lost_nearest {w} {left} d =
      let near = endings.corrected_means proper left_array τ r.limit w left d.found d.corrects in
      let code : CodeArray c left.array = (d.corrects.m, full_message c L p d.corrects.message, sym d.array) in
      let found : core_of c L left.array ≡ d.found.array =
      ap (core_of c L) d.array ∙ sym (encoded-core c L p d.corrects.m) ∙ sym d.corrects.array in
      record {
        code = code;
        wrong = sym (among code) ∙ ap (wrong_count rest (core_of c L y)) found ∙ near.wrong;
        within = near.within;
        others = λ b i apart. subst (λ (n : ℕ). w < n) (among i) (near.others (core_of c L b) (code_core c L p i)
            (λ s. apart (core_code c L p r.enough i code (s ∙ sym found))));
      }

  pub lost_far : {lent left : Buffers} → LostEnds c L y τ lent Nothing left → Far (CodeArray c) wrong τ
  lost_far {lent} {left} d a i = subst (λ (n : ℕ). τ < n) (among i)
      (endings.none_means proper left_array τ lent left d (core_of c L a) (code_core c L p i))

  -- near, over the remaining columns
  near_rest : Near (CodeArray rest) (wrong_count rest (core_of c L y)) τ ↔ Near (CodeArray c) wrong τ
  near_rest = (
    λ (a, i, n).
        let (b, j, e) = full_code c L p i in
        (b, j, subst (λ (m : ℕ). m ≤ τ) (ap (wrong_count rest (core_of c L y)) (sym e) ∙ among j) n),
    λ (a, i, n). (core_of c L a, code_core c L p i, subst (λ (m : ℕ). m ≤ τ) (sym (among i)) n),
  )

  pub lost_safe : τ ≤ safe_limit rest → (lent : Buffers) (e : Ending) (b : Buffers) → LostEnds c L y τ lent e b
      → ((w : ℕ) × (e ≡ Corrected w)) ↔ Near (CodeArray c) wrong τ
  lost_safe safe lent e b d =
      let (x, ends) = found_ends c L p r received lent e b d in
      Iff.trans (endings.safe_exactly proper left_array τ safe e lent x ends) near_rest

  pub lost_small : Counts c → (lent : Buffers) (e : Ending) (b : Buffers) → LostEnds c L y τ lent e b → detail_of (meaning e) < 256
  lost_small counts lent e b d =
      let k = core_counts c L p r.enough counts in
      go (joint_less proper k) k.most_columns e d
    where
      go : joint_limit rest < columns rest → columns rest ≤ 96 → (e : Ending) → LostEnds c L y τ lent e b → detail_of (meaning e) < 256
      go s m (Refused r) d = absurd d
      go s m (Corrected w) d = omega (arith, endings.corrected_within proper left_array τ d.corrects, r.limit)
      go s m Nothing d = omega arith
      go s m (Several t) d = omega (arith, d.0.within, r.limit)
      go s m (Hollow t) d = omega (arith, d.0.within, r.limit)

-- ---- of the promise

module _ (L : List ℕ) (g : Given) where
  abbrev D : Description
  D = g.description

  abbrev c : Code
  c = D.code

  abbrev y : List ℕ
  y = g.received

  -- in how many of the remaining columns v and an array differ
  abbrev wrong_from : List ℕ → List ℕ → ℕ
  wrong_from v a = wrong_among (columns c) L (flags_of c v a)

  abbrev Table : List ℕ → Ending → Buffers → Type 0
  Table z = LostEnds c L z g.limit g.lent

  abbrev EndsAs : Ending → Buffers → Type 0
  EndsAs = Struck D y Table

  abbrev Passed : Type 0
  Passed = PassedLost c g.limit L y g.lent.array g.lent.flags g.space × Factors D

  passed : 0 ≡ first (checks_lost L g) → Passed
  passed = lost_passed D g.limit L y g.lent.array g.lent.flags g.space

  quotient : Passed → IsArray c (divided D y)
  quotient (p, f) = is_divided D p.array.proper f p.array.received

  never : (r : Refusal) (b : Buffers) → ¬ EndsAs (Refused r) b
  never = struck_never D y Table (λ r b d. d)

  others_table : (e : Ending) (b : Buffers) → Table (divided D y) e b → ((w : ℕ) → ¬ (e ≡ Corrected w)) → b ≡ g.lent
  others_table (Refused r) b h n = absurd h
  others_table (Corrected w) b h n = absurd (n w refl)
  others_table Nothing b h n = h.1
  others_table (Several t) b h n = h.2
  others_table (Hollow t) b h n = h.2

  pub unique : (l l' : Left) → DecodesLost L g l → DecodesLost L g l' → l ≡ l'
  unique = promised.unique (checks_lost L g) g.lent g.space EndsAs
      (λ none. let q = passed none in struck_unique D y Table
      (λ e e' b b'. ends_unique c L q.0.array.proper q.0.remain (quotient q) g.lent e e' b b'))

  number_upto : first (checks_lost L g) ≤ 23
  number_upto = first_upto 23 (checks_lost L g) refl

  pub in_table : first (checks_lost L g) ≤ 26
  in_table = omega (arith, number_upto)

-- what is left of the quotients is the same, where what is left of the arrays is
quotients_same : (L : List ℕ) (D : Description) → Factors D → {y y' : List ℕ} → IsArray D.code y → IsArray D.code y'
    → core_of D.code L y ≡ core_of D.code L y' → core_of D.code L (divided D y) ≡ core_of D.code L (divided D y')
quotients_same L D f i i' same = left_of i ∙ ap (with_factors _ (right gone D.factors) (rows D.code)) same ∙ sym (left_of i')
  where
    gone : List ℕ
    gone = lost_flags (columns D.code) L

    left_of : {z : List ℕ} → IsArray D.code z → core_of D.code L (divided D z)
        ≡ with_factors (λ f s. over D.code.degree s f) (right gone D.factors) (rows D.code) (core_of D.code L z)
    left_of {z} h = subst (λ (n : ℕ). right_rows gone n (rows D.code) (divided D z)
        ≡ with_factors (λ f s. over D.code.degree s f) (right gone D.factors) (rows D.code) (right_rows gone n (rows D.code) z))
        f.count
        (core_with _ gone D.factors (lost_length (columns D.code) L ∙ sym f.count) (rows D.code) z
        (h.count ∙ ap (λ (n : ℕ). rows D.code * n) (sym f.count)))

-- 'Received symbols in lost columns have no influence, but must lie in the field.'
module _ (L : List ℕ) (D : Description) (τ : ℕ) (lent : Buffers) (space y y' : List ℕ) (sized : length y ≡ length y')
    (in_field : some_outside_field D.code.degree y ≡ some_outside_field D.code.degree y')
    (rest-same : core_of D.code L y ≡ core_of D.code L y') where
  same_checks : first (checks_lost L (given D τ y lent space)) ≡ first (checks_lost L (given D τ y' lent space))
  same_checks = rw (sized, in_field)

  pub no_influence : (l : Left) → DecodesLost L (given D τ y lent space) l → DecodesLost L (given D τ y' lent space) l
  no_influence = promised.same_decoding (checks_lost L (given D τ y lent space)) lent space (checks_lost L (given D τ y' lent space))
      (EndsAs L (given D τ y lent space)) (EndsAs L (given D τ y' lent space)) same_checks
      (λ none.
      let p = passed L (given D τ y lent space) none in
      let p' = passed L (given D τ y' lent space) (none ∙ same_checks) in
      struck_on D y (Table L (given D τ y lent space)) (Table L (given D τ y' lent space)) y'
      (same_rest D.code L p.0.array.proper (quotient L (given D τ y lent space) p) (quotient L (given D τ y' lent space) p')
      (quotients_same L D p.1 p.0.array.received p'.0.array.received rest-same) τ lent))

-- 'nothing lost'
module _ (g : Given) where
  pub none_checks : first (checks_lost [] g) ≡ first (checks_of g)
  none_checks = none_remaining g.description g.limit g.received g.lent.array g.lent.flags g.space

  abbrev WholeTable : List ℕ → Ending → Buffers → Type 0
  WholeTable z = Ends g.description.code z g.limit g.lent

  abbrev Whole : Ending → Buffers → Type 0
  Whole = Struck g.description g.received WholeTable

  same_table : 0 ≡ first (checks_lost [] g) → (e : Ending) (b : Buffers)
      → Table [] g (divided g.description g.received) e b ↔ WholeTable (divided g.description g.received) e b
  same_table none e b = none_ends g.description.code (quotient [] g (passed [] g none)) g.limit g.lent b e

  pub nothing_lost : (l : Left) → DecodesLost [] g l ↔ Decodes g l
  nothing_lost l = (
    promised.same_decoding (checks_lost [] g) g.lent g.space (checks_of g) (EndsAs [] g) Whole none_checks
        (λ none. struck_on g.description g.received (Table [] g) WholeTable g.received (λ e b. (same_table none e b).0)) l,
    promised.same_decoding (checks_of g) g.lent g.space (checks_lost [] g) Whole (EndsAs [] g) (sym none_checks)
        (λ none. struck_on g.description g.received WholeTable (Table [] g) g.received
        (λ e b. (same_table (none ∙ sym none_checks) e b).1)) l,
  )

module _ (L : List ℕ) (g : Given) (l : Left) (h : DecodesLost L g l) where
  pub refused_exactly : IsRefused l ↔ ¬ (first (checks_lost L g) ≡ 0)
  refused_exactly = halves.refused_exactly (checks_lost L g) g.lent g.space (EndsAs L g) (never L g) l h

  pub refused_leaves : (r : Refusal) → l.ending ≡ Refused r
      → (number r ≡ first (checks_lost L g)) × (1 ≤ number r) × (l.buffers ≡ g.lent) × (l.space ≡ g.space)
  refused_leaves = halves.refused_leaves (checks_lost L g) g.lent g.space (EndsAs L g) (in_table L g) (never L g) l h

  pub as_lent : ¬ IsCorrected l → l.buffers ≡ g.lent
  as_lent = halves.as_lent (checks_lost L g) g.lent g.space (EndsAs L g) (never L g) l h
      (struck_others (D L g) (y L g) (Table L g) g.lent (others_table L g))

  pub space_cleared : ¬ IsRefused l
      → ((i : ℕ) → i < space_bytes → get_or l.space i 0 ≡ 0) × ((i : ℕ) → space_bytes ≤ i → get_or l.space i 0 ≡ get_or g.space i 0)
  space_cleared = halves.space_cleared (checks_lost L g) g.lent g.space (EndsAs L g) (never L g) l h

  ended_as : (e : Ending) → l.ending ≡ e → ((r : Refusal) → ¬ (e ≡ Refused r)) → (0 ≡ first (checks_lost L g)) × EndsAs L g e l.buffers
  ended_as = halves.ended_as (checks_lost L g) g.lent g.space (EndsAs L g) (never L g) l h

  corrected : (w : ℕ) → l.ending ≡ Corrected w → (0 ≡ first (checks_lost L g)) × EndsAs L g (Corrected w) l.buffers
  corrected w e = ended_as (Corrected w) e (λ k e. let z : ◌≡◌ {A = ℕ} 0 1 = cc in omega arith)

  -- the flags of what is struck, at the remaining columns and with 2 at the lost ones, are those of the quotients
  module _ (q : Passed L g) {a : List ℕ} (i : IsArray (c L g) a) where
    flags_same : flags_of (c L g) (y L g) (multiplied (D L g) a) ≡ flags_of (c L g) (divided (D L g) (y L g)) a
    flags_same = flags_struck (D L g) q.0.array.proper q.1 q.0.array.received i

  same_among : (q : Passed L g) (a : List ℕ) → IsArray (c L g) a
      → wrong_from L g (y L g) (multiplied (D L g) a) ≡ wrong_from L g (divided (D L g) (y L g)) a
  same_among q a i = ap (wrong_among (columns (c L g)) L) (flags_same q i)

  -- what is left on 'corrected'
  module _ (w : ℕ) (e : l.ending ≡ Corrected w) where
    abbrev d : EndsAs L g (Corrected w) l.buffers
    d = (corrected w e).1

    abbrev q : Passed L g
    q = passed L g (corrected w e).0

    near : Nearest (CodeArray (c L g)) (wrong_from L g (divided (D L g) (y L g))) g.limit w d.answer.array
    near = lost_nearest q.0.array.proper q.0.remain (quotient L g q) d.ends

    array_is : l.buffers.array ≡ multiplied (D L g) d.answer.array
    array_is = ap (λ (b : Buffers). b.array) d.back

    pub corrected_nearest : Nearest (CodeArrayBy (D L g)) (wrong_from L g (y L g)) g.limit w l.buffers.array
    corrected_nearest = subst (Nearest (CodeArrayBy (D L g)) (wrong_from L g (y L g)) g.limit w) (sym array_is)
        (near_struck (D L g) q.0.array.proper q.1 _ _ (same_among q) near)

    flags_are : l.buffers.flags ≡ flags_lost (columns (c L g)) L (flags_of (c L g) (y L g) l.buffers.array)
    flags_are = ap (λ (b : Buffers). b.flags) d.back ∙ d.ends.flags
        ∙ ap (twos_at (lost_flags (columns (c L g)) L)) (sym (flags_same q (code_array q.0.array.proper near.code)))
        ∙ ap (λ (a : List ℕ). flags_lost (columns (c L g)) L (flags_of (c L g) (y L g) a)) (sym array_is)

    -- 'their flags are 2'
    pub corrected_flags : (i : ℕ) → i < columns (c L g)
        → (is_in i L ≡ true → get_or l.buffers.flags i 0 ≡ 2)
        × (is_in i L ≡ false → get_or l.buffers.flags i 0 ≡ flag (differs_at (c L g) (y L g) l.buffers.array i))
    corrected_flags i below =
        let fs = flags_of (c L g) (y L g) l.buffers.array in
        let n = columns (c L g) in
        let sized : length fs ≡ length (lost_flags n L) = flags-length _ 0 n ∙ sym (lost_length n L) in
        let here = flag_here (λ j. is_in j L) n i below in
        let inside : i < length (lost_flags n L) = omega (arith, lost_length n L) in (
          λ lost. ap (λ (f : List ℕ). get_or f i 0) flags_are ∙ twos_lost (lost_flags n L) fs i sized inside
              (λ z. let one = here ∙ ap flag lost in omega arith),
          λ left. ap (λ (f : List ℕ). get_or f i 0) flags_are ∙ twos_left (lost_flags n L) fs i sized inside (here ∙ ap flag left)
              ∙ flag_here (differs_at (c L g) (y L g) l.buffers.array) n i below,
        )

    -- 'fixed by the remaining columns'
    pub corrected_fixed : (b : List ℕ) → CodeArrayBy (D L g) b → core_of (c L g) L b ≡ core_of (c L g) L l.buffers.array
        → b ≡ l.buffers.array
    corrected_fixed b i s =
        let p = q.0.array.proper in
        let j = corrected_nearest.code in
        let ib = struck_array (D L g) p q.1 i in
        let ia = struck_array (D L g) p q.1 j in
        sym (multiplied-divided (D L g) p q.1 ib)
        ∙ ap (multiplied (D L g)) (core_code (c L g) L p q.0.remain.enough ((code_divided (D L g) p q.1 ib).0 i)
        ((code_divided (D L g) p q.1 ia).0 j)
        (quotients_same L (D L g) q.1 ib ia s))
        ∙ multiplied-divided (D L g) p q.1 ia

  pub none_far : l.ending ≡ Nothing → Far (CodeArrayBy (D L g)) (wrong_from L g (y L g)) g.limit
  none_far e =
      let (none, d) = ended_as Nothing e (λ k e. let z : ◌≡◌ {A = ℕ} 0 1 = cc in omega arith) in
      let q = passed L g none in
      far_struck (D L g) q.0.array.proper q.1 _ _ (same_among q)
      (lost_far q.0.array.proper q.0.remain (quotient L g q) d.ends)

  module _ (safe : g.limit ≤ safe_limit (core (c L g) L)) (not : ¬ IsRefused l) where
    ended : (0 ≡ first (checks_lost L g)) × EndsAs L g l.ending l.buffers
    ended = ended_as l.ending refl (λ k e. not (k, e))

    pub safe_exactly : IsCorrected l ↔ Near (CodeArrayBy (D L g)) (wrong_from L g (y L g)) g.limit
    safe_exactly =
        let q = passed L g ended.0 in
        let d = ended.1 in
        Iff.trans (lost_safe q.0.array.proper q.0.remain (quotient L g q) safe g.lent l.ending d.answer d.ends)
        (near_exactly (D L g) q.0.array.proper q.1 _ _ (same_among q))

    pub safe_otherwise : ¬ IsCorrected l → Far (CodeArrayBy (D L g)) (wrong_from L g (y L g)) g.limit
    safe_otherwise n a i = go (dec_le (wrong_from L g (y L g) a) g.limit)
      where
        go : Dec (wrong_from L g (y L g) a ≤ g.limit) → g.limit < wrong_from L g (y L g) a
        go (yes q) = absurd (n (safe_exactly.1 (a, i, q)))
        go (no q) = omega arith

  pub detail_small : detail_of (meaning l.ending) < 256
  detail_small = halves.by_number (checks_lost L g) g.lent g.space (EndsAs L g) (in_table L g) (never L g) l h
      (λ none d. let q = passed L g none in
      lost_small q.0.array.proper q.0.remain (quotient L g q) q.0.array.counts g.lent l.ending d.0.answer
      d.0.ends)
      (λ r e d. let n = ap (λ (x : Left). detail_of (meaning x.ending)) d in omega (arith, number_upto L g))
