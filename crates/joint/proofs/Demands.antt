-- What the user asks of a decoding, as theorems about its promise: g is what a decoding is given, and l what it leaves.
--
-- 'Nothing by halves.'
--   refused_exactly     it is refused exactly when a check applies
--   refused_leaves      then the reason's number is that of the first that does, 1 to 8, 18 or 23, and array, flags and working
--                       space are as lent
--   as_lent             unless the ending is 'corrected', array and flags are as lent
--   space_cleared       unless it is refused, the first 49,152 bytes of the working space are zero, and those beyond are as lent
--
-- What the endings mean for code arrays: 'Demands 2 and 3 read with the factors', so these are the arrays that are struck.
--   corrected_nearest   'corrected' leaves a code array that differs from the received one in exactly as many columns as the detail
--                       says, at most τ, where every other code array differs in more; the flags are those of its wrong columns
--   none_far            'none': no code array is within τ columns
--   safe_exactly        at the safe limit or below: 'corrected' exactly when some code array is within τ columns
--   safe_otherwise      there any ending but 'corrected' and 'refused' means that no code array is within τ columns
--
-- The one number for the C caller.
--   detail_small        the detail is below 256
--   packed_faithful     so the number tells the ending and the detail
-- Assumes nothing.
use mathlib.Core.Path.{◌≡◌, refl, sym, ap, ◌∙◌, subst}
use mathlib.Core.Logic.Iff
use mathlib.Core.Logic.{◌↔◌}
use mathlib.Core.List.{List}
use Prim.Native.Nat.{ℕ, ◌≤◌, ◌<◌}
use native.Mathlib.Decide.{dec_le}
use native.Mathlib.Omega.{arith}
use lib.ListN.{get_or}
use Rattle.refusal.specs.Refusal.{first}
use Rattle.refusal.specs.Meaning.{detail_of, packed}
use Rattle.refusal.specs.Numbers.{number}
use Rattle.refusal.specs.declared.Refusal.{Refusal}
use Rattle.refusal.proofs.Ladders.{first_upto}
use Rattle.codes.specs.Code.{Code, IsArray, columns, total, flags_of, wrong_count, joint_limit, safe_limit}
use Rattle.codes.specs.Factors.{Description, multiplied, divided, CodeArrayBy}
use Rattle.codes.specs.Near.{Nearest, Near, Far}
use Rattle.codes.specs.Checks.{space_bytes}
use Rattle.codes.proofs.Passed.{PassedDecoding, decoding}
use Rattle.codes.proofs.Limits.{joint_less}
use Rattle.codes.proofs.Messages.{code_array}
use Rattle.codes.proofs.Factors.{Factors, is_divided, flags_struck, near_struck, near_exactly, far_struck}
use Rattle.ending.specs.Endings.{Buffers, meaning, Ends}
use Rattle.ending.specs.declared.Ending.{Ending}
use Rattle.ending.specs.declared.Ending.TheVariants.{Refused, Corrected, Nothing, Several, Hollow}
use Rattle.ending.proofs.Demands as endings
use Rattle.ending.proofs.Unique.{meaning_faithful}
use Rattle.joint.specs.Promises.{Given, Left, Struck, Decodes, checks_of}
use Rattle.joint.proofs.Halves as halves
use Rattle.joint.proofs.Struck.{struck_never, struck_others}

pub packed_faithful : (e e' : Ending) → detail_of (meaning e) < 256 → detail_of (meaning e') < 256
    → packed (meaning e) ≡ packed (meaning e') → e ≡ e'
unfolding packed
packed_faithful e e' s s' p = meaning_faithful e e' (omega arith) (omega arith)

module _ (g : Given) (l : Left) (h : Decodes g l) where
  abbrev IsRefused : Type 0
  IsRefused = halves.IsRefused l

  abbrev IsCorrected : Type 0
  IsCorrected = halves.IsCorrected l

  abbrev D : Description
  D = g.description

  abbrev c : Code
  c = D.code

  abbrev y : List ℕ
  y = g.received

  abbrev Table : List ℕ → Ending → Buffers → Type 0
  Table z = Ends c z g.limit g.lent

  abbrev EndsAs : Ending → Buffers → Type 0
  EndsAs = Struck D y Table

  abbrev Passed : Type 0
  Passed = PassedDecoding c g.limit y g.lent.array g.lent.flags g.space × Factors D

  passed : 0 ≡ first (checks_of g) → Passed
  passed e = decoding D g.limit y g.lent.array g.lent.flags g.space e

  quotient : Passed → IsArray c (divided D y)
  quotient (p, f) = is_divided D p.array.proper f p.array.received

  never : (r : Refusal) (b : Buffers) → ¬ EndsAs (Refused r) b
  never = struck_never D y Table (λ r b d. d)

  number_upto : first (checks_of g) ≤ 23
  number_upto = first_upto 23 (checks_of g) refl

  in_table : first (checks_of g) ≤ 26
  in_table = omega (arith, number_upto)

  pub refused_exactly : IsRefused ↔ ¬ (first (checks_of g) ≡ 0)
  refused_exactly = halves.refused_exactly (checks_of g) g.lent g.space EndsAs never l h

  pub refused_leaves : (r : Refusal) → l.ending ≡ Refused r
      → (number r ≡ first (checks_of g)) × (1 ≤ number r) × (number r ≤ 23) × (l.buffers ≡ g.lent) × (l.space ≡ g.space)
  refused_leaves r e =
      let (first, some, b, s) = halves.refused_leaves (checks_of g) g.lent g.space EndsAs in_table never l h r e in
      (first, some, omega (arith, number_upto), b, s)

  others : (e : Ending) (b : Buffers) → Table (divided D y) e b → ((w : ℕ) → ¬ (e ≡ Corrected w)) → b ≡ g.lent
  others (Refused r) b d n = absurd d
  others (Corrected w) b d n = absurd (n w refl)
  others Nothing b d n = d.1
  others (Several t) b d n = d.2
  others (Hollow t) b d n = d.2

  pub as_lent : ¬ IsCorrected → l.buffers ≡ g.lent
  as_lent = halves.as_lent (checks_of g) g.lent g.space EndsAs never l h (struck_others D y Table g.lent others)

  pub space_cleared : ¬ IsRefused
      → ((i : ℕ) → i < space_bytes → get_or l.space i 0 ≡ 0) × ((i : ℕ) → space_bytes ≤ i → get_or l.space i 0 ≡ get_or g.space i 0)
  space_cleared = halves.space_cleared (checks_of g) g.lent g.space EndsAs never l h

  ended_as : (e : Ending) → l.ending ≡ e → ((r : Refusal) → ¬ (e ≡ Refused r)) → (0 ≡ first (checks_of g)) × EndsAs e l.buffers
  ended_as = halves.ended_as (checks_of g) g.lent g.space EndsAs never l h

  -- a struck array is as far from the received one as its quotient is from the quotient
  same_count : (q : Passed) (a : List ℕ) → IsArray c a → wrong_count c y (multiplied D a) ≡ wrong_count c (divided D y) a
  same_count (p, f) a i = ap total (flags_struck D p.array.proper f p.array.received i)

  pub corrected_nearest : (w : ℕ) → l.ending ≡ Corrected w
      → Nearest (CodeArrayBy D) (wrong_count c y) g.limit w l.buffers.array × (l.buffers.flags ≡ flags_of c y l.buffers.array)
  corrected_nearest w e =
      let (none, d) = ended_as (Corrected w) e (λ k e. let z : ◌≡◌ {A = ℕ} 0 1 = cc in omega arith) in
      let q = passed none in
      let p = q.0.array in
      let near = endings.corrected_means p.proper (quotient q) g.limit q.0.limit w g.lent d.answer d.ends in
      subst (λ (b : Buffers). Nearest (CodeArrayBy D) (wrong_count c y) g.limit w b.array × (b.flags ≡ flags_of c y b.array))
      (sym d.back) (
        near_struck D p.proper q.1 (wrong_count c y) (wrong_count c (divided D y)) (same_count q) near,
        d.ends.flags ∙ sym (flags_struck D p.proper q.1 p.received (code_array p.proper near.code)),
      )

  pub none_far : l.ending ≡ Nothing → Far (CodeArrayBy D) (wrong_count c y) g.limit
  none_far e =
      let (none, d) = ended_as Nothing e (λ k e. let z : ◌≡◌ {A = ℕ} 0 1 = cc in omega arith) in
      let q = passed none in
      far_struck D q.0.array.proper q.1 (wrong_count c y) (wrong_count c (divided D y)) (same_count q)
      (endings.none_means q.0.array.proper (quotient q) g.limit g.lent d.answer d.ends)

  module _ (safe : g.limit ≤ safe_limit c) (not : ¬ IsRefused) where
    ended : (0 ≡ first (checks_of g)) × EndsAs l.ending l.buffers
    ended = ended_as l.ending refl (λ k e. not (k, e))

    pub safe_exactly : IsCorrected ↔ Near (CodeArrayBy D) (wrong_count c y) g.limit
    safe_exactly =
        let q = passed ended.0 in
        let d = ended.1 in
        Iff.trans (endings.safe_exactly q.0.array.proper (quotient q) g.limit safe l.ending g.lent d.answer d.ends)
        (near_exactly D q.0.array.proper q.1 (wrong_count c y) (wrong_count c (divided D y)) (same_count q))

    -- 'At the safe limit or below, any ending but "corrected" and "refused" means that no code array is within τ columns.'
    pub safe_otherwise : ¬ IsCorrected → Far (CodeArrayBy D) (wrong_count c y) g.limit
    safe_otherwise n a i = go (dec_le (wrong_count c y a) g.limit)
      where
        go : Dec (wrong_count c y a ≤ g.limit) → g.limit < wrong_count c y a
        go (yes q) = absurd (n (safe_exactly.1 (a, i, q)))
        go (no q) = omega arith

  small_by : Passed → (e : Ending) (b : Buffers) → Table (divided D y) e b → detail_of (meaning e) < 256
  small_by (q, f) e b d =
      go (quotient (q, f)) (joint_less q.array.proper q.array.counts) q.array.counts.most_columns e d
    where
      go : IsArray c (divided D y) → joint_limit c < columns c → columns c ≤ 96 → (e : Ending) → Table (divided D y) e b
          → detail_of (meaning e) < 256
      go i s m (Refused r) d = absurd d
      go i s m (Corrected w) d = omega (arith, endings.corrected_within q.array.proper i g.limit d, q.limit)
      go i s m Nothing d = omega arith
      go i s m (Several t) d = omega (arith, d.0.within, q.limit)
      go i s m (Hollow t) d = omega (arith, d.0.within, q.limit)

  pub detail_small : detail_of (meaning l.ending) < 256
  detail_small = halves.by_number (checks_of g) g.lent g.space EndsAs in_table never l h
      (λ p d. small_by (passed p) l.ending d.0.answer d.0.ends)
      (λ r p d. let e = ap (λ (x : Left). detail_of (meaning x.ending)) d in omega (arith, number_upto))
