-- What 02 and the user ask of a decoding of powers, as theorems about its promise: l is what it leaves.
--
--   factors_powers      'Power rows use the factors' powers': the powers of the quotient are the powers divided by the factors' powers
--
-- 'Nothing by halves.'
--   refused_exactly     it is refused exactly when a check applies
--   refused_leaves      then the reason's number is that of the first that does, and row, flags and working space are as lent
--   as_lent             unless the ending is 'corrected', row and flags are as lent
--   space_cleared       unless it is refused, the first 49,152 bytes of the working space are zero, and those beyond are as lent
--
-- Of a decoding that is not refused:
--   as_joint            it ends as joint decoding of the power rows does: '"Corrected" is answered exactly where joint decoding corrects',
--                       'the other endings are passed through'
--   corrected_powers    'each corrected row's polynomial is then always that power of the first row's', and the row that is left has the
--                       first one's values
--   corrected_nearest   'every other codeword of the single-row code differs from the received word in more symbols': the row that is left
--                       is a codeword that differs from the received row in exactly as many symbols as the detail says, at most τ; the
--                       flags are those of its wrong symbols. With factors codewords are the words that are struck.
--   none_far            'none': no codeword is within τ symbols
--   safe_exactly        at the safe limit of the s rows or below: 'corrected' exactly when some codeword is within τ symbols
--   safe_otherwise      there any ending but 'corrected' and 'refused' means that none is
--   detail_small        the detail is below 256, so that the one number for the C caller tells ending and detail
-- Assumes nothing.
use mathlib.Core.Path.{◌≡◌, refl, sym, ap, ap₂, ◌∙◌, subst}
use mathlib.Core.Logic.{◌↔◌}
use mathlib.Core.List.{List, [], ◌∷◌}
use Prim.Native.Nat.{ℕ, ◌*◌, ◌≤◌, ◌<◌}
use native.Mathlib.Decide.{dec_le}
use native.Mathlib.Omega.{arith}
use lib.ListN.{length, get_or, take}
use Rattle.refusal.specs.Refusal.{Check, first}
use Rattle.refusal.specs.Meaning.{detail_of}
use Rattle.refusal.specs.Numbers.{number}
use Rattle.refusal.specs.declared.Refusal.{Refusal}
use Rattle.refusal.proofs.Ladders.{first_upto}
use Rattle.field.specs.Symbols.{IsSymbol, over}
use Rattle.field.specs.Arithmetic.{gf}
use Rattle.field.proofs.Laws.{Field}
use Rattle.poly.specs.Poly.{All, values_at}
use Rattle.codes.specs.Code.{Code, IsArray, total, CodeArray, flags_of, wrong_count, joint_limit, safe_limit, columns}
use Rattle.codes.specs.Factors.{Description, description_of, with_factors_row, multiplied, divided, CodeArrayBy, plain}
use Rattle.codes.specs.Near.{Nearest, Near, Far}
use Rattle.codes.specs.Checks.{space_bytes}
use Rattle.codes.proofs.Factors.{Factor, flags_struck, near_struck, near_exactly, far_struck}
use Rattle.codes.proofs.Limits.{joint_less}
use Rattle.codes.proofs.Messages.{code_array}
use Rattle.ending.specs.Endings.{Buffers, Corrects, meaning, Ends}
use Rattle.ending.specs.declared.Ending.{Ending}
use Rattle.ending.specs.declared.Ending.TheVariants.{Refused, Corrected, Nothing, Several, Hollow}
use Rattle.ending.proofs.Demands as endings
use Rattle.joint.specs.Promises.{Left, buffers}
use Rattle.joint.specs.Promises as Joint
use Rattle.joint.proofs.Halves as halves
use Rattle.joint.proofs.Struck.{struck_never, struck_others}
use Rattle.power_checks.specs.Powers.{power_row, power_rows, row_code, power_code, powers_of}
use Rattle.power_checks.specs.Checks.{decode_checks}
use Rattle.power_checks.proofs.Passed.{power_counts, power_checked}
use Rattle.powers.specs.Promises.{PowerEnds, EndsAs, Decodes}
use Rattle.powers.specs.Working.{Row, Ready}
use Rattle.powers.proofs.Polynomials.{raised-over}
use Rattle.powers.proofs.Rows.{rows_array}
use Rattle.powers.proofs.Passed.{Passed}
use Rattle.powers.proofs.Corrected.{row_proper, row_array, rows_are_powers, corrected-rows, corrected-word, corrected-first}
use Rattle.powers.proofs.Corrected.{power_flags, power_nearest, power_far, power_near}
use Rattle.powers.proofs.Ended.{power_others, ends_unique, joint_ended}
use Rattle.powers.proofs.Unique.{passed_of, quotient}

pub factors_powers : (d : ℕ) → Field (gf d) → (i : ℕ) (fs y : List ℕ) → All (Factor d) fs → All (IsSymbol d) y
    → with_factors_row (λ f a. over d a f) (power_row d i fs) (power_row d i y) ≡ power_row d i (with_factors_row (λ f a. over d a f) fs y)
unfolding with_factors_row power_row
factors_powers d 𝓕 i [] y h q = refl
factors_powers d 𝓕 i (f ∷ fs) [] h q = refl
factors_powers d 𝓕 i (f ∷ fs) (a ∷ y) h q = ap₂ ◌∷◌ (raised-over d 𝓕 a f i q.0 h.0) (factors_powers d 𝓕 i fs y h.1 q.1)

module _ (d k s : ℕ) (xs fs : List ℕ) (τ : ℕ) (y : List ℕ) (lent : Buffers) (space : List ℕ) (l : Left)
    (h : Decodes d k s xs fs τ y lent space l) where
  abbrev IsRefused : Type 0
  IsRefused = halves.IsRefused l

  abbrev IsCorrected : Type 0
  IsCorrected = halves.IsCorrected l

  abbrev D : Description
  D = description_of d xs fs (k ∷ [])

  abbrev checks : List Check
  checks = decode_checks d k s xs fs τ y lent.array lent.flags space

  abbrev Ended : Ending → Buffers → Type 0
  Ended = EndsAs d k s xs fs τ y lent

  abbrev n : ℕ
  n = length xs

  -- the single-row code, and that of the s rows
  abbrev row : Code
  row = row_code d xs k

  abbrev code : Code
  code = power_code d xs k s

  abbrev z : List ℕ
  z = divided D y

  abbrev powers : List ℕ
  powers = power_rows d s z

  allowed : 0 ≡ first checks → Passed d k s xs fs τ y lent.array lent.flags space
  allowed = passed_of d k s xs fs τ y lent space

  quotient_row : 0 ≡ first checks → Row d n z
  quotient_row = quotient d k s xs fs τ y lent space

  -- the powers of a row are an array
  power_array : {v : List ℕ} → (none : 0 ≡ first checks) → Row d n v → IsArray code (power_rows d s v)
  power_array none r = rows_array d (allowed none).shape.proper.field xs k s r

  abbrev Table : List ℕ → Ending → Buffers → Type 0
  Table z = PowerEnds d xs k s z τ lent

  never : (r : Refusal) (b : Buffers) → ¬ Ended (Refused r) b
  never = struck_never D y Table (λ r b t. t.ends)

  number_upto : first checks ≤ 23
  number_upto = first_upto 23 checks refl

  in_table : first checks ≤ 26
  in_table = omega (arith, number_upto)

  pub refused_exactly : IsRefused ↔ ¬ (first checks ≡ 0)
  refused_exactly = halves.refused_exactly checks lent space Ended never l h

  pub refused_leaves : (r : Refusal) → l.ending ≡ Refused r
      → (number r ≡ first checks) × (1 ≤ number r) × (number r ≤ 23) × (l.buffers ≡ lent) × (l.space ≡ space)
  refused_leaves r e =
      let (first, some, b, s) = halves.refused_leaves checks lent space Ended in_table never l h r e in
      (first, some, omega (arith, number_upto), b, s)

  pub as_lent : ¬ IsCorrected → l.buffers ≡ lent
  as_lent = halves.as_lent checks lent space Ended never l h
      (struck_others D y Table lent (power_others lent))

  pub space_cleared : ¬ IsRefused
      → ((i : ℕ) → i < space_bytes → get_or l.space i 0 ≡ 0) × ((i : ℕ) → space_bytes ≤ i → get_or l.space i 0 ≡ get_or space i 0)
  space_cleared = halves.space_cleared checks lent space Ended never l h

  ended_as : (e : Ending) → l.ending ≡ e → ((r : Refusal) → ¬ (e ≡ Refused r)) → (0 ≡ first checks) × Ended e l.buffers
  ended_as = halves.ended_as checks lent space Ended never l h

  corrected_as : (w : ℕ) → l.ending ≡ Corrected w → (0 ≡ first checks) × Ended (Corrected w) l.buffers
  corrected_as w e = ended_as (Corrected w) e (λ r e. let z : ◌≡◌ {A = ℕ} 0 1 = cc in omega arith)

  -- ---- joint decoding of the power rows, with any buffers of the right lengths lent

  module _ (not : ¬ IsRefused) (b : Buffers) (array : length b.array ≡ s * n) (flags : length b.flags ≡ n) (l' : Left)
      (joint : Joint.Decodes (Joint.given (plain code) τ powers b space) l') where
    ended : (0 ≡ first checks) × Ended l.ending l.buffers
    ended = ended_as l.ending refl (λ k e. not (k, e))

    ready : Ready d k s xs τ z b.array b.flags space
    ready = let p = allowed ended.0 in record {
      shape = p.shape;
      counts = power_counts xs p.sizes;
      checked = power_checked xs p.sizes;
      longest = omega (arith, p.sizes.below);
      limit = p.limit;
      row = quotient_row ended.0;
      answer = array;
      flags = flags;
      space = p.space;
    }

    -- an ending whatever buffers are lent
    relent : (lent lent' : Buffers) (e : Ending) (a : Buffers) → Ends code powers τ lent e a
        → (a' : Buffers) × Ends code powers τ lent' e a'
    relent lent lent' (Refused r) a t = absurd t
    relent lent lent' (Corrected w) a t = (a, t)
    relent lent lent' Nothing a t = (lent', (t.0, refl))
    relent lent lent' (Several w) a t = (lent', (t.0, t.1, refl))
    relent lent lent' (Hollow w) a t = (lent', (t.0, t.1, refl))

    pub as_joint : l.ending ≡ l'.ending
    as_joint =
        let p = allowed ended.0 in
        let (a, t) = relent b lent l'.ending l'.buffers (joint_ended ready l' joint).0 in
        let own = ended.1.ends in
        (ends_unique p.shape (quotient_row ended.0) p.limit lent l.ending l'.ending own.answer a own.ends t).0

  -- ---- what 'corrected' means

  pub corrected_powers : (w : ℕ) → l.ending ≡ Corrected w
      → (a : Buffers) × (c : Corrects code powers τ w a)
      × (c.m ≡ powers_of (gf d) (take k c.m) s)
      × (l.buffers.array ≡ multiplied D (values_at (gf d) xs (take k c.m)))
  corrected_powers w e =
      let (none, t) = corrected_as w e in
      let p = allowed none in
      let c = t.ends.ends in
      let first : t.answer.array ≡ values_at (gf d) xs (take k c.m) =
      ap (λ (b : Buffers). b.array) t.ends.back ∙ corrected-first p.shape (quotient_row none) p.limit c in (
        t.ends.answer,
        c,
        rows_are_powers p.shape (quotient_row none) p.limit c,
        ap (λ (b : Buffers). b.array) t.back ∙ ap (multiplied D) first,
      )

  -- a struck row is as far from the received one as its quotient is from the quotient
  same_count : (none : 0 ≡ first checks) (a : List ℕ) → IsArray row a → wrong_count row y (multiplied D a) ≡ wrong_count row z a
  same_count none a i =
      let p = allowed none in
      ap total (flags_struck D (row_proper p.shape) p.factors ((row_array p.shape).1 p.received) i)

  pub corrected_nearest : (w : ℕ) → l.ending ≡ Corrected w
      → Nearest (CodeArrayBy D) (wrong_count row y) τ w l.buffers.array
      × (l.buffers.flags ≡ flags_of row y l.buffers.array)
  corrected_nearest w e =
      let (none, t) = corrected_as w e in
      let p = allowed none in
      let s = p.shape in
      let r = quotient_row none in
      let c = t.ends.ends in
      let v : List ℕ = values_at (gf d) xs (take k c.m) in
      let word = corrected-word s r p.limit c in
      let far = endings.corrected_means s.proper (power_array none r) τ p.limit w lent t.ends.answer c in
      let near : Nearest (CodeArray row) (wrong_count row z) τ w v = power_nearest s r word
      (subst (Nearest (CodeArray code) (wrong_count code powers) τ w) (corrected-rows s r p.limit c) far) in
      let first : t.answer.array ≡ v = ap (λ (b : Buffers). b.array) t.ends.back ∙ corrected-first s r p.limit c in
      let flags : t.answer.flags ≡ flags_of row z v =
      ap (λ (b : Buffers). b.flags) t.ends.back ∙ c.flags ∙ ap (flags_of code powers) (corrected-rows s r p.limit c)
      ∙ power_flags s r word in
      subst (λ (b : Buffers). Nearest (CodeArrayBy D) (wrong_count row y) τ w b.array × (b.flags ≡ flags_of row y b.array))
      (sym (t.back ∙ ap₂ (λ (a f : List ℕ). buffers (multiplied D a) f) first flags)) (
        near_struck D (row_proper s) p.factors (wrong_count row y) (wrong_count row z) (same_count none) near,
        sym (flags_struck D (row_proper s) p.factors ((row_array s).1 p.received) (code_array (row_proper s) word)),
      )

  -- ---- what the other endings mean

  pub none_far : l.ending ≡ Nothing → Far (CodeArrayBy D) (wrong_count row y) τ
  none_far e =
      let (none, t) = ended_as Nothing e (λ r e. let z : ◌≡◌ {A = ℕ} 0 1 = cc in omega arith) in
      let p = allowed none in
      let s = p.shape in
      far_struck D (row_proper s) p.factors (wrong_count row y) (wrong_count row z) (same_count none)
      (power_far s (quotient_row none)
      (endings.none_means s.proper (power_array none (quotient_row none)) τ lent t.ends.answer t.ends.ends))

  module _ (safe : τ ≤ safe_limit code) (not : ¬ IsRefused) where
    own_end : (0 ≡ first checks) × Ended l.ending l.buffers
    own_end = ended_as l.ending refl (λ k e. not (k, e))

    pub safe_exactly : IsCorrected ↔ Near (CodeArrayBy D) (wrong_count row y) τ
    safe_exactly =
        let (none, t) = own_end in
        let p = allowed none in
        let s = p.shape in
        let r = quotient_row none in
        let powers-near = endings.safe_exactly s.proper (power_array none r) τ safe l.ending lent t.ends.answer
        t.ends.ends in
        let struck = near_exactly D (row_proper s) p.factors (wrong_count row y) (wrong_count row z) (same_count none) in (
          λ (w, e). let near = (corrected_nearest w e).0 in
              (l.buffers.array, near.code, omega (arith, near.wrong, near.within)),
          λ q. powers-near.1 (power_near s r (struck.1 q)),
        )

    pub safe_otherwise : ¬ IsCorrected → Far (CodeArrayBy D) (wrong_count row y) τ
    safe_otherwise no_answer a i = go (dec_le (wrong_count row y a) τ)
      where
        go : Dec (wrong_count row y a ≤ τ) → τ < wrong_count row y a
        go (yes q) = absurd (no_answer (safe_exactly.1 (a, i, q)))
        go (no q) = omega arith

  -- ---- the one number for the C caller

  small_by : 0 ≡ first checks → (e : Ending) (b : Buffers) → Ends code powers τ lent e b → detail_of (meaning e) < 256
  small_by none e b t =
      let p = allowed none in
      let counts = power_counts xs p.sizes in
      go p.limit (joint_less p.shape.proper counts) counts.most_columns
      (power_array none (quotient_row none)) e t
    where
      go : τ ≤ joint_limit code → joint_limit code < columns code → columns code ≤ 96 → IsArray code powers → (e : Ending)
          → Ends code powers τ lent e b → detail_of (meaning e) < 256
      go q s m i (Refused r) t = absurd t
      go q s m i (Corrected w) t = omega (arith, endings.corrected_within (allowed none).shape.proper i τ t)
      go q s m i Nothing t = omega arith
      go q s m i (Several w) t = omega (arith, t.0.within)
      go q s m i (Hollow w) t = omega (arith, t.0.within)

  pub detail_small : detail_of (meaning l.ending) < 256
  detail_small = halves.by_number checks lent space Ended in_table never l h
      (λ p t. small_by p l.ending t.0.ends.answer t.0.ends.ends)
      (λ r p t. let e = ap (λ (x : Left). detail_of (meaning x.ending)) t in omega (arith, number_upto))
