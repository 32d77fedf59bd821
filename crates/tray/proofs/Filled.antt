-- How a tray is filled: mark by mark, over whatever says an answer.
--
--   Passed D τ m y a f w    what a tray's checks leave; passed, from them
--   marked              what the decoding of the lent parts leaves
--   Space g n w         the space with n marks left
--   Waits g i b w       the marks from i on are as they were lent, and the space has what they share
--   Told g say i s b    the first i marks are decoded, and s has their answers
--   waits_first, told_first    before the first mark
--   lies                the next mark lies in the lent slices; waits_next, told_next, when it is decoded
--   filled              behind the last one the tray is
-- Assumes nothing.
use mathlib.Core.Path.{◌≡◌, refl, sym, ap, ◌∙◌, subst, subst₂}
use mathlib.Core.Bool.{Bool}
use mathlib.Core.List.{List, ◌++◌}
use Prim.Native.Nat.{ℕ, zero, suc, ◌+◌, ◌-◌, ◌*◌, ◌≤◌, ◌<◌}
use native.Mathlib.Nat.{suc-mul, mul-le-mul, mul-le-mul_right}
use native.Mathlib.Decide.{ℕ_discrete}
use native.Mathlib.Omega.{arith}
use lib.Dec.{eqb, ltb}
use lib.ListN.{length, take, drop, set, length-set}
use lib.Seq.{get_or-set_same, get_or-set_other}
use borrow.Author.Tests.{ltb-false, eq-eqb, ne_eqb}
use Rattle.patch.specs.Parts.{part}
use Rattle.patch.proofs.Parts.{length_part, length-lay}
use Rattle.refusal.specs.Refusal.{first}
use Rattle.refusal.proofs.Laws.{within}
use Rattle.refusal.proofs.Ladders.{clear}
use Rattle.refusal.proofs.Keeping.{does}
use Rattle.std.proofs.Common.{Ok}
use Rattle.field.proofs.Instance.{field}
use Rattle.codes.specs.Code.{columns, joint_limit}
use Rattle.codes.specs.Factors.{Description}
use Rattle.codes.specs.Checks.{wrong_length, space_bytes}
use Rattle.codes.proofs.Proper.{neither, lengths_test, proper}
use Rattle.codes.proofs.Passed.{counted, checked, right-length, factors_of}
use Rattle.ending.specs.Endings.{Buffers}
use Rattle.ending.specs.declared.Ending.{Ending}
use Rattle.ending.specs.declared.Ending.TheVariants.{Nothing}
use Rattle.joint.specs.Promises.{Decodes, buffers, given, left, cleared}
use Rattle.joint.proofs.Cleared.{cleared_same}
use Rattle.tray.specs.Promises.{GivenTray, left_tray, Alone}
use Rattle.tray.specs.Promises.{DecodesTray, alone, cells, received_of, mark_of, tray_checks, checks_tray}
use Rattle.tray.specs.Working.{Common, Begun, cleared_if, Decoded, Lies, Marked}
use Rattle.tray.proofs.Places.{row_within, row_laid, other_rows, lent_row, row_back}

pub record Passed (D : Description) (τ m : ℕ) (y a f w : List ℕ) : Type 0 where
  pub common : Common D τ
  pub some_marks : 1 ≤ m
  pub few_marks : m ≤ 64
  pub received : length y ≡ m * cells D.code
  pub arrays : length a ≡ m * cells D.code
  pub flags : length f ≡ m * columns D.code
  pub space : space_bytes ≤ length w

pub passed : (D : Description) (τ m : ℕ) (y a f w : List ℕ) → 0 ≡ first (tray_checks D τ m y a f w) → Passed D τ m y a f w
passed D τ m y a f w e =
    let c = D.code in
    let p = counted c _ e in
    let p₁₅ = clear 14 _ _ p.1 in
    let p₅ = clear 4 _ _ p₁₅.1 in
    let p₆ = clear 5 _ _ p₅.1 in
    let p₂₃ = clear 22 _ _ p₆.1 in
    let some = within 1 64 m p₁₅.0 in
    let l₄ = (neither _ (wrong_length (columns c) D.factors)).0 p₅.0 in
    let l₃ = (neither _ (ltb (length w) space_bytes)).0 l₄.0 in
    let l₂ = (neither _ (wrong_length (m * columns c) f)).0 l₃.0 in
    let l₁ = (neither (wrong_length (m * cells c) y) (wrong_length (m * cells c) a)).0 l₂.0 in
    record {
      common = record {
        counts = p.0;
        proper = proper c (field c.degree p.0.degree) ((lengths_test 1 (columns c) c.lengths).1 p.0.lengths) p₆.0;
        factors = factors_of D l₄.1 p₂₃.0;
        checked = checked c _ e;
        limit = ltb-false (joint_limit c) τ (clear 7 _ _ p₂₃.1).0;
      };
      some_marks = some.0;
      few_marks = some.1;
      received = right-length _ y l₁.0;
      arrays = right-length _ a l₁.1;
      flags = right-length _ f l₂.1;
      space = ltb-false (length w) space_bytes l₃.1;
    }

-- what the decoding of the lent parts leaves
module _ (D : Description) (τ k : ℕ) (y a f w : List ℕ) (h : Lies D τ k y (buffers a f) w) where
  abbrev at : ℕ
  at = k * cells D.code

  abbrev column : ℕ
  column = k * columns D.code

  abbrev size : ℕ
  size = at + cells D.code - at

  abbrev wide : ℕ
  wide = column + columns D.code - column

  pub marked : (e : Ending) (u v w' : List ℕ)
      → length u ≡ length (take size (drop at a)) → length v ≡ length (take wide (drop column f))
      → Decoded D τ (take size (drop at y)) (buffers (take size (drop at a)) (take wide (drop column f))) e (buffers u v)
      → w' ≡ cleared_if (eqb (at + cells D.code) (length a)) w
      → Marked D τ k y (buffers a f) w e
      (buffers (take at a ++ (u ++ drop size (drop at a))) (take column f ++ (v ++ drop wide (drop column f)))) w'
  marked e u v w' lu lv d r = record {
    own = buffers u v;
    decoded = subst₂ (λ (z : List ℕ) (b : Buffers). Decoded D τ z b e (buffers u v)) (lent_row at (cells D.code) y)
        (λ i. buffers (lent_row at (cells D.code) a i) (lent_row column (columns D.code) f i)) d;
    array_size = rows-size;
    flags_size = columns-size;
    array = row_back at (cells D.code) u a rows-size h.array;
    flags = row_back column (columns D.code) v f columns-size h.flags;
    space = r;
  }
    where
      rows-size : length u ≡ cells D.code
      rows-size = lu ∙ ap length (lent_row at (cells D.code) a) ∙ length_part at (cells D.code) a h.array

      columns-size : length v ≡ columns D.code
      columns-size = lv ∙ ap length (lent_row column (columns D.code) f) ∙ length_part column (columns D.code) f h.flags

abbrev pub marks : {A : Type 0} → GivenTray A → ℕ
marks g = length g.answers

module _ {A : Type 0} (g : GivenTray A) where
  abbrev D : Description
  D = g.description

  abbrev pub HasPassed : Type 0
  HasPassed = Passed D g.limit (marks g) g.received g.lent.array g.lent.flags g.space

  pub has_passed : 0 ≡ first (checks_tray g) → HasPassed
  has_passed = passed D g.limit (marks g) g.received g.lent.array g.lent.flags g.space

  -- the space, with n marks left
  abbrev pub Space : (n : ℕ) (w : List ℕ) → Type 0
  Space zero w = w ≡ cleared g.space
  Space (suc n) w = Begun D.code g.space w

  pub record Waits (i : ℕ) (b : Buffers) (w : List ℕ) : Type 0 where
    pub upto : i ≤ marks g
    pub arrays : length b.array ≡ length g.lent.array
    pub flags : length b.flags ≡ length g.lent.flags
    pub rest : (k : ℕ) → i ≤ k → k < marks g → mark_of D.code k b ≡ mark_of D.code k g.lent
    pub space : Space (marks g - i) w

  pub record Told (say : Ending → A) (i : ℕ) (s : List A) (b : Buffers) : Type 0 where
    pub count : length s ≡ marks g
    pub done : (k : ℕ) → k < i → Alone say g s b k

  -- how many are left
  left_by : (i : ℕ) → i < marks g → (n : ℕ) × (i + suc n ≡ marks g) × (marks g - i ≡ suc n) × (marks g - (i + 1) ≡ n)
  left_by i more = (marks g - (i + 1), omega arith, omega arith, refl)

  -- a mark more: behind the last one the space is cleared
  module _ (p : HasPassed) (i : ℕ) (b : Buffers) (arrays : length b.array ≡ length g.lent.array) (v w' : List ℕ)
      (begun : Begun D.code g.space v)
      (left : w' ≡ cleared_if (eqb (i * cells D.code + cells D.code) (length b.array)) v) where
    all : length b.array ≡ marks g * cells D.code
    all = arrays ∙ p.arrays

    some_cells : 1 ≤ cells D.code
    some_cells = mul-le-mul p.common.counts.some_rows p.common.counts.some_columns

    space_next : (n : ℕ) → i + suc n ≡ marks g → Space n w'
    space_next zero e = left ∙ ap (λ (x : Bool). cleared_if x v) (eq-eqb _ _ last) ∙ cleared_same v g.space begun.behind
      where
        last : i * cells D.code + cells D.code ≡ length b.array
        last = let m : suc i ≡ marks g = omega arith in
            omega (arith, suc-mul i (cells D.code), ap (λ (x : ℕ). x * cells D.code) m, all)
    space_next (suc n) e = subst (Begun D.code g.space) (sym (left ∙ ap (λ (x : Bool). cleared_if x v) (ne_eqb _ _ more))) begun
      where
        more : ¬ (i * cells D.code + cells D.code ≡ length b.array)
        more z =
            let n = cells D.code in
            let further = mul-le-mul_right {m = suc (suc i)} {n = marks g} n (omega arith) in
            omega (arith, suc-mul i n, suc-mul (suc i) n, further, some_cells, all)

  -- before the first mark
  pub told_first : (say : Ending → A) → Told say 0 g.answers g.lent
  told_first say = record { count = refl; done = λ k h. absurd (omega arith) }

  module _ (none : 0 ≡ first (checks_tray g)) where
    p : HasPassed
    p = has_passed none

    pub waits_first : (w : List ℕ) → Begun D.code g.space w → Waits 0 g.lent w
    waits_first w h = record {
      upto = omega arith;
      arrays = refl;
      flags = refl;
      rest = λ k l m. refl;
      space = let (_, _, e, _) = left_by 0 p.some_marks in subst (λ (m : ℕ). Space m w) (sym e) h;
    }

    -- with marks left the space has what they share
    module _ (i : ℕ) (b : Buffers) (w : List ℕ) (h : Waits i b w) (more : i < marks g) where
      begun : Begun D.code g.space w
      begun = let (_, _, e, _) = left_by i more in subst (λ (m : ℕ). Space m w) e h.space

      pub lies : Lies D g.limit i g.received b w
      lies = record {
        common = p.common;
        most_rows = p.common.counts.most_rows;
        most_columns = p.common.counts.most_columns;
        few = omega (arith, p.few_marks);
        received = row_within (cells D.code) (marks g) i g.received more p.received;
        array = row_within (cells D.code) (marks g) i b.array more (h.arrays ∙ p.arrays);
        flags = row_within (columns D.code) (marks g) i b.flags more (h.flags ∙ p.flags);
        shared = begun.shared;
      }

      module _ (e : Ending) (b' : Buffers) (w' : List ℕ) (q : Marked D g.limit i g.received b w e b' w') where
        -- the mark itself, and the others
        here : mark_of D.code i b' ≡ q.own
        here = λ j. record {
          array = (ap (part (i * cells D.code) (cells D.code)) q.array
              ∙ row_laid (cells D.code) i q.own.array b.array q.array_size lies.array) j;
          flags = (ap (part (i * columns D.code) (columns D.code)) q.flags
              ∙ row_laid (columns D.code) i q.own.flags b.flags q.flags_size lies.flags) j;
        }

        others : (k : ℕ) → ¬ (k ≡ i) → k < marks g → mark_of D.code k b' ≡ mark_of D.code k b
        others k d r = λ j. record {
          array = (ap (part (k * cells D.code) (cells D.code)) q.array
              ∙ other_rows (cells D.code) i q.own.array b.array q.array_size k d
              (row_within (cells D.code) (marks g) k b.array r (h.arrays ∙ p.arrays))) j;
          flags = (ap (part (k * columns D.code) (columns D.code)) q.flags
              ∙ other_rows (columns D.code) i q.own.flags b.flags q.flags_size k d
              (row_within (columns D.code) (marks g) k b.flags r (h.flags ∙ p.flags))) j;
        }

        pub waits_next : Waits (i + 1) b' w'
        waits_next = record {
          upto = omega arith;
          arrays = ap length q.array ∙ length-lay (i * cells D.code) q.own.array b.array ∙ h.arrays;
          flags = ap length q.flags ∙ length-lay (i * columns D.code) q.own.flags b.flags ∙ h.flags;
          rest = λ k r t. others k (λ e. omega arith) t ∙ h.rest k (omega arith) t;
          space = let (n, all, _, same) = left_by i more in
              subst (λ (m : ℕ). Space m w') (sym same) (space_next p i b h.arrays w w' begun q.space n all);
        }

        module _ (say : Ending → A) (s : List A) (t : Told say i s b) (x : A) (is : x ≡ say e) where
          decoded : Alone say g (set s i x) b' i
          decoded =
              let (w, d) = q.decoded g.space p.space in
              record {
                ending = e;
                space = w;
                decodes = subst (λ (o : Buffers). Decodes (alone g i) (left e o w)) (sym here)
                    (subst (λ (o : Buffers). Decodes (given D g.limit (received_of D.code i g.received) o g.space) (left e q.own w))
                    (h.rest i (omega arith) more) d);
                answer = get_or-set_same s i x (say Nothing) (omega (arith, t.count)) ∙ is;
              }

          kept : (k : ℕ) → ¬ (k ≡ i) → k < marks g → Alone say g s b k → Alone say g (set s i x) b' k
          kept k d r o = record {
            ending = o.ending;
            space = o.space;
            decodes = subst (λ (m : Buffers). Decodes (alone g k) (left o.ending m o.space)) (sym (others k d r)) o.decodes;
            answer = get_or-set_other s i k x (say Nothing) d ∙ o.answer;
          }

          pub told_next : Told say (i + 1) (set s i x) b'
          told_next = record { count = length-set s i x ∙ t.count; done = λ k r. each k r (ℕ_discrete k i) }
            where
              each : (k : ℕ) → k < i + 1 → Dec (k ≡ i) → Alone say g (set s i x) b' k
              each k r (yes e) = subst (Alone say g (set s i x) b') (sym e) decoded
              each k r (no e) = kept k e (omega arith) (t.done k (omega arith))

    -- behind the last mark
    pub filled : (i : ℕ) (b : Buffers) (w : List ℕ) → Waits i b w → ¬ (i < marks g) → (say : Ending → A) (s : List A)
        → Told say i s b → DecodesTray say g (left_tray (Ok tt) s b w)
    filled i b w h stop say s t =
        let all : i ≡ marks g = omega (arith, h.upto) in
        let no_more : marks g - i ≡ 0 = omega arith in
        does (checks_tray g) _ _ _ none (
          refl,
          record {
            count = t.count;
            arrays = h.arrays;
            flags = h.flags;
            marks = λ k more. t.done k (omega arith);
          },
          subst (λ (m : ℕ). Space m w) no_more h.space,
        )
