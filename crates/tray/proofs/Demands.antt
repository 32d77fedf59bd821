-- What the user asks of the decoding of a tray, as theorems about its promise: g is what a call is given, and l what it leaves.
--
-- 'Nothing by halves', of the tray.
--   refused_exactly     it is refused whole exactly when a check of the tray applies
--   refused_leaves      then its number is that of the first that does, and answers, arrays, flags and working space are as lent
--   space_cleared       unless it is refused, the first 49,152 bytes of the working space are zero, even where every mark is refused,
--                       and those beyond are as lent
--
-- 'Demands 1 and 3 then read for each mark': of a tray that is not refused, and each mark k of it.
--   each_alone          the mark's answer, array and flags are those of a call for it alone
--   only_seven, seven_exactly    a mark is refused with 7, for its symbols, and no other number, and exactly when it has a symbol outside the field
--   mark_as_lent        unless its ending is 'corrected', its array and flags are as lent
--   corrected_nearest, none_far, safe_exactly, safe_otherwise    what the ending means for code arrays
--   detail_small        its detail is below 256
--
-- The answer.
--   answer_tells        an answer's two numbers tell the ending
-- Assumes nothing.
use mathlib.Core.Path.{◌≡◌, refl, sym, ap, ◌∙◌}
use mathlib.Core.Logic.{◌↔◌}
use mathlib.Core.Bool.{Bool, true, false}
use mathlib.Core.List.{List, [], ◌∷◌}
use Prim.Native.Nat.{ℕ, suc, ◌*◌, ◌≤◌, ◌<◌}
use native.Mathlib.Omega.{arith}
use lib.ListN.{get_or}
use Rattle.patch.proofs.Parts.{length_part}
use Rattle.refusal.specs.Refusal.{◌when◌, first, some_outside_field}
use Rattle.refusal.specs.Meaning.{refusal, number_of, detail_of}
use Rattle.refusal.specs.Numbers.{number}
use Rattle.refusal.specs.declared.Refusal.{Refusal}
use Rattle.refusal.specs.declared.Refusal.TheVariants.{Symbols}
use Rattle.refusal.proofs.Keeping.{told}
use Rattle.refusal.proofs.Ladders.{hit, first_upto}
use Rattle.refusal.proofs.Numbers.{same_reason}
use Rattle.codes.specs.Code.{Code, columns, wrong_count, flags_of, safe_limit}
use Rattle.codes.specs.Factors.{Description, CodeArrayBy}
use Rattle.codes.specs.Near.{Nearest, Near, Far}
use Rattle.codes.specs.Checks.{space_bytes}
use Rattle.mark.specs.Promises.{success}
use Rattle.ending.specs.Endings.{meaning}
use Rattle.ending.specs.declared.Ending.{Ending}
use Rattle.ending.specs.declared.Ending.TheVariants.{Refused, Corrected, Nothing}
use Rattle.ending.proofs.Unique.{meaning_faithful}
use Rattle.joint.specs.Promises.{Left, left, cleared, checks_of}
use Rattle.joint.proofs.Halves.{IsCorrected, zeros_before, rest_behind}
use Rattle.joint.proofs.Demands as single
use Rattle.tray.specs.declared.Answer.{Answer}
use Rattle.tray.specs.Promises.{answer_of, GivenTray, LeftTray, refused_tray, Alone, Fills}
use Rattle.tray.specs.Promises.{DecodesTray, alone, cells, received_of, mark_of, checks_tray}
use Rattle.tray.proofs.Places.{row_within}
use Rattle.tray.proofs.Single.{own_check as single-check}
use Rattle.tray.proofs.Filled.{marks, has_passed}

pub answer_tells : (e e' : Ending) → answer_of e ≡ answer_of e' → e ≡ e'
answer_tells e e' p = meaning_faithful e e' (ap (λ (a : Answer). a.ending) p) (ap (λ (a : Answer). a.detail) p)

not_done : {k : ℕ} → ¬ (success ≡ refusal k)
not_done e = omega (arith, ap number_of e)

same_number : {j k : ℕ} → refusal j ≡ refusal k → j ≡ k
same_number e = ap detail_of e

-- check 7 alone
of_seven : {b : Bool} → b ≡ true → first ((7 when b) ∷ []) ≡ 7
of_seven e = hit 7 _ [] e

seven_of : (b : Bool) (j : ℕ) → j ≡ first ((7 when b) ∷ []) → 1 ≤ j → (j ≡ 7) × (b ≡ true)
unfolding first
seven_of true j e some = (e, refl)
seven_of false j e some = absurd (omega arith)

module _ {A : Type 0} (say : Ending → A) (g : GivenTray A) where
  abbrev D : Description
  D = g.description

  abbrev c : Code
  c = D.code

  -- of the checks of a mark alone, those that are common to the tray do not apply
  module _ (none : 0 ≡ first (checks_tray g)) (k : ℕ) (within : k < marks g) where
    abbrev bad : Bool
    bad = some_outside_field c.degree (received_of c k g.received)

    own_check : first (checks_of (alone g k)) ≡ first ((7 when bad) ∷ [])
    own_check =
        let p = has_passed g none in
        let n = columns c in
        single-check D g.limit p.common (received_of c k g.received) (mark_of c k g.lent)
        (length_part (k * cells c) (cells c) g.received (row_within (cells c) (marks g) k g.received within p.received))
        (length_part (k * cells c) (cells c) g.lent.array (row_within (cells c) (marks g) k g.lent.array within p.arrays))
        (length_part (k * n) n g.lent.flags (row_within n (marks g) k g.lent.flags within p.flags)) g.space p.space

  module _ (l : LeftTray A) (h : DecodesTray say g l) where
    abbrev IsRefused : Type 0
    IsRefused = (k : ℕ) × (l.outcome ≡ refusal k)

    abbrev Done : LeftTray A → Type 0
    Done l = (l.outcome ≡ success) × Fills say g l.answers l.buffers × (l.space ≡ cleared g.space)

    by_number : {P : Type 0} → (0 ≡ first (checks_tray g) → Done l → P)
        → ((k : ℕ) → suc k ≡ first (checks_tray g) → l ≡ refused_tray g (suc k) → P) → P
    by_number = told (checks_tray g) (refused_tray g) Done l h

    pub refused_exactly : IsRefused ↔ ¬ (first (checks_tray g) ≡ 0)
    refused_exactly = (
      λ (k, e) z. by_number (λ p d. not_done (sym d.0 ∙ e)) (λ j p d. omega arith),
      λ n. by_number (λ p d. absurd (n (sym p))) (λ j p d. (suc j, ap (λ (x : LeftTray A). x.outcome) d)),
    )

    pub refused_leaves : (k : ℕ) → l.outcome ≡ refusal k → (k ≡ first (checks_tray g)) × (1 ≤ k) × (k ≤ 23)
        × (l.answers ≡ g.answers) × (l.buffers ≡ g.lent) × (l.space ≡ g.space)
    refused_leaves k e = by_number
        (λ p d. absurd (not_done (sym d.0 ∙ e)))
        (λ j p d.
        let same : k ≡ suc j = same_number (sym e ∙ ap (λ (x : LeftTray A). x.outcome) d) in
        let most = first_upto 23 (checks_tray g) refl in (
          omega arith,
          omega arith,
          omega arith,
          ap (λ (x : LeftTray A). x.answers) d,
          ap (λ (x : LeftTray A). x.buffers) d,
          ap (λ (x : LeftTray A). x.space) d,
        ))

    module _ (not : ¬ IsRefused) where
      done : (0 ≡ first (checks_tray g)) × Done l
      done = by_number (λ p d. (p, d)) (λ j p d. absurd (not (suc j, ap (λ (x : LeftTray A). x.outcome) d)))

      pub space_cleared : ((i : ℕ) → i < space_bytes → get_or l.space i 0 ≡ 0)
          × ((i : ℕ) → space_bytes ≤ i → get_or l.space i 0 ≡ get_or g.space i 0)
      unfolding cleared
      space_cleared = (
        λ i q. ap (λ (w : List ℕ). get_or w i 0) done.1.2 ∙ zeros_before space_bytes g.space i q,
        λ i q. ap (λ (w : List ℕ). get_or w i 0) done.1.2 ∙ rest_behind space_bytes g.space i q,
      )

      module _ (k : ℕ) (within : k < marks g) where
        pub each_alone : Alone say g l.answers l.buffers k
        each_alone = done.1.1.marks k within

        abbrev mark : Left
        mark = left each_alone.ending (mark_of c k l.buffers) each_alone.space

        abbrev y : List ℕ
        y = received_of c k g.received

        pub only_seven : (r : Refusal) → each_alone.ending ≡ Refused r
            → (r ≡ Symbols) × (some_outside_field c.degree y ≡ true) × (mark_of c k l.buffers ≡ mark_of c k g.lent)
        only_seven r e =
            let h = single.refused_leaves (alone g k) mark each_alone.decodes r e in
            let s = seven_of (some_outside_field c.degree y) (number r) (h.0 ∙ own_check done.0 k within) h.1 in
            (same_reason r Symbols s.0, s.1, h.3)

        pub seven_exactly : (each_alone.ending ≡ Refused Symbols) ↔ (some_outside_field c.degree y ≡ true)
        seven_exactly = (
          λ e. (only_seven Symbols e).1,
          λ b.
              let (r, e) = (single.refused_exactly (alone g k) mark each_alone.decodes).1
              (λ z. let s : 7 ≡ 0 = sym (of_seven b) ∙ sym (own_check done.0 k within) ∙ z in omega arith) in
              e ∙ ap Refused (only_seven r e).0,
        )

        pub mark_as_lent : ¬ IsCorrected mark → mark_of c k l.buffers ≡ mark_of c k g.lent
        mark_as_lent = single.as_lent (alone g k) mark each_alone.decodes

        pub corrected_nearest : (w : ℕ) → each_alone.ending ≡ Corrected w
            → Nearest (CodeArrayBy D) (wrong_count c y) g.limit w (mark_of c k l.buffers).array
            × ((mark_of c k l.buffers).flags ≡ flags_of c y (mark_of c k l.buffers).array)
        corrected_nearest = single.corrected_nearest (alone g k) mark each_alone.decodes

        pub none_far : each_alone.ending ≡ Nothing → Far (CodeArrayBy D) (wrong_count c y) g.limit
        none_far = single.none_far (alone g k) mark each_alone.decodes

        pub detail_small : detail_of (meaning each_alone.ending) < 256
        detail_small = single.detail_small (alone g k) mark each_alone.decodes

        module _ (safe : g.limit ≤ safe_limit c) (right : ¬ (some_outside_field c.degree y ≡ true)) where
          not_refused : ¬ ((r : Refusal) × (each_alone.ending ≡ Refused r))
          not_refused (r, e) = right (only_seven r e).1

          pub safe_exactly : IsCorrected mark ↔ Near (CodeArrayBy D) (wrong_count c y) g.limit
          safe_exactly = single.safe_exactly (alone g k) mark each_alone.decodes safe not_refused

          pub safe_otherwise : ¬ IsCorrected mark → Far (CodeArrayBy D) (wrong_count c y) g.limit
          safe_otherwise = single.safe_otherwise (alone g k) mark each_alone.decodes safe not_refused
