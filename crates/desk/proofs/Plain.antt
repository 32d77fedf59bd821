-- Factors of one: 02, 2026-11, 'All ones gives today's answers'.
--
--   Plain d           the desk's factors are ones
--   plain-checks      opening with ones is refused exactly by the checks that it had without factors: 1, 2, 3, 4, 18, 6
--   plain_opened      opening with ones hands over a desk with ones, refused or not; plain-put, putting keeps them
--   undivided         divided by ones, the array of a desk, made by calls or not, is as it was
--   plain_verdict     the verdict on a desk with ones is that on its array itself; plain_no_misfit, 0 exactly when it is a code array
-- Assumes nothing.
use mathlib.Core.Path.{◌≡◌, sym, ap, ◌∙◌, subst}
use mathlib.Core.Logic.Iff
use mathlib.Core.Logic.{◌↔◌}
use mathlib.Core.List.{List, [], ◌∷◌, ◌++◌}
use Prim.Native.Nat.{ℕ}
use lib.ListN.{length-replicate}
use Rattle.refusal.specs.Refusal.{◌when◌, first, bad_points}
use Rattle.refusal.proofs.Ladders.{clear, miss, same_behind}
use Rattle.field.proofs.Instance.{field}
use Rattle.codes.specs.Code.{Code, columns, IsArray, CodeArray}
use Rattle.codes.specs.Factors.{Description, divided, ones, plain}
use Rattle.codes.specs.Checks.{shape_checks, bad_factors}
use Rattle.codes.proofs.Proper.{Proper}
use Rattle.codes.proofs.Passed.{is_right}
use Rattle.codes.proofs.Factors.{each-one, ones_pass, divided-ones}
use Rattle.mark.specs.Promises.{meaning}
use Rattle.mark.proofs.Handing.{handed}
use Rattle.desk.specs.Desk.{desk_code, desk_description, array_of, zero_desk, spare, open_checks, put_checks, Next, Opens, Puts, Made}
use Rattle.desk.specs.Verdict.{Misfits, Verdict}
use Rattle.desk.specs.declared.Desk.{Desk}
use Rattle.mark.specs.declared.Handed.{Handed}
use Rattle.desk.proofs.Sound.{passed, described_zero, spare_passed, sound, is_array}
use Rattle.desk.proofs.NoMisfit.{quotient_code}

abbrev pub Plain : Desk → Type 0
Plain d = desk_description d ≡ plain (desk_code d)

pub plain-checks : (c : Code) → first (open_checks (plain c)) ≡ first (shape_checks 16 c ++ (6 when bad_points c.degree c.points) ∷ [])
plain-checks c = same_behind (shape_checks 16 c) _ ((6 when bad_points c.degree c.points) ∷ []) tt
    (λ none. miss 5 _ _ (is_right (columns c) (ones (columns c)) (length-replicate (columns c) 1))
    ∙ same_behind ((6 when bad_points c.degree c.points) ∷ []) _ [] tt
    (λ apart. miss 23 (bad_factors c.degree (ones (columns c))) []
    (ones_pass c.degree (field c.degree (clear 0 _ _ none).0) (ones (columns c)) (each-one (columns c)))))

-- what holds of an array, holds of one that it is
of_itself : {a b : List ℕ} (P : List ℕ → Type 0) → a ≡ b → P a ↔ P b
of_itself P e = (λ h. subst P e h, λ h. subst P (sym e) h)

-- a desk of which the description is a plain one
described : (d : Desk) (c : Code) → desk_description d ≡ plain c → Plain d
described d c e = e ∙ ap (λ (D : Description). plain D.code) (sym e)

pub plain_opened : (c : Code) (r : Handed Desk) → Opens (plain c) r → Plain r.next
plain_opened c r h = handed (open_checks (plain c)) (λ d. d ≡ zero_desk (plain c)) (zero_desk spare) (meaning r.outcome, r.next) h
    (λ none e. subst Plain (sym e) (described (zero_desk (plain c)) c (described_zero (plain c) (passed (plain c) none))))
    (λ e. subst Plain (sym e) (described (zero_desk spare) spare.code (described_zero spare spare_passed)))

pub plain-put : (d : Desk) (i : ℕ) (s : List ℕ) (r : Handed Desk) → Plain d → Puts d i s r → Plain r.next
plain-put d i s r p h = handed (put_checks d i s) (Next d i s) d (meaning r.outcome, r.next) h
    (λ none e. subst Plain (sym e.0) p)
    (λ e. subst Plain (sym e) p)

pub undivided : (d : Desk) → Proper (desk_code d) → IsArray (desk_code d) (array_of d) → Plain d
    → divided (desk_description d) (array_of d) ≡ array_of d
undivided d y i p = ap (λ (D : Description). divided D (array_of d)) p ∙ divided-ones (desk_code d) y i

module _ {d : Desk} (m : Made d) (p : Plain d) where
  same : divided (desk_description d) (array_of d) ≡ array_of d
  same = undivided d (sound m).frame.proper (is_array (sound m)) p

  pub plain_verdict : (v : ℕ) → Verdict d v ↔ Misfits (desk_code d).degree (desk_code d).points (desk_code d).lengths (array_of d) v
  plain_verdict v = of_itself (λ a. Misfits (desk_code d).degree (desk_code d).points (desk_code d).lengths a v) same

  pub plain_no_misfit : Verdict d 0 ↔ CodeArray (desk_code d) (array_of d)
  plain_no_misfit = Iff.trans (quotient_code m) (of_itself (CodeArray (desk_code d)) same)
