-- The promises of the desk's calls.
--
--   unique_opening, unique_putting, unique_verdict    no two answers keep them; a put, on a desk that came from opening and putting
-- Assumes nothing.
use mathlib.Core.Path.{◌≡◌, sym, ap₂, ◌∙◌, subst}
use mathlib.Core.List.{List, []}
use Prim.Native.Nat.{ℕ}
use Rattle.refusal.specs.Refusal.{first}
use Rattle.codes.specs.Factors.{Description}
use Rattle.mark.proofs.Handing.{hands_unique}
use Rattle.desk.specs.Desk.{zero_desk, spare, open_checks, with_array, placed, put_checks, Known, Next, Opens, Puts, Made}
use Rattle.desk.specs.Verdict.{Judges}
use Rattle.desk.specs.declared.Desk.{Desk}
use Rattle.desk.specs.declared.Judged.{Judged}
use Rattle.mark.specs.declared.Handed.{Handed}
use Rattle.desk.proofs.Sound.{sound, sound_placed, puttable}
use Rattle.desk.proofs.Verdicts.{same_count}
use Rattle.desk.proofs.Known.{one_known}

pub unique_opening : (D : Description) (r r' : Handed Desk) → Opens D r → Opens D r' → r ≡ r'
unique_opening D r r' p q =
    let e = hands_unique (open_checks D) (λ d. d ≡ zero_desk D) (zero_desk spare) (λ none d e p q. p ∙ sym q)
    r.outcome r'.outcome r.next r'.next p q in
    λ i. record { outcome = e.0 i; next = e.1 i }

-- the desk after a put is the one before with the column replaced, and what it knows is known of its array
one_next : {d : Desk} (i : ℕ) (s : List ℕ) → Made d → 0 ≡ first (put_checks d i s) → (e f : Desk) → Next d i s e → Next d i s f → e ≡ f
one_next {d} i s m none e f (is, k) (is', k') =
    let h = sound_placed d i s [] 0 (sound m) (puttable d i s none) in
    let same = one_known h e.above f.above e.misfits f.misfits (subst Known is k) (subst Known is' k') in
    is ∙ ap₂ (with_array d (placed d i s).array) same.0 same.1 ∙ sym is'

pub unique_putting : (d : Desk) (i : ℕ) (s : List ℕ) (r r' : Handed Desk) → Made d → Puts d i s r → Puts d i s r' → r ≡ r'
unique_putting d i s r r' m p q =
    let e = hands_unique (put_checks d i s) (Next d i s) d (one_next i s m) r.outcome r'.outcome r.next r'.next p q in
    λ i. record { outcome = e.0 i; next = e.1 i }

pub unique_verdict : (d : Desk) (r r' : Judged) → Judges d r → Judges d r' → r ≡ r'
unique_verdict d r r' p q =
    ap₂ (λ (v : ℕ) (e : Desk). record { verdict = v; desk = e }) (same_count p.number q.number) (p.kept ∙ sym q.kept)
