-- The promise of the arithmetic calls.
--
--   meaning_faithful no two answers mean the same
--   unique           no two answers keep it
--   refuses, gives   how it is kept: with the first refusal's number, or with the symbol where there is none
--   Operands d a b   what is known where no check applies; operands, that it is
--   nonzero          no check of the quotient lets a zero divisor pass
--   quotient_exists, quotient_unique    where no check of the quotient applies, there is one symbol c with c·b = a, and one alone
-- Assumes nothing.
use mathlib.Core.Path.{◌≡◌, refl, sym, ap, ◌∙◌}
use mathlib.Core.Bool.{Bool, true, false, ◌||◌}
use mathlib.Core.List.{List, [], ◌∷◌}
use Prim.Native.Nat.{ℕ, ◌^◌, ◌<◌}
use native.Mathlib.Omega.{arith}
use borrow.Author.Tests.{eq-eqb}
use Rattle.refusal.specs.Refusal.{Check, ◌when◌, first, bad_degree, outside_field}
use Rattle.refusal.specs.Meaning.{refusal, number_of, detail_of}
use Rattle.refusal.proofs.Laws.{inside}
use Rattle.refusal.proofs.Keeping as keeping
use Rattle.refusal.proofs.Ladders.{hit, passed_on, front_passed}
use Rattle.std.proofs.Common.{Ok, Err}
use Rattle.std.specs.Prelude.{Result}
use Rattle.refusal.specs.Numbers.{number}
use Rattle.refusal.specs.declared.Refusal.{Refusal}
use Rattle.refusal.proofs.Numbers.{positive, same_reason}
use Rattle.field.specs.Values.{checks, quotient_checks, symbol, meaning, Gives}
use Rattle.field.specs.Symbols.{Quotient, over}
use Rattle.field.proofs.Powers.{over_below, over_times, over_unique}
use Rattle.field.proofs.Instance.{generated}

pub meaning_faithful : (v w : Result ℕ Refusal) → meaning v ≡ meaning w → v ≡ w
meaning_faithful (Ok s) (Ok t) e = ap Ok (ap detail_of e)
meaning_faithful (Ok s) (Err r) e = absurd (omega (arith, ap number_of e))
meaning_faithful (Err r) (Ok s) e = absurd (omega (arith, ap number_of e))
meaning_faithful (Err r) (Err q) e = ap Err (same_reason r q (ap detail_of e))

module _ (cs : List Check) (s : ℕ) where
  pub unique : (v w : Result ℕ Refusal) → Gives cs s v → Gives cs s w → v ≡ w
  unique v w p q = meaning_faithful v w
      (keeping.unique cs refusal (λ m. m ≡ symbol s) (λ e x y p q. p ∙ sym q) (meaning v) (meaning w) p q)

  pub refuses : (r : Refusal) → number r ≡ first cs → Gives cs s (Err r)
  refuses r e = keeping.refuses cs refusal (λ m. m ≡ symbol s) e (positive r)

  pub gives : {v : ℕ} → 0 ≡ first cs → v ≡ s → Gives cs s (Ok v)
  gives {v} e f = keeping.does cs refusal (λ m. m ≡ symbol s) (symbol v) e (ap symbol f)

pub record Operands (d a b : ℕ) : Type 0 where
  pub degree : bad_degree d ≡ false
  pub left : a < 2 ^ d
  pub right : b < 2 ^ d

pub operands : (d a b : ℕ) → 0 ≡ first (checks d a b) → Operands d a b
unfolding first
operands d a b e = go (bad_degree d) (outside_field d a) (outside_field d b) refl refl refl e
  where
    go : (x y z : Bool) → bad_degree d ≡ x → outside_field d a ≡ y → outside_field d b ≡ z
        → 0 ≡ first ((1 when x) ∷ (7 when y || z) ∷ []) → Operands d a b
    go true y z p q r f = absurd (omega arith)
    go false true z p q r f = absurd (omega arith)
    go false false true p q r f = absurd (omega arith)
    go false false false p q r f = record { degree = p; left = inside d a q; right = inside d b r }

-- 'the quotient': there is one, and one alone
module _ (d a b : ℕ) (none : 0 ≡ first (quotient_checks d a b)) where
  known : Operands d a b
  known = operands d a b (front_passed (checks d a b) _ tt none)

  pub nonzero : b ≡ 0 → ⊥
  nonzero e = let z : 25 ≡ first (quotient_checks d a b) =
      sym (passed_on (checks d a b) _ tt (front_passed (checks d a b) _ tt none) refl ∙ hit 25 _ [] (eq-eqb b 0 e)) in omega arith

  pub quotient_exists : Quotient d a b (over d a b)
  quotient_exists = record {
    symbol = over_below d a b;
    undoes = over_times d (generated d known.degree) a b known.left known.right nonzero;
  }

  pub quotient_unique : (c : ℕ) → Quotient d a b c → c ≡ over d a b
  quotient_unique c h = sym (over_unique d (generated d known.degree) a b c known.right h.symbol nonzero h.undoes)
