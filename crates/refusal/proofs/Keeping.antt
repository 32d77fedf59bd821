-- How a call with checks keeps its promise, and what the promise says; once for all calls.
--
--   refuses, does    the promise is kept by the refusal that applies, and by the call's own end where none does
--   told             a kept promise, case by case
--   unique           if no two ends are the call's own, no two outcomes keep the promise
--   same_keeps       checks with the same first one, and ends that follow from one another: so do the promises
-- Assumes nothing.
use mathlib.Core.Path.{◌≡◌, refl, sym, ap, ◌∙◌, subst}
use mathlib.Core.List.{List}
use Prim.Native.Nat.{ℕ, zero, suc}
use native.Mathlib.Omega.{arith}
use Rattle.refusal.specs.Refusal.{Check, first}
use Rattle.refusal.specs.Keeping.{By, Keeps}

module _ {L : Type 0} (cs : List Check) (refused : ℕ → L) (Done : L → Type 0) where
  refuses_by : (n : ℕ) {k : ℕ} → k ≡ n → (k ≡ 0 → ⊥) → By n refused Done (refused k)
  refuses_by zero e z = absurd (z e)
  refuses_by (suc n) e z = ap refused e

  pub refuses : {k : ℕ} → k ≡ first cs → (k ≡ 0 → ⊥) → Keeps cs refused Done (refused k)
  refuses = refuses_by (first cs)

  does_by : (n : ℕ) (l : L) → 0 ≡ n → Done l → By n refused Done l
  does_by zero l e d = d
  does_by (suc n) l e d = absurd (omega arith)

  pub does : (l : L) → 0 ≡ first cs → Done l → Keeps cs refused Done l
  does = does_by (first cs)

  pub told : {P : Type 0} (l : L) → Keeps cs refused Done l → (0 ≡ first cs → Done l → P)
      → ((k : ℕ) → suc k ≡ first cs → l ≡ refused (suc k) → P) → P
  told {P} l h done stopped = go (first cs) refl h
    where
      go : (n : ℕ) → n ≡ first cs → By n refused Done l → P
      go zero e d = done e d
      go (suc k) e d = stopped k e d

  pub unique : (0 ≡ first cs → (x y : L) → Done x → Done y → x ≡ y) → (x y : L) → Keeps cs refused Done x → Keeps cs refused Done y → x ≡ y
  unique own x y = go (first cs) own
    where
      go : (n : ℕ) → (0 ≡ n → (x y : L) → Done x → Done y → x ≡ y) → By n refused Done x → By n refused Done y → x ≡ y
      go zero o p q = o refl x y p q
      go (suc k) o p q = p ∙ sym q

pub same_keeps : {L : Type 0} (cs ds : List Check) (refused : ℕ → L) (Done Done' : L → Type 0) → first cs ≡ first ds
    → (0 ≡ first cs → (l : L) → Done l → Done' l) → (l : L) → Keeps cs refused Done l → Keeps ds refused Done' l
same_keeps {L} cs ds refused Done Done' e f l h = subst (λ (n : ℕ). By n refused Done' l) e (go (first cs) f h)
  where
    go : (n : ℕ) → (0 ≡ n → (l : L) → Done l → Done' l) → By n refused Done l → By n refused Done' l
    go zero g d = g refl l d
    go (suc k) g d = d
