-- What calls that hand a thing over, as the desk's do, hand over, by whether a check applies.
--
--   hands, hands_not    how a call keeps its promise: where no check applies, and with the first refusal's number
--   handed              what is handed over, by whether a check applies; handed_done, where none does; handed_by, with the outcome
--   hands_unique        where there is one next thing, no two answers keep the promise
-- Assumes nothing.
use mathlib.Core.Path.{◌≡◌, refl, sym, ap, ◌∙◌}
use mathlib.Core.List.{List}
use Prim.Native.Nat.{ℕ}
use native.Mathlib.Omega.{arith}
use Rattle.refusal.specs.Refusal.{Check, first}
use Rattle.std.proofs.Common.{Ok, Err}
use Rattle.refusal.specs.Meaning.{Meaning, refusal, number_of}
use Rattle.refusal.proofs.Keeping as keeping
use Rattle.refusal.specs.Numbers.{number}
use Rattle.refusal.specs.declared.Refusal.{Refusal}
use Rattle.mark.specs.Promises.{Outcome, success, meaning, Hands}
use Rattle.mark.proofs.Promised.{meaning_faithful}

module _ {A : Type 0} (cs : List Check) (Next : A → Type 0) (refused : A) where
  abbrev refusing : ℕ → Meaning × A
  refusing k = (refusal k, refused)

  abbrev Own : Meaning × A → Type 0
  Own h = (h.0 ≡ success) × Next h.1

  pub hands : {next : A} → 0 ≡ first cs → Next next → Hands cs Next refused (success, next)
  hands none next = keeping.does cs refusing Own _ none (refl, next)

  pub hands_not : {k : ℕ} {same : A} → k ≡ first cs → (k ≡ 0 → ⊥) → same ≡ refused → Hands cs Next refused (refusal k, same)
  hands_not e z is = rw is (keeping.refuses cs refusing Own e z)

  pub handed : {P : Type 0} (h : Meaning × A) → Hands cs Next refused h → (0 ≡ first cs → Next h.1 → P) → (h.1 ≡ refused → P) → P
  handed h k ok stopped = keeping.told cs refusing Own h k
      (λ none own. ok none own.1)
      (λ j some e. stopped (ap (λ (h : Meaning × A). h.1) e))

  pub handed_done : (h : Meaning × A) → Hands cs Next refused h → 0 ≡ first cs → Next h.1
  handed_done h k none = keeping.told cs refusing Own h k (λ z own. own.1) (λ j some e. absurd (omega arith))

  pub handed_by : {P : Type 0} (o : Outcome) (a : A) → Hands cs Next refused (meaning o, a) → (0 ≡ first cs → o ≡ Ok tt → Next a → P)
      → ((r : Refusal) → o ≡ Err r → a ≡ refused → P) → P
  handed_by (Ok u) a k ok stopped = keeping.told cs refusing Own (success, a) k
      (λ none own. ok none refl own.1)
      (λ j some e. absurd (omega (arith, ap (λ (h : Meaning × A). number_of h.0) e)))
  handed_by (Err r) a k ok stopped = keeping.told cs refusing Own (refusal (number r), a) k
      (λ none own. absurd (omega (arith, ap number_of own.0)))
      (λ j some e. stopped r refl (ap (λ (h : Meaning × A). h.1) e))

  pub hands_unique : (0 ≡ first cs → (a b : A) → Next a → Next b → a ≡ b) → (o o' : Outcome) (a a' : A)
      → Hands cs Next refused (meaning o, a) → Hands cs Next refused (meaning o', a') → (o ≡ o') × (a ≡ a')
  hands_unique one o o' a a' p q =
      let e = keeping.unique cs refusing Own
      (λ none x y p q. both x y (p.0 ∙ sym q.0) (one none x.1 y.1 p.1 q.1)) (meaning o, a) (meaning o', a') p q in
      (meaning_faithful o o' (ap (λ (h : Meaning × A). h.0) e), ap (λ (h : Meaning × A). h.1) e)
    where
      both : (x y : Meaning × A) → x.0 ≡ y.0 → x.1 ≡ y.1 → x ≡ y
      both x y p q = λ i. (p i, q i)
